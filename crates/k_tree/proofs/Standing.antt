-- Laws of pieces that stand at tokens: row by row, token by token.
use Rattle.std.proofs.Common.{◌≡◌, List, [], ◌∷◌, ◌++◌, map, refl}
use Rattle.std.proofs.lemmas.List.Elements.{All-nil, All-cons}
use Rattle.k_num.specs.declared.place.Place.{Place}
use Rattle.k_tree.specs.declared.tokens.Token.{Token}
use Rattle.k_tree.specs.Places.{Piece, Pieces, plain, at, kinds_of, Stand}

pub stand-append : (xs ys : Pieces) (ts us : List Token) → Stand xs ts → Stand ys us → Stand (xs ++ ys) (ts ++ us)
stand-append [] ys [] us h g = g
stand-append [] ys (t ∷ ts) us h g = absurd h
stand-append (x ∷ xs) ys [] us h g = absurd h
stand-append (x ∷ xs) ys (t ∷ ts) us h g = (h.0, h.1, stand-append xs ys ts us h.2 g)

-- a node that has the place of the first token stands there
pub stand-at : (p : Place) (x : Piece) (xs : Pieces) (t : Token) (ts : List Token)
    → p ≡ t.place → Stand (x ∷ xs) (t ∷ ts) → Stand (at p (x ∷ xs)) (t ∷ ts)
stand-at p x xs t ts e h = (h.0, All-cons (λ q. q ≡ t.place) p x.places e h.1, h.2)

-- tokens at which no node stands
pub stand-plain : (ts : List Token) → Stand (plain (map (λ t. t.what) ts)) ts
stand-plain [] = tt
stand-plain (t ∷ ts) = (refl, All-nil (λ q. q ≡ t.place), stand-plain ts)

-- what stands at tokens is spelled by them
pub stand-kinds : (xs : Pieces) (ts : List Token) → Stand xs ts → map (λ t. t.what) ts ≡ kinds_of xs
stand-kinds [] [] h = refl
stand-kinds [] (t ∷ ts) h = absurd h
stand-kinds (x ∷ xs) [] h = absurd h
stand-kinds (x ∷ xs) (t ∷ ts) h = let e : map (λ t. t.what) ts ≡ kinds_of xs = stand-kinds xs ts h.2 in let q : t.what ≡ x.what = h.0 in cc
