-- Rows that grow at their end.
use Rattle.std.proofs.Common.{ℕ, ◌≡◌, List, [], ◌∷◌, ◌++◌, map, sym, ◌∙◌, ap, arith, append_assoc, length, refl}
use Rattle.std.specs.Prelude.{max}
use Rattle.std.proofs.lemmas.List.{append-nil, map-append}
use Rattle.k_parse_steps.specs.Types.{Place, Token}
use Rattle.k_tree.specs.Nesting.{deepest}
use Rattle.k_tree.specs.Places.{Pieces, at, lay_row, Stand}
use Rattle.std.proofs.lemmas.List.Elements.{All-cons}

pub row_push : {A : Type 0} (lay : A → Pieces) (xs : List A) (x : A) → lay_row (map lay (xs ++ x ∷ [])) ≡ lay_row (map lay xs) ++ lay x
row_push lay [] x = append-nil (lay x)
row_push lay (y ∷ xs) x = ap (λ z. lay y ++ z) (row_push lay xs x) ∙ sym (append_assoc (lay y) (lay_row (map lay xs)) (lay x))

pub deepest_more : {A : Type 0} (depth : A → ℕ) (xs : List A) (x : A) → deepest (map depth (xs ++ x ∷ [])) ≡ max (deepest (map depth xs)) (depth x)
deepest_more depth [] x = omega arith
deepest_more depth (y ∷ xs) x = omega (arith, deepest_more depth xs x)

-- the first token stands at a place
abbrev pub StartsAt : Place → List Token → Type 0
StartsAt p [] = ⊥
StartsAt p (t ∷ ts) = t.place ≡ p

pub starts-more : (p : Place) (ts us : List Token) → StartsAt p ts → StartsAt p (ts ++ us)
starts-more p [] us h = absurd h
starts-more p (t ∷ ts) us h = h

pub at_stands : (p : Place) (xs : Pieces) (ts : List Token) → StartsAt p ts → Stand xs ts → Stand (at p xs) ts
at_stands p [] ts h st = st
at_stands p (x ∷ xs) [] h st = absurd st
at_stands p (x ∷ xs) (t ∷ ts) h st = (st.0, All-cons (λ q. q ≡ t.place) p x.places (sym h) st.1, st.2)

-- rows that are the same item by item are so with one item more
pub one_more : {A : Type 0} {B : Type 0} (f : A → B) (done seen : List A) (b a : A) → map f done ≡ map f seen → f b ≡ f a
    → map f (done ++ b ∷ []) ≡ map f (seen ++ a ∷ [])
one_more f done seen b a e h =
    map-append f done (b ∷ []) ∙ (ap (λ t. t ++ f b ∷ []) e ∙ (ap (λ t. map f seen ++ t ∷ []) h ∙ sym (map-append f seen (a ∷ []))))

pub no_items : {A : Type 0} (xs : List A) → length xs ≡ 0 → xs ≡ []
no_items [] h = refl
no_items (x ∷ xs) h = absurd (omega (arith, h))
