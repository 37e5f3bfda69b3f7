-- Pieces whose places are left out, and the places of pieces in order.
use Rattle.std.proofs.Common.{◌≡◌, ◌≢◌, List, [], ◌∷◌, ◌++◌, map, append_assoc, ap, refl}
use Rattle.std.specs.Prelude.{All, flat_map}
use Rattle.std.proofs.lemmas.List.{map-append, append-nil}
use Rattle.std.proofs.lemmas.Grind.{flat_map-append}
use Rattle.std.proofs.lemmas.List.Elements.{All-head, All-tail}
use Rattle.k_parse_steps.specs.Types.{Place, TokenKind}
use Rattle.k_tree.specs.Bare.{nowhere}
use Rattle.k_tree.specs.Places.{Pieces, plain, at, lay_with_commas, lay_behind_commas, lay_row}
use Rattle.k_tree.specs.Spelling.{Spelled}
use Rattle.k_parse.proofs.ReplacedFilling.{Filling, fill_list}

-- the pieces with as many places at each, all of them nowhere
abbrev pub blank : Pieces → Pieces
blank xs = map (λ x. record { what = x.what; places = map (λ p. nowhere) x.places }) xs

-- the places of pieces, in order
abbrev pub places_of : Pieces → List Place
places_of xs = flat_map (λ x. x.places) xs

-- from the places of these pieces, and any behind them, this is filled in to x
abbrev pub Fills : {A : Type 0} → Pieces → Filling A → A → Type 0
Fills xs fill x = (ps : List Place) → fill (places_of xs ++ ps) ≡ (x, ps)

pub blank-plain : (tokens : Spelled) → blank (plain tokens) ≡ plain tokens
blank-plain [] = refl
blank-plain (t ∷ tokens) = ap (λ rest. record { what = t; places = [] } ∷ rest) (blank-plain tokens)

pub blank-at : (p : Place) (xs : Pieces) → blank (at p xs) ≡ at nowhere (blank xs)
blank-at p [] = refl
blank-at p (x ∷ xs) = refl

pub places-append : (xs ys : Pieces) → places_of (xs ++ ys) ≡ places_of xs ++ places_of ys
places-append xs ys = flat_map-append (λ x. x.places) xs ys

-- behind tokens at which no node stands
pub places-behind_plain : (tokens : Spelled) (xs : Pieces) → places_of (plain tokens ++ xs) ≡ places_of xs
places-behind_plain [] xs = refl
places-behind_plain (t ∷ tokens) xs = places-behind_plain tokens xs

pub places-plain : (tokens : Spelled) → places_of (plain tokens) ≡ []
places-plain [] = refl
places-plain (t ∷ tokens) = places-plain tokens

-- a node at the first of tokens at which no other stands
pub places-first : (p : Place) (t : TokenKind) (tokens : Spelled) (xs : Pieces)
    → places_of (at p (plain (t ∷ tokens)) ++ xs) ≡ p ∷ places_of xs
places-first p t tokens xs = ap (λ ps. p ∷ ps) (places-behind_plain tokens xs)

-- before tokens at which no node stands
pub places-ended : (xs : Pieces) (a b : Spelled) → places_of ((xs ++ plain a) ++ plain b) ≡ places_of xs
places-ended xs a b = simp (places-append, places-plain, append-nil)

pub places-at : (p : Place) (xs : Pieces) → xs ≢ [] → places_of (at p xs) ≡ p ∷ places_of xs
places-at p [] h = absurd (h refl)
places-at p (x ∷ xs) h = refl

-- pieces behind pieces
pub append_laid : (xs ys : Pieces) → xs ≢ [] → xs ++ ys ≢ []
append_laid [] ys h e = h refl
append_laid (x ∷ xs) ys h e = cc

behind_blank : {A : Type 0} (P : A → Type 0) (lay : A → Pieces) (bare : A → A) → ((x : A) → P x → lay (bare x) ≡ blank (lay x))
    → (xs : List A) → All P xs → lay_behind_commas (map lay (map bare xs)) ≡ blank (lay_behind_commas (map lay xs))
behind_blank P lay bare each [] h = refl
behind_blank P lay bare each (x ∷ xs) h =
    simp (map-append, each x (All-head P x xs h), behind_blank P lay bare each xs (All-tail P x xs h))

pub commas_blank : {A : Type 0} (P : A → Type 0) (lay : A → Pieces) (bare : A → A) → ((x : A) → P x → lay (bare x) ≡ blank (lay x))
    → (xs : List A) → All P xs → lay_with_commas (map lay (map bare xs)) ≡ blank (lay_with_commas (map lay xs))
commas_blank P lay bare each [] h = refl
commas_blank P lay bare each (x ∷ xs) h =
    simp (map-append, each x (All-head P x xs h), behind_blank P lay bare each xs (All-tail P x xs h))

pub row_blank : {A : Type 0} (P : A → Type 0) (lay : A → Pieces) (bare : A → A) → ((x : A) → P x → lay (bare x) ≡ blank (lay x))
    → (xs : List A) → All P xs → lay_row (map lay (map bare xs)) ≡ blank (lay_row (map lay xs))
row_blank P lay bare each [] h = refl
row_blank P lay bare each (x ∷ xs) h =
    simp (map-append, each x (All-head P x xs h), row_blank P lay bare each xs (All-tail P x xs h))

-- items without places, each of which takes its own again
abbrev pub fill_each : {A : Type 0} → (A → A) → (A → Filling A) → List A → Filling (List A)
fill_each bare fill xs = fill_list (map (λ x. record { from = fill x }) (map bare xs))

behind_filled : {A : Type 0} (P : A → Type 0) (lay : A → Pieces) (bare : A → A) (fill : A → Filling A)
    → ((x : A) → P x → Fills (lay x) (fill (bare x)) x)
    → (xs : List A) → All P xs → Fills (lay_behind_commas (map lay xs)) (fill_each bare fill xs) xs
behind_filled P lay bare fill each [] h ps = refl
behind_filled P lay bare fill each (x ∷ xs) h ps =
    simp (places-append, append_assoc, each x (All-head P x xs h), behind_filled P lay bare fill each xs (All-tail P x xs h))

pub commas_filled : {A : Type 0} (P : A → Type 0) (lay : A → Pieces) (bare : A → A) (fill : A → Filling A)
    → ((x : A) → P x → Fills (lay x) (fill (bare x)) x)
    → (xs : List A) → All P xs → Fills (lay_with_commas (map lay xs)) (fill_each bare fill xs) xs
commas_filled P lay bare fill each [] h ps = refl
commas_filled P lay bare fill each (x ∷ xs) h ps =
    simp (places-append, append_assoc, each x (All-head P x xs h), behind_filled P lay bare fill each xs (All-tail P x xs h))

pub row_filled : {A : Type 0} (P : A → Type 0) (lay : A → Pieces) (bare : A → A) (fill : A → Filling A)
    → ((x : A) → P x → Fills (lay x) (fill (bare x)) x)
    → (xs : List A) → All P xs → Fills (lay_row (map lay xs)) (fill_each bare fill xs) xs
row_filled P lay bare fill each [] h ps = refl
row_filled P lay bare fill each (x ∷ xs) h ps =
    simp (places-append, append_assoc, each x (All-head P x xs h), row_filled P lay bare fill each xs (All-tail P x xs h))
