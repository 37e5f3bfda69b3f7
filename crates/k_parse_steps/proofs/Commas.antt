-- Pieces with commas between them, and each with a comma behind it.
use Rattle.std.proofs.Common.{◌≡◌, ◌≢◌, List, [], ◌∷◌, ◌++◌, map, refl, sym, ◌∙◌, ap, append_assoc}
use Rattle.std.proofs.lemmas.List.{append-nil}
use Rattle.k_tree.specs.declared.tokens.mark.Mark.TheVariants as mark
use Rattle.k_tree.specs.Places.{Pieces, plain, lay_behind_commas, lay_with_commas}
use Rattle.k_tree.specs.Spelling.{the_mark}

abbrev pub comma : Pieces
comma = plain (the_mark mark.Comma)

-- each with a comma behind it
abbrev pub lay_each : {A : Type 0} → (A → Pieces) → List A → Pieces
lay_each lay [] = []
lay_each lay (x ∷ xs) = lay x ++ (comma ++ lay_each lay xs)

pub each_push : {A : Type 0} (lay : A → Pieces) (xs : List A) (x : A) → lay_each lay (xs ++ x ∷ []) ≡ lay_each lay xs ++ (lay x ++ comma)
each_push lay [] x = refl
each_push lay (y ∷ xs) x =
    ap (λ z. lay y ++ (comma ++ z)) (each_push lay xs x) ∙ sym (append_assoc (lay y) (comma ++ lay_each lay xs) (lay x ++ comma))

last_from : {A : Type 0} (lay : A → Pieces) (x : A) (xs : List A) (a : A)
    → lay x ++ lay_behind_commas (map lay (xs ++ a ∷ [])) ≡ lay_each lay (x ∷ xs) ++ lay a
last_from lay x [] a =
    ap (λ z. lay x ++ (comma ++ z)) (append-nil (lay a)) ∙ sym (append_assoc (lay x) comma (lay a))
last_from lay x (y ∷ xs) a =
    ap (λ z. lay x ++ (comma ++ z)) (last_from lay y xs a) ∙ sym (append_assoc (lay x) (comma ++ lay_each lay (y ∷ xs)) (lay a))

-- the last one has no comma behind it
pub with_last : {A : Type 0} (lay : A → Pieces) (xs : List A) (a : A) → lay_with_commas (map lay (xs ++ a ∷ [])) ≡ lay_each lay xs ++ lay a
with_last lay [] a = append-nil (lay a)
with_last lay (x ∷ xs) a = last_from lay x xs a

each_from : {A : Type 0} (lay : A → Pieces) (x : A) (xs : List A) → lay_each lay (x ∷ xs) ≡ (lay x ++ lay_behind_commas (map lay xs)) ++ comma
each_from lay x [] = sym (append_assoc (lay x) [] comma)
each_from lay x (y ∷ xs) =
    ap (λ z. lay x ++ (comma ++ z)) (each_from lay y xs) ∙ sym (append_assoc (lay x) (comma ++ (lay y ++ lay_behind_commas (map lay xs))) comma)

-- a comma behind all of them
pub each_with : {A : Type 0} (lay : A → Pieces) (xs : List A) → xs ≢ [] → lay_each lay xs ≡ lay_with_commas (map lay xs) ++ comma
each_with lay [] h = absurd (h refl)
each_with lay (x ∷ xs) h = each_from lay x xs

pub not_none : {A : Type 0} (xs : List A) (x : A) → xs ++ x ∷ [] ≢ []
not_none [] x = λ q. cc
not_none (y ∷ xs) x = λ q. cc
