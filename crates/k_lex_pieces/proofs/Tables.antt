-- Look-ups in tables.
use Rattle.std.proofs.Common.{◌≡◌, ℕ, Bool, true, false, ◌&&◌, if◌then◌else◌, List, [], ◌∷◌, Option, Some, None, refl, sym, ap, ◌∙◌, inl, inr, eqb}
use Rattle.std.proofs.lemmas.Bool.{eqb-true, eq-eqb, and_parts, and_from, false≢true, cases_Bool}
use Rattle.std.specs.Prelude.{nat_eq}
use Rattle.std.specs.Cmp.Lexicographic.{pointwise}
use Rattle.std.proofs.Math.Bool.{and_comm}
use Rattle.k_lex_pieces.specs.Bytes.{same, look_up}

pub same_true : (xs ys : List ℕ) → same xs ys ≡ true → xs ≡ ys
same_true [] [] h = refl
same_true [] (y ∷ ys) h = absurd (false≢true h)
same_true (x ∷ xs) [] h = absurd (false≢true h)
same_true (x ∷ xs) (y ∷ ys) h =
    let parts = and_parts (same xs ys) (eqb x y) h in
    let tails : xs ≡ ys = same_true xs ys parts.0 in
    let heads : x ≡ y = eqb-true x y parts.1 in
    cc

pub same_refl : (xs : List ℕ) → same xs xs ≡ true
same_refl [] = refl
same_refl (x ∷ xs) = and_from (same xs xs) (eqb x x) (same_refl xs) (eq-eqb x x refl)

abbrev pub all_keys : {X : Type 0} → (List ℕ → Bool) → List (List ℕ × X) → Bool
all_keys passes [] = true
all_keys passes (row ∷ rows) = passes row.0 && all_keys passes rows

-- What fails a test that each key passes is no key.
pub no_key : {X : Type 0} (rows : List (List ℕ × X)) (passes : List ℕ → Bool) (key : List ℕ) → all_keys passes rows ≡ true → passes key ≡ false → look_up rows key ≡ None
no_key [] passes key all fails = refl
no_key {X} (row ∷ rows) passes key all fails =
    let parts = and_parts (passes row.0) (all_keys passes rows) all in
    elim (cases_Bool (same row.0 key)) [
      | inl e ↦ absurd (false≢true (sym fails ∙ ap passes (sym (same_true row.0 key e)) ∙ parts.0))
      | inr e ↦ (let chosen : Bool → Option X = λ v. if◌then◌else◌ v (Some row.1) (look_up rows key) in ap chosen e) ∙ no_key rows passes key parts.1 fails
    ]

pub same_pointwise : (xs ys : List ℕ) → pointwise nat_eq xs ys ≡ same xs ys
same_pointwise [] [] = refl
same_pointwise [] (y ∷ ys) = refl
same_pointwise (x ∷ xs) [] = refl
same_pointwise (x ∷ xs) (y ∷ ys) = ap (λ v. nat_eq x y && v) (same_pointwise xs ys) ∙ and_comm (nat_eq x y) (same xs ys)
