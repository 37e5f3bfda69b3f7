-- How many instructions the cases and the statements before the default have, part by part.
use Rattle.std.proofs.Common.{ℕ, ◌≡◌, ◌+◌, ◌<◌, ◌≤◌, List, [], ◌∷◌, map, drop, get_or, length, refl, sym, ap, ◌∙◌, true, false, arith}
use Rattle.std.proofs.lemmas.List.{drop_all, drop_more}
use Rattle.k_types_meaning.specs.declared.tree.statement.TPart.{TPart}
use Rattle.k_lower_code.specs.Stretches.{Inside}
use Rattle.k_lower_code.specs.Switches.{PartLowered, ACase, ADefault, AStatement, before_default, cases_size}
use Rattle.k_lower_extents.specs.Extents.{lowered_part}
use Rattle.k_lower_cases.specs.Cases.{is_default, statement_size}

none_before : (size : ℕ) → size ≡ 0 + size
none_before size = omega arith

size_first : (p : PartLowered) (ps : List PartLowered) → cases_size (p ∷ ps) ≡ cases_size (p ∷ []) + cases_size ps
size_first (ACase place z) ps = refl
size_first ADefault ps = none_before (cases_size ps)
size_first (AStatement s) ps = none_before (cases_size ps)

default_first : (p : PartLowered) (ps : List PartLowered) → is_default p ≡ true → before_default (p ∷ ps) ≡ 0
default_first (ACase place z) ps is = absurd (cc is)
default_first ADefault ps is = refl
default_first (AStatement s) ps is = absurd (cc is)

statement_first : (p : PartLowered) (ps : List PartLowered) → is_default p ≡ false → before_default (p ∷ ps) ≡ statement_size p + before_default ps
statement_first (ACase place z) ps is = none_before (before_default ps)
statement_first ADefault ps is = absurd (cc is)
statement_first (AStatement s) ps is = refl

-- no part is left
pub all_counted : (w : Inside) (ps : List TPart) (i size all : ℕ) → length ps ≤ i → size + cases_size (map (lowered_part w) (drop i ps)) ≡ all → size ≡ all
all_counted w ps i size all past so_far =
    (let none : cases_size (map (lowered_part w) (drop i ps)) ≡ 0 = ap (λ (qs : List TPart). cases_size (map (lowered_part w) qs)) (drop_all i ps past) in
    omega (arith, none, so_far))

module _ (w : Inside) (ps : List TPart) (i : ℕ) (p : TPart) where
  abbrev later : List PartLowered
  later = map (lowered_part w) (drop (i + 1) ps)

  here : i < length ps → p ≡ get_or ps i p → map (lowered_part w) (drop i ps) ≡ lowered_part w p ∷ later
  here below is = ap (map (lowered_part w)) (drop_more ps i p below ∙ ap (λ (q : TPart). q ∷ drop (i + 1) ps) (sym is))

  -- the cases of one more part are counted
  pub one_size_more : (before size more all : ℕ) → i < length ps → p ≡ get_or ps i p → size ≡ cases_size (lowered_part w p ∷ []) → more ≡ before + size
      → before + cases_size (map (lowered_part w) (drop i ps)) ≡ all → more + cases_size (map (lowered_part w) (drop (i + 1) ps)) ≡ all
  one_size_more before size more all below is counted next so_far =
      (let now : cases_size (map (lowered_part w) (drop i ps)) ≡ cases_size (lowered_part w p ∷ []) + cases_size later =
      ap cases_size (here below is) ∙ size_first (lowered_part w p) later in omega (arith, now, counted, next, so_far))

  -- the default is there
  pub at_default : (before all : ℕ) → i < length ps → p ≡ get_or ps i p → is_default (lowered_part w p) ≡ true
      → before + before_default (map (lowered_part w) (drop i ps)) ≡ all → before ≡ all
  at_default before all below is default so_far =
      (let now : before_default (map (lowered_part w) (drop i ps)) ≡ 0 =
      ap before_default (here below is) ∙ default_first (lowered_part w p) later default in omega (arith, now, so_far))

  -- the statement of one more part, which is no default, is counted
  pub one_statement_more : (before size more all : ℕ) → i < length ps → p ≡ get_or ps i p → is_default (lowered_part w p) ≡ false
      → size ≡ statement_size (lowered_part w p) → more ≡ before + size
      → before + before_default (map (lowered_part w) (drop i ps)) ≡ all → more + before_default (map (lowered_part w) (drop (i + 1) ps)) ≡ all
  one_statement_more before size more all below is other counted next so_far =
      (let now : before_default (map (lowered_part w) (drop i ps)) ≡ statement_size (lowered_part w p) + before_default later =
      ap before_default (here below is) ∙ statement_first (lowered_part w p) later other in omega (arith, now, counted, next, so_far))
