-- What stands in a statement that fits does so too; and what stands in one that is in range.
use Rattle.std.proofs.Common.{◌≡◌, ℕ, zero, suc, Bool, true, ◌&&◌, List, [], ◌∷◌, map, slice_get, Option, Some, None, sym, ◌∙◌, subst}
use Rattle.std.proofs.lemmas.Bool.{and_parts}
use Rattle.std.proofs.lemmas.Option.{none-some, same_Some}
use Rattle.k_types_meaning.specs.declared.tree.expression.TExpr.{TExpr}
use Rattle.k_types_meaning.specs.declared.tree.statement.Spot.{Spot}
use Rattle.k_types_meaning.specs.declared.tree.statement.TPart.{TPart, fold-TPart}
use Rattle.k_types_meaning.specs.declared.tree.statement.TPart.TheVariants as typed_part
use Rattle.k_types_meaning.specs.declared.tree.statement.TStmt.{TStmt}
use Rattle.k_types_meaning.specs.declared.tree.statement.TStmt.TheVariants as typed
use Rattle.k_types_meaning.proofs.Folds.{done_Block, done_alone, done_else, done_While, done_DoWhile, done_For, done_Switch, part_Does}
use Rattle.k_evaluation_laws.proofs.Ranges as ranges
use Rattle.k_evaluation_laws.proofs.Ranges.{all_stand, expr_in_range, option_in_range, first_in_range, stmt_in_range}
use Rattle.k_evaluation_laws.specs.Standing.{StandsIn, itself, in_block, in_first, in_second, in_while, in_do, in_for, in_switch}
use Rattle.k_evaluation_laws.proofs.Fits.{Around, expr_fits, option_fits, first_fits, stmt_fits, stmt_step, part_step}

-- one of those that all are so
pub stands_at : (P : TStmt → Bool) (ss : List TStmt) (n : ℕ) (s : TStmt) → slice_get ss n ≡ Some s → all_stand (map P ss) ≡ true → P s ≡ true
stands_at P [] n s is h = absurd (none-some s is)
stands_at P (t ∷ ss) zero s is h = subst (λ (x : TStmt). P x ≡ true) (same_Some t s is) (and_parts (P t) (all_stand (map P ss)) h).0
stands_at P (t ∷ ss) (suc n) s is h = stands_at P ss n s is (and_parts (P t) (all_stand (map P ss)) h).1

part_at : (P : TPart → Bool) (ps : List TPart) (n : ℕ) (p : TPart) → slice_get ps n ≡ Some p → all_stand (map P ps) ≡ true → P p ≡ true
part_at P [] n p is h = absurd (none-some p is)
part_at P (t ∷ ps) zero p is h = subst (λ (x : TPart). P x ≡ true) (same_Some t p is) (and_parts (P t) (all_stand (map P ps)) h).0
part_at P (t ∷ ps) (suc n) p is h = part_at P ps n p is (and_parts (P t) (all_stand (map P ps)) h).1

module _ (site : Around) where
  abbrev fit_part : TPart → Bool
  fit_part = fold-TPart Bool Bool part_step (stmt_step site)

  fit_arm : (spot : Spot) (test : TExpr) (a : TStmt) (b : Option TStmt) → stmt_fits site (typed.If spot test a b) ≡ true → stmt_fits site a ≡ true
  fit_arm spot test a None h =
      (and_parts (stmt_fits site a) true (and_parts (expr_fits site test) (stmt_fits site a && true) (sym (done_alone Bool Bool part_step (stmt_step site) spot test a) ∙ h)).1).0
  fit_arm spot test a (Some b) h =
      (and_parts (stmt_fits site a) (stmt_fits site b) (and_parts (expr_fits site test) (stmt_fits site a && stmt_fits site b) (sym (done_else Bool Bool part_step (stmt_step site) spot test a b) ∙ h)).1).0

  pub stands_fit : (s t : TStmt) → StandsIn s t → stmt_fits site t ≡ true → stmt_fits site s ≡ true
  stands_fit _ _ (itself s) h = h
  stands_fit _ _ (in_block s spot parts n t there within) h =
      stands_fit s t within (stands_at (stmt_fits site) parts n t there (sym (done_Block Bool Bool part_step (stmt_step site) spot parts) ∙ h))
  stands_fit _ _ (in_first s spot test a b within) h = stands_fit s a within (fit_arm spot test a b h)
  stands_fit _ _ (in_second s spot test a b within) h =
      stands_fit s b within
      (and_parts (stmt_fits site a) (stmt_fits site b) (and_parts (expr_fits site test) (stmt_fits site a && stmt_fits site b) (sym (done_else Bool Bool part_step (stmt_step site) spot test a b) ∙ h)).1).1
  stands_fit _ _ (in_while s spot number test a within) h =
      stands_fit s a within (and_parts (expr_fits site test) (stmt_fits site a) (sym (done_While Bool Bool part_step (stmt_step site) spot number test a) ∙ h)).1
  stands_fit _ _ (in_do s spot number a test within) h =
      stands_fit s a within (and_parts (expr_fits site test) (stmt_fits site a) (sym (done_DoWhile Bool Bool part_step (stmt_step site) spot number a test) ∙ h)).1
  stands_fit _ _ (in_for s spot number start test step a within) h =
      let one = and_parts (first_fits site start) (option_fits site test && (option_fits site step && stmt_fits site a)) (sym (done_For Bool Bool part_step (stmt_step site) spot number start test step a) ∙ h) in
      let two = and_parts (option_fits site test) (option_fits site step && stmt_fits site a) one.1 in
      stands_fit s a within (and_parts (option_fits site step) (stmt_fits site a) two.1).1
  stands_fit _ _ (in_switch s spot kind on parts n place t there within) h =
      let all = and_parts (expr_fits site on) (all_stand (map fit_part parts)) (sym (done_Switch Bool Bool part_step (stmt_step site) spot kind on parts) ∙ h) in
      stands_fit s t within (sym (part_Does Bool Bool part_step (stmt_step site) place t) ∙ part_at fit_part parts n (typed_part.Does place t) there all.1)

module _ (strings : ℕ) where
  abbrev range_part : TPart → Bool
  range_part = fold-TPart Bool Bool ranges.part_step (ranges.stmt_step strings)

  range_arm : (spot : Spot) (test : TExpr) (a : TStmt) (b : Option TStmt) → stmt_in_range strings (typed.If spot test a b) ≡ true → stmt_in_range strings a ≡ true
  range_arm spot test a None h =
      (and_parts (stmt_in_range strings a) true (and_parts (expr_in_range strings test) (stmt_in_range strings a && true) (sym (done_alone Bool Bool ranges.part_step (ranges.stmt_step strings) spot test a) ∙ h)).1).0
  range_arm spot test a (Some b) h =
      (and_parts (stmt_in_range strings a) (stmt_in_range strings b) (and_parts (expr_in_range strings test) (stmt_in_range strings a && stmt_in_range strings b) (sym (done_else Bool Bool ranges.part_step (ranges.stmt_step strings) spot test a b) ∙ h)).1).0

  pub stands_in_range : (s t : TStmt) → StandsIn s t → stmt_in_range strings t ≡ true → stmt_in_range strings s ≡ true
  stands_in_range _ _ (itself s) h = h
  stands_in_range _ _ (in_block s spot parts n t there within) h =
      stands_in_range s t within (stands_at (stmt_in_range strings) parts n t there (sym (done_Block Bool Bool ranges.part_step (ranges.stmt_step strings) spot parts) ∙ h))
  stands_in_range _ _ (in_first s spot test a b within) h = stands_in_range s a within (range_arm spot test a b h)
  stands_in_range _ _ (in_second s spot test a b within) h =
      stands_in_range s b within
      (and_parts (stmt_in_range strings a) (stmt_in_range strings b) (and_parts (expr_in_range strings test) (stmt_in_range strings a && stmt_in_range strings b) (sym (done_else Bool Bool ranges.part_step (ranges.stmt_step strings) spot test a b) ∙ h)).1).1
  stands_in_range _ _ (in_while s spot number test a within) h =
      stands_in_range s a within (and_parts (expr_in_range strings test) (stmt_in_range strings a) (sym (done_While Bool Bool ranges.part_step (ranges.stmt_step strings) spot number test a) ∙ h)).1
  stands_in_range _ _ (in_do s spot number a test within) h =
      stands_in_range s a within (and_parts (expr_in_range strings test) (stmt_in_range strings a) (sym (done_DoWhile Bool Bool ranges.part_step (ranges.stmt_step strings) spot number a test) ∙ h)).1
  stands_in_range _ _ (in_for s spot number start test step a within) h =
      let one = and_parts (first_in_range strings start) (option_in_range strings test && (option_in_range strings step && stmt_in_range strings a)) (sym (done_For Bool Bool ranges.part_step (ranges.stmt_step strings) spot number start test step a) ∙ h) in
      let two = and_parts (option_in_range strings test) (option_in_range strings step && stmt_in_range strings a) one.1 in
      stands_in_range s a within (and_parts (option_in_range strings step) (stmt_in_range strings a) two.1).1
  stands_in_range _ _ (in_switch s spot kind on parts n place t there within) h =
      let all = and_parts (expr_in_range strings on) (all_stand (map range_part parts)) (sym (done_Switch Bool Bool ranges.part_step (ranges.stmt_step strings) spot kind on parts) ∙ h) in
      stands_in_range s t within (sym (part_Does Bool Bool ranges.part_step (ranges.stmt_step strings) place t) ∙ part_at range_part parts n (typed_part.Does place t) there all.1)
