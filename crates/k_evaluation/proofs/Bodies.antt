-- Whole statements are lawful, where calls are.
use Rattle.std.proofs.Common.{ℕ, List, [], ◌∷◌, map, Some, None, sym, subst}
use Rattle.k_types_meaning.specs.declared.tree.statement.TPart.{TPart, fold-TPart, fold-roll-TPart, map-TPart}
use Rattle.k_types_meaning.specs.declared.tree.statement.TPart.TheOpen.{TPart-F, TStmt-F}
use Rattle.k_types_meaning.specs.declared.tree.statement.TStmt.{TStmt, fold-roll-TStmt, ind-TStmt, map-TStmt}
use Rattle.k_types_meaning.specs.declared.tree.unit.TVariable.{TVariable}
use Rattle.k_evaluation.specs.Expressions.{Calls}
use Rattle.k_evaluation.specs.Flows.{Doing, Within}
use Rattle.k_evaluation.specs.Switches.{PartDoing}
use Rattle.k_evaluation.specs.Statements.{does_step, part_step, does}
use Rattle.k_evaluation.proofs.Kept.{Setting}
use Rattle.k_evaluation.proofs.Rows.{LawfulCalls}
use Rattle.k_evaluation.proofs.Executed.{LawfulDoing, AllLawful, LawfulPart, PartsLawful, expression_lawful, empty_lawful, compound_lawful, if_lawful, while_lawful, do_lawful, for_lawful, switch_lawful, break_lawful, continue_lawful, return_lawful, declaration_lawful}

module _ (g : Setting) (function : ℕ) (vs : List TVariable) (calls : Calls) (calls_lawful : LawfulCalls g calls) where
  abbrev here : Within
  here = record { program = g.program; function = function; vars = vs; calls = calls }

  abbrev part_does : TPart → PartDoing
  part_does = fold-TPart PartDoing Doing part_step (does_step here)

  abbrev OfPart : TPart → Type 0
  OfPart p = LawfulPart g (part_does p)

  abbrev OfStmt : TStmt → Type 0
  OfStmt s = LawfulDoing g (does here s)

  all_do : (items : List ((s : TStmt) × OfStmt s)) → AllLawful g (map (does here) (map (λ (x : (s : TStmt) × OfStmt s). x.0) items))
  all_do [] = tt
  all_do (x ∷ items) = (x.1, all_do items)

  parts_do : (items : List ((p : TPart) × OfPart p)) → PartsLawful g (map part_does (map (λ (x : (p : TPart) × OfPart p). x.0) items))
  parts_do [] = tt
  parts_do (x ∷ items) = (x.1, parts_do items)

  part_by : (y : TPart-F ((p : TPart) × OfPart p) ((s : TStmt) × OfStmt s))
      → LawfulPart g (part_step (map-TPart TPart TStmt PartDoing Doing part_does (does here)
      (map-TPart _ _ TPart TStmt (λ (x : (p : TPart) × OfPart p). x.0) (λ (x : (s : TStmt) × OfStmt s). x.0) y)))
  part_by (TPart-F.Case place z) = tt
  part_by (TPart-F.Default place) = tt
  part_by (TPart-F.Does place s) = s.1

  stmt_by : (y : TStmt-F ((p : TPart) × OfPart p) ((s : TStmt) × OfStmt s))
      → LawfulDoing g (does_step here (map-TStmt TPart TStmt PartDoing Doing part_does (does here)
      (map-TStmt _ _ TPart TStmt (λ (x : (p : TPart) × OfPart p). x.0) (λ (x : (s : TStmt) × OfStmt s). x.0) y)))
  stmt_by (TStmt-F.Expr spot e) = expression_lawful g function vs calls calls_lawful e
  stmt_by (TStmt-F.Empty spot) = empty_lawful g function vs calls calls_lawful
  stmt_by (TStmt-F.Block spot parts) =
      compound_lawful g function vs calls calls_lawful (map (does here) (map (λ (x : (s : TStmt) × OfStmt s). x.0) parts)) (all_do parts)
  stmt_by (TStmt-F.If spot test a None) = if_lawful g function vs calls calls_lawful spot test (does here a.0) None a.1 tt
  stmt_by (TStmt-F.If spot test a (Some b)) = if_lawful g function vs calls calls_lawful spot test (does here a.0) (Some (does here b.0)) a.1 b.1
  stmt_by (TStmt-F.While spot number test a) = while_lawful g function vs calls calls_lawful spot number test (does here a.0) a.1
  stmt_by (TStmt-F.DoWhile spot number a test) = do_lawful g function vs calls calls_lawful spot number (does here a.0) test a.1
  stmt_by (TStmt-F.For spot number start test step a) = for_lawful g function vs calls calls_lawful spot number start test step (does here a.0) a.1
  stmt_by (TStmt-F.Switch spot kind on parts) =
      switch_lawful g function vs calls calls_lawful kind on (map part_does (map (λ (x : (p : TPart) × OfPart p). x.0) parts)) (parts_do parts)
  stmt_by (TStmt-F.Break spot) = break_lawful g function vs calls calls_lawful
  stmt_by (TStmt-F.Continue spot) = continue_lawful g function vs calls calls_lawful
  stmt_by (TStmt-F.Return spot value) = return_lawful g function vs calls calls_lawful spot value
  stmt_by (TStmt-F.Declare spot list) = declaration_lawful g function vs calls calls_lawful list

  -- a statement
  pub does_lawful : (s : TStmt) → LawfulDoing g (does here s)
  does_lawful =
      ind-TStmt OfPart OfStmt
      (λ x y is. subst (LawfulPart g) (sym (fold-roll-TPart PartDoing Doing part_step (does_step here) x))
      (subst (λ (z : TPart-F TPart TStmt). LawfulPart g (part_step (map-TPart TPart TStmt PartDoing Doing part_does (does here) z))) is (part_by y)))
      (λ x y is. subst (LawfulDoing g) (sym (fold-roll-TStmt PartDoing Doing part_step (does_step here) x))
      (subst (λ (z : TStmt-F TPart TStmt). LawfulDoing g (does_step here (map-TStmt TPart TStmt PartDoing Doing part_does (does here) z))) is (stmt_by y)))

  -- the statements of a function
  pub all_lawful : (body : List TStmt) → AllLawful g (map (does here) body)
  all_lawful [] = tt
  all_lawful (s ∷ body) = (does_lawful s, all_lawful body)
