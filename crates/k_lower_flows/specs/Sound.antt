-- Believed with a public law.
-- What lowering asks of statements: each variable is one of the function's, each call fits, a declaration stands in a block or a `for` alone,
-- a counted loop holds neither a `break` of its own nor a `return`, and a value is returned where the function has a result.
use Rattle.std.specs.Prelude.{ℕ, ◌&&◌, ◌||◌, not, Bool, true, false, List, [], ◌∷◌, slice_get, Option, Some, None}
use Rattle.k_types_meaning.specs.declared.tree.expression.Node.{Node}
use Rattle.k_types_meaning.specs.declared.tree.expression.TExpr.{TExpr}
use Rattle.k_types_meaning.specs.declared.tree.statement.TStmt.{TStmt, fold-TStmt}
use Rattle.k_types_meaning.specs.declared.tree.statement.TPart.TheOpen.{TPart-F, TStmt-F}
use Rattle.k_marks_meaning.specs.declared.jumps.Jumps.{Jumps}
use Rattle.k_marks_meaning.specs.declared.Marks.{Marks}
use Rattle.k_marks_meaning.specs.Jumps.{no_jumps, a_break, a_continue, a_return, jumps_of_both, out_of_loop, out_of_switch}
use Rattle.k_evaluation.specs.Meanings.{flag}
use Rattle.k_lower_runs.specs.Sound.{is_sound, option_sound, declared_sound, first_sound}

-- What is known of a statement: whether it is sound, whether it is a declaration, and the jumps that lead out of it.
pub record Soundness : Type 0 where
  pub sound : Bool
  pub declares : Bool
  pub jumps : Jumps

-- a loop that is counted runs through
abbrev pub runs_through : Bool → Jumps → Bool
runs_through counted j = not counted || not (j.breaks || j.returns)

-- a statement that is sound and no declaration
abbrev pub is_part : Soundness → Bool
is_part s = s.sound && not s.declares

-- the same of one that may be left out, and its jumps
abbrev pub option_part : Option Soundness → Bool
option_part None = true
option_part (Some s) = is_part s

-- none where it is left out
abbrev pub option_jumps : Option Soundness → Jumps
option_jumps None = no_jumps
option_jumps (Some s) = s.jumps

-- all are sound
abbrev pub all_sound : List Soundness → Bool
all_sound [] = true
all_sound (s ∷ ss) = s.sound && all_sound ss

-- all are sound, and none is a declaration
abbrev pub all_parts : List Soundness → Bool
all_parts [] = true
all_parts (s ∷ ss) = is_part s && all_parts ss

-- the jumps of all
abbrev pub jumps_in : List Soundness → Jumps
jumps_in [] = no_jumps
jumps_in (s ∷ ss) = jumps_of_both s.jumps (jumps_in ss)

module _ (marks : Marks) (valued : Bool) (count : ℕ) (fits : Node → ℕ → Bool) where
  -- what is returned: a value, where the function has a result
  abbrev pub returned_sound : Option TExpr → Bool
  returned_sound None = not valued
  returned_sound (Some e) = valued && is_sound count fits e

  -- a loop of this number, by its test, its step and its body
  abbrev pub loop_sound : ℕ → Option TExpr → Option TExpr → Soundness → Bool
  loop_sound number test step body =
      option_sound count fits test && (option_sound count fits step && (is_part body && runs_through (flag (slice_get marks.counted number)) body.jumps))

  -- a statement, of whose statements and parts it is known
  abbrev pub stmt_step : TStmt-F Soundness Soundness → Soundness
  stmt_step (TStmt-F.Expr spot e) = record { sound = is_sound count fits e; declares = false; jumps = no_jumps }
  stmt_step (TStmt-F.Empty spot) = record { sound = true; declares = false; jumps = no_jumps }
  stmt_step (TStmt-F.Block spot parts) = record { sound = all_sound parts; declares = false; jumps = jumps_in parts }
  stmt_step (TStmt-F.If spot test a b) =
      record { sound = is_sound count fits test && (is_part a && option_part b); declares = false; jumps = jumps_of_both a.jumps (option_jumps b) }
  stmt_step (TStmt-F.While spot number test body) =
      record { sound = loop_sound number (Some test) None body; declares = false; jumps = out_of_loop body.jumps }
  stmt_step (TStmt-F.DoWhile spot number body test) =
      record { sound = loop_sound number (Some test) None body; declares = false; jumps = out_of_loop body.jumps }
  stmt_step (TStmt-F.For spot number start test step body) =
      record { sound = first_sound count fits start && loop_sound number test step body; declares = false; jumps = out_of_loop body.jumps }
  stmt_step (TStmt-F.Switch spot kind on parts) =
      record { sound = is_sound count fits on && all_parts parts; declares = false; jumps = out_of_switch (jumps_in parts) }
  stmt_step (TStmt-F.Break spot) = record { sound = true; declares = false; jumps = a_break }
  stmt_step (TStmt-F.Continue spot) = record { sound = true; declares = false; jumps = a_continue }
  stmt_step (TStmt-F.Return spot value) = record { sound = returned_sound value; declares = false; jumps = a_return }
  stmt_step (TStmt-F.Declare spot list) = record { sound = declared_sound count fits list; declares = true; jumps = no_jumps }

  -- a part of a switch, of whose statement it is known
  abbrev pub part_step : TPart-F Soundness Soundness → Soundness
  part_step (TPart-F.Case place z) = record { sound = true; declares = false; jumps = no_jumps }
  part_step (TPart-F.Default place) = record { sound = true; declares = false; jumps = no_jumps }
  part_step (TPart-F.Does place s) = s

  -- a statement
  abbrev pub soundness : TStmt → Soundness
  soundness = fold-TStmt Soundness Soundness part_step stmt_step
