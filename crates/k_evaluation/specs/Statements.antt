-- Believed with the theorem on the top call.
-- *Evaluation* of statements: what each does, by what the statements in it do, and the jumps that lead out of it (C17 6.8). Loops, switches
-- and declarations stand in files of their own.
use Rattle.std.specs.Prelude.{ℕ, true, if◌then◌else◌, List, [], ◌∷◌, Option, Some, None}
use Rattle.k_num.specs.declared.place.Place.{Place}
use Rattle.k_optab.specs.declared.class.Class.TheVariants as class
use Rattle.k_types_meaning.specs.declared.tree.declaration.TDeclarator.{TDeclarator}
use Rattle.k_types_meaning.specs.declared.tree.expression.TExpr.{TExpr}
use Rattle.k_types_meaning.specs.declared.tree.statement.Spot.{Spot}
use Rattle.k_types_meaning.specs.declared.tree.statement.TFirst.{TFirst}
use Rattle.k_types_meaning.specs.declared.tree.statement.TStmt.{TStmt, fold-TStmt}
use Rattle.k_types_meaning.specs.declared.tree.statement.TPart.TheOpen.{TPart-F, TStmt-F}
use Rattle.k_marks_meaning.specs.declared.jumps.Jumps.{Jumps}
use Rattle.k_marks_meaning.specs.Jumps.{no_jumps, a_break, a_continue, a_return, jumps_of_both, out_of_loop, is_left}
use Rattle.k_world.specs.declared.act.Act.TheVariants as act
use Rattle.k_world.specs.declared.value.Held.{Held}
use Rattle.k_evaluation.specs.declared.operand.Operand.{Operand}
use Rattle.k_evaluation.specs.declared.flow.Flow.{Flow}
use Rattle.k_evaluation.specs.declared.flow.Flow.TheVariants.{Normal, Broke, Continued, Returned}
use Rattle.k_evaluation.specs.States.{Program, Part, ◌>>=◌, gives, makes, settled}
use Rattle.k_evaluation.specs.Objects.{block}
use Rattle.k_evaluation.specs.Meanings.{holds}
use Rattle.k_evaluation.specs.Flows.{Doing, Within, means, drops, tests_at, goes_on, in_order, jumps_of_all}
use Rattle.k_evaluation.specs.Declarations.{declares_all, starts_with}
use Rattle.k_evaluation.specs.Loops.{source_loop, while_loop, do_loop}
use Rattle.k_evaluation.specs.Switches.{PartDoing, ACase, ADefault, AStatement, switch}

-- `e;` (C17 6.8.3)
unfoldable pub expression : Within → TExpr → Doing
expression w e = record { does = goes_on (drops w e); jumps = no_jumps }

-- `;`
unfoldable pub empty : Doing
empty = record { does = gives Normal; jumps = no_jumps }

-- `{ parts }`: the objects that are declared in it die where it is left (C17 6.8.2)
unfoldable pub compound : List Doing → Doing
compound parts = record { does = block (in_order parts); jumps = jumps_of_all parts }

-- what a statement does that may be left out
abbrev pub does_or_none : Option Doing → Part Flow
does_or_none None = gives Normal
does_or_none (Some s) = s.does

-- the jumps of a statement that may be left out
abbrev pub jumps_or_none : Option Doing → Jumps
jumps_or_none None = no_jumps
jumps_or_none (Some s) = s.jumps

-- the arm that a test chooses
abbrev pub chosen_arm : Part Flow → Part Flow → Held → Part Flow
chosen_arm first second test = if holds test then first else second

-- the jumps of the arms of an `if`
abbrev pub if_jumps : Doing → Option Doing → Jumps
if_jumps first second = jumps_of_both first.jumps (jumps_or_none second)

-- `if (test) first else second`: an arm runs under the test; behind it the control source is as before, but where a jump of its text leaves
-- it, it stays (C17 6.8.4.1)
unfoldable pub if_else : Within → Spot → TExpr → Doing → Option Doing → Doing
if_else w spot test first second = record {
  does = settled (is_left (if_jumps first second)) (tests_at w spot.place test >>= chosen_arm first.does (does_or_none second));
  jumps = if_jumps first second;
}

-- `for (start test; step) body`: what it declares dies where it is left (C17 6.8.5.3)
unfoldable pub for_loop : Within → Spot → ℕ → TFirst → Option TExpr → Option TExpr → Doing → Doing
for_loop w spot number start test step body = record {
  does = block (starts_with w start >>= λ done. source_loop w spot number test step body true);
  jumps = out_of_loop body.jumps;
}

-- `break;`
unfoldable pub break : Doing
break = record { does = gives Broke; jumps = a_break }

-- `continue;`
unfoldable pub continue : Doing
continue = record { does = gives Continued; jumps = a_continue }

-- the move of a returned value, at the keyword
abbrev pub returns_moved : Program → Place → Operand → Part Flow
returns_moved program place a = makes program class.Move place act.Move (a ∷ []) >>= λ held. gives (Returned (Some held))

-- a returned value, if there is one
abbrev pub returns_value : Within → Place → Option TExpr → Part Flow
returns_value w place None = gives (Returned None)
returns_value w place (Some e) = (means w e).value true >>= returns_moved w.program place

-- `return e;`, `return;` (C17 6.8.6.4)
unfoldable pub return : Within → Spot → Option TExpr → Doing
return w spot value = record { does = returns_value w spot.place value; jumps = a_return }

-- a declaration (C17 6.7)
unfoldable pub declaration : Within → List TDeclarator → Doing
declaration w list = record { does = goes_on (declares_all w list); jumps = no_jumps }

-- a statement, of whose statements and parts it is known what they do
abbrev pub does_step : Within → TStmt-F PartDoing Doing → Doing
does_step w (TStmt-F.Expr spot e) = expression w e
does_step w (TStmt-F.Empty spot) = empty
does_step w (TStmt-F.Block spot parts) = compound parts
does_step w (TStmt-F.If spot test a b) = if_else w spot test a b
does_step w (TStmt-F.While spot number test body) = while_loop w spot number test body
does_step w (TStmt-F.DoWhile spot number body test) = do_loop w spot number body test
does_step w (TStmt-F.For spot number start test step body) = for_loop w spot number start test step body
does_step w (TStmt-F.Switch spot kind on parts) = switch w kind on parts
does_step w (TStmt-F.Break spot) = break
does_step w (TStmt-F.Continue spot) = continue
does_step w (TStmt-F.Return spot value) = return w spot value
does_step w (TStmt-F.Declare spot list) = declaration w list

-- a part of a switch, of whose statement it is known what it does
abbrev pub part_step : TPart-F PartDoing Doing → PartDoing
part_step (TPart-F.Case place z) = ACase place z
part_step (TPart-F.Default place) = ADefault
part_step (TPart-F.Does place s) = AStatement s

-- a statement
abbrev pub does : Within → TStmt → Doing
does w = fold-TStmt PartDoing Doing part_step (does_step w)
