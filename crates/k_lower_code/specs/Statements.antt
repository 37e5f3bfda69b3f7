-- Believed with a public law.
-- How statements are lowered, by how the statements in them are.
use Rattle.std.specs.Prelude.{ℕ, ◌+◌, true, false, List, [], ◌∷◌, ◌++◌, Option, Some, None}
use Rattle.k_num.specs.declared.place.Place.{Place}
use Rattle.k_optab.specs.declared.class.Class.TheVariants as class
use Rattle.k_types_meaning.specs.declared.tree.declaration.TDeclarator.{TDeclarator}
use Rattle.k_types_meaning.specs.declared.tree.expression.TExpr.{TExpr}
use Rattle.k_types_meaning.specs.declared.tree.statement.Spot.{Spot}
use Rattle.k_types_meaning.specs.declared.tree.statement.TFirst.{TFirst}
use Rattle.k_types_meaning.specs.declared.tree.statement.TStmt.{TStmt, fold-TStmt}
use Rattle.k_types_meaning.specs.declared.tree.statement.TPart.TheOpen.{TPart-F, TStmt-F}
use Rattle.k_marks_meaning.specs.Jumps.{a_break, a_continue, a_return, jumps_of_both, is_left}
use Rattle.k_code.specs.declared.instruction.Arg.{Arg}
use Rattle.k_code.specs.declared.instruction.Do.TheVariants.{Test, Jump, Return}
use Rattle.k_evaluation.specs.States.{Program}
use Rattle.k_lower_code.specs.Declarations.{means, temporary, drops, declares_all, starts_with}
use Rattle.k_lower_code.specs.Loops.{source_loop}
use Rattle.k_lower_code.specs.Pieces.{Piece, ◌>>>◌, instruction, does}
use Rattle.k_lower_code.specs.Stretches.{Inside, Stretch, of_piece, nothing_done, followed_by, in_order, settled_unless}
use Rattle.k_lower_code.specs.Switches.{PartLowered, ACase, ADefault, AStatement, switch}

-- `e;`
unfoldable pub expression : Inside → Spot → TExpr → Stretch
expression w spot e = of_piece spot.place (drops w e)

-- `{ parts }`
unfoldable pub compound : Inside → Spot → List Stretch → Stretch
compound w spot parts = in_order w.program spot.place parts

-- a test and one arm
abbrev pub one_arm : Program → Place → Piece Arg → Stretch → Stretch
one_arm program place test one = record {
  size = test.size + 1 + one.size;
  code = λ site first.
      test.code first
      ++ instruction program place (Test test.gives (first + test.size + 1) (first + test.size + 1 + one.size) None class.Test)
      ∷ one.code site (first + test.size + 1);
  jumps = one.jumps;
  opens = 0;
  place = place;
}

-- a test and two arms, with a jump over the second
abbrev pub two_arms : Program → Place → Piece Arg → Stretch → Stretch → Stretch
two_arms program place test one other = record {
  size = test.size + 1 + one.size + 1 + other.size;
  code = λ site first.
      test.code first
      ++ instruction program place (Test test.gives (first + test.size + 1) (first + test.size + 1 + one.size + 1) None class.Test)
      ∷ one.code site (first + test.size + 1)
      ++ instruction program place (Jump (first + test.size + 1 + one.size + 1 + other.size))
      ∷ other.code site (first + test.size + 1 + one.size + 1);
  jumps = jumps_of_both one.jumps other.jumps;
  opens = 0;
  place = place;
}

-- a test and its arms, of which the second may be left out
abbrev pub arms : Program → Place → Piece Arg → Stretch → Option Stretch → Stretch
arms program place test one None = one_arm program place test one
arms program place test one (Some other) = two_arms program place test one other

-- the arms of an `if`, and the control source behind them
abbrev pub settled_arms : Program → Stretch → Stretch
settled_arms program s = settled_unless (is_left s.jumps) program s

-- `if (test) one else other`
unfoldable pub if_else : Inside → Spot → TExpr → Stretch → Option Stretch → Stretch
if_else w spot test one other = settled_arms w.program (arms w.program spot.place ((means w test).value true (temporary w)) one other)

-- `for (start test; step) body`: what it declares dies where it is left
unfoldable pub for_loop : Inside → Spot → ℕ → TFirst → Option TExpr → Option TExpr → Stretch → Stretch
for_loop w spot number start test step body =
    followed_by w.program (starts_with w spot.place start) (starts_with w spot.place start).opens
    (source_loop w spot number test step body true)

-- `break;`
unfoldable pub break : Inside → Spot → Stretch
break w spot = record {
  size = 1;
  code = λ site first. instruction w.program spot.place (Jump site.breaks) ∷ [];
  jumps = a_break;
  opens = 0;
  place = spot.place;
}

-- `continue;`
unfoldable pub continue : Inside → Spot → Stretch
continue w spot = record {
  size = 1;
  code = λ site first. instruction w.program spot.place (Jump site.continues) ∷ [];
  jumps = a_continue;
  opens = 0;
  place = spot.place;
}

-- a returned value, if there is one
abbrev pub returns_value : Inside → Place → Option TExpr → Piece (Unit {0})
returns_value w place None = does w.program place (Return None)
returns_value w place (Some e) = (means w e).value true (temporary w) >>> λ a. does w.program place (Return (Some a))

-- `return e;`, `return;`
unfoldable pub return : Inside → Spot → Option TExpr → Stretch
return w spot value = record (of_piece spot.place (returns_value w spot.place value)) { jumps = a_return }

-- a declaration
unfoldable pub declaration : Inside → Spot → List TDeclarator → Stretch
declaration w spot list = declares_all w spot.place list

-- a statement, of whose statements and parts it is known how they are lowered
abbrev pub lower_step : Inside → TStmt-F PartLowered Stretch → Stretch
lower_step w (TStmt-F.Expr spot e) = expression w spot e
lower_step w (TStmt-F.Empty spot) = nothing_done spot.place
lower_step w (TStmt-F.Block spot parts) = compound w spot parts
lower_step w (TStmt-F.If spot test a b) = if_else w spot test a b
lower_step w (TStmt-F.While spot number test body) = source_loop w spot number (Some test) None body true
lower_step w (TStmt-F.DoWhile spot number body test) = source_loop w spot number (Some test) None body false
lower_step w (TStmt-F.For spot number start test step body) = for_loop w spot number start test step body
lower_step w (TStmt-F.Switch spot kind on parts) = switch w spot kind on parts
lower_step w (TStmt-F.Break spot) = break w spot
lower_step w (TStmt-F.Continue spot) = continue w spot
lower_step w (TStmt-F.Return spot value) = return w spot value
lower_step w (TStmt-F.Declare spot list) = declaration w spot list

-- a part of a switch, of whose statement it is known how it is lowered
abbrev pub part_step : TPart-F PartLowered Stretch → PartLowered
part_step (TPart-F.Case place z) = ACase place z
part_step (TPart-F.Default place) = ADefault
part_step (TPart-F.Does place s) = AStatement s

-- how a statement is lowered
abbrev pub lowered : Inside → TStmt → Stretch
lowered w = fold-TStmt PartLowered Stretch part_step (lower_step w)
