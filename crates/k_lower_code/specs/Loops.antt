-- Believed with a public law.
-- How loops are lowered: a turn is the body, the step and the test, which is the one jump backward.
use Rattle.std.specs.Prelude.{ℕ, ◌+◌, Bool, true, false, not, ◌&&◌, ◌||◌, pos, List, [], ◌∷◌, ◌++◌, Option, Some, None}
use Rattle.k_num.specs.declared.place.Place.{Place}
use Rattle.k_optab.specs.declared.class.Class.TheVariants as class
use Rattle.k_types_meaning.specs.declared.tree.expression.TExpr.{TExpr}
use Rattle.k_types_meaning.specs.declared.tree.statement.Spot.{Spot}
use Rattle.k_marks_meaning.specs.Jumps.{out_of_loop}
use Rattle.k_code.specs.declared.instruction.Arg.{Arg}
use Rattle.k_code.specs.declared.instruction.Arg.TheVariants.{Number}
use Rattle.k_code.specs.declared.instruction.Do.{Do}
use Rattle.k_code.specs.declared.instruction.Do.TheVariants.{Test, Jump, Enter, Exit, Save, Back, Restore}
use Rattle.k_code.specs.declared.instruction.Instr.{Instr}
use Rattle.k_evaluation.specs.Loops.{loop_region, stays_behind_loop}
use Rattle.k_evaluation.specs.Meanings.{flag}
use Rattle.k_evaluation.specs.States.{Program}
use Rattle.k_lower_code.specs.Declarations.{means, temporary, drops}
use Rattle.k_lower_code.specs.Pieces.{Piece, only, instruction}
use Rattle.k_lower_code.specs.Stretches.{Inside, Site, Stretch, pad_size, pad, over_size, over, settled_unless}
use Rattle.std.specs.Prelude.{slice_get}

-- What a loop is made of: where it stands, its regions, its condition, its step and its body, and whether it is counted and begins with its
-- test.
pub record LoopParts : Type 0 where
  pub place : Place
  pub region : ℕ
  pub test : Piece Arg
  pub step : Piece (Unit {0})
  pub body : Stretch
  pub counted : Bool
  pub tested : Bool

-- an instruction that may be left out
abbrev pub if_so : Program → Place → Bool → Do → List Instr
if_so program place false act = []
if_so program place true act = instruction program place act ∷ []

-- how many that is
abbrev pub one_if : Bool → ℕ
one_if false = 0
one_if true = 1

-- The control source behind a body that may end by `continue`, and holds neither a `break` of its loop nor a `return`, is as before it, so it is
-- saved; that of a counted loop is taken back before the step.
abbrev pub saves_body : LoopParts → Bool
saves_body l = not l.counted && (l.body.jumps.continues && not (l.body.jumps.breaks || l.body.jumps.returns))

-- how many instructions stand before the body's: the control source is taken back in a counted loop, or saved, and the region is entered
abbrev pub before_body : LoopParts → ℕ
before_body l = one_if l.counted + one_if (saves_body l) + 1

-- the pad of a body's `break`, and the jump over it
abbrev pub break_size : LoopParts → ℕ
break_size l = over_size l.body.jumps.breaks + pad_size l.body.jumps.breaks

-- how many instructions a body in its region has
abbrev pub body_size : LoopParts → ℕ
body_size l = before_body l + l.body.size + break_size l + 1 + one_if (saves_body l)

-- the body's site: its `continue` leaves its region at its end, its `break` at a pad
abbrev pub body_site : LoopParts → Site → ℕ → Site
body_site l site first = record site {
  breaks = first + l.body.size + over_size l.body.jumps.breaks;
  continues = first + l.body.size + break_size l;
}

-- a body in its region, where the loop ends at this instruction
abbrev pub body_code : Program → LoopParts → Site → ℕ → ℕ → List Instr
body_code program l site end first =
    if_so program l.place l.counted Restore ++ if_so program l.place (saves_body l) Save ++ instruction program l.place (Enter (l.region + 1))
    ∷ l.body.code (body_site l site (first + before_body l)) (first + before_body l)
    ++ over program l.place l.body.jumps.breaks (first + before_body l + l.body.size + break_size l)
    ++ pad program l.place Exit l.body.jumps.breaks end ++ instruction program l.place Exit ∷ if_so program l.place (saves_body l) Back

-- the control source is taken back before the step of a counted loop of which the body may end by `continue`
abbrev pub restores_step : LoopParts → Bool
restores_step l = l.counted && l.body.jumps.continues

-- how many instructions a turn has before its test
abbrev pub turn_size : LoopParts → ℕ
turn_size l = body_size l + one_if (restores_step l) + l.step.size

-- how many stand before the first turn: the region is entered, and where the loop begins with its test it is jumped to
abbrev pub before_turns : LoopParts → ℕ
before_turns l = 1 + one_if l.tested

-- the instruction behind the test of a loop that begins with this one
abbrev pub end_of : LoopParts → ℕ → ℕ
end_of l first = first + before_turns l + turn_size l + l.test.size + 1

-- the turns of a loop that begins with this instruction
abbrev pub turns_code : Program → LoopParts → Site → ℕ → List Instr
turns_code program l site first =
    body_code program l site (end_of l first) (first + before_turns l)
    ++ if_so program l.place (restores_step l) Restore ++ l.step.code (first + before_turns l + body_size l + one_if (restores_step l))
    ++ l.test.code (first + before_turns l + turn_size l)
    ++ instruction program l.place (Test l.test.gives (first + before_turns l) (end_of l first) None class.Test) ∷ []

-- A LOOP in its region
abbrev pub inside_loop : Program → LoopParts → Stretch
inside_loop program l = record {
  size = before_turns l + turn_size l + l.test.size + 1 + 1;
  code = λ site first.
      instruction program l.place (Enter l.region) ∷ if_so program l.place l.tested (Jump (first + before_turns l + turn_size l))
      ++ turns_code program l site first ++ instruction program l.place Exit ∷ [];
  jumps = out_of_loop l.body.jumps;
  opens = 0;
  place = l.place;
}

-- a loop, and the control source behind it
abbrev pub loop : Program → LoopParts → Stretch
loop program l = settled_unless (stays_behind_loop l.counted l.body.jumps) program (inside_loop program l)

-- a test that is left out tests 1
abbrev pub test_or_one : Inside → Option TExpr → Piece Arg
test_or_one w None = only (Number (pos 1))
test_or_one w (Some e) = (means w e).value true (temporary w)

-- a step that may be left out
abbrev pub step_or_none : Inside → Option TExpr → Piece (Unit {0})
step_or_none w None = only tt
step_or_none w (Some e) = drops w e

-- a loop of the source, by its number
abbrev pub source_loop : Inside → Spot → ℕ → Option TExpr → Option TExpr → Stretch → Bool → Stretch
source_loop w spot number test step body tested = loop w.program (record {
  place = spot.place;
  region = loop_region w.function number;
  test = test_or_one w test;
  step = step_or_none w step;
  body = body;
  counted = flag (slice_get w.program.marks.counted number);
  tested = tested;
})
