-- Believed with the theorem on the top call.
-- Loops, turn by turn, and the control source of each of their parts (C17 6.8.5).
use Rattle.std.specs.Prelude.{ℕ, zero, suc, ◌+◌, ◌*◌, Bool, true, false, not, ◌&&◌, ◌||◌, if◌then◌else◌, pos, Option, Some, None, slice_get}
use Rattle.k_num.specs.declared.place.Place.{Place}
use Rattle.k_ending.specs.declared.ending.End.TheVariants.{OutOfSteps}
use Rattle.k_types_meaning.specs.declared.tree.expression.TExpr.{TExpr}
use Rattle.k_types_meaning.specs.declared.tree.statement.Spot.{Spot}
use Rattle.k_marks_meaning.specs.declared.jumps.Jumps.{Jumps}
use Rattle.k_marks_meaning.specs.Jumps.{out_of_loop}
use Rattle.k_world.specs.declared.value.Held.{Held}
use Rattle.k_world.specs.declared.value.Value.TheVariants as value
use Rattle.k_evaluation.specs.declared.operand.Operand.TheVariants.{Constant}
use Rattle.k_evaluation.specs.declared.flow.Flow.{Flow}
use Rattle.k_evaluation.specs.declared.flow.Flow.TheVariants.{Normal, Broke, Continued, Returned}
use Rattle.k_evaluation.specs.States.{Stops, Part, ◌>>=◌, gives, region, settles, control}
use Rattle.k_evaluation.specs.Meanings.{tests, holds, flag}
use Rattle.k_evaluation.specs.Flows.{Doing, Within, drops, tests_at}

-- Regions are numbered in text order: each function, and in it each loop directly followed by its body. This is the region of the loop of
-- this number among those of the source, in the function of that number.
abbrev pub loop_region : ℕ → ℕ → ℕ
loop_region function loop = function + 1 + 2 * loop

-- What a loop is made of: its condition with the test, its step, and its body in its region; whether it is counted; and the jumps that
-- lead out of its body.
pub record LoopParts : Type 0 where
  pub test : Part Held
  pub step : Part (Unit {0})
  pub body : Part Flow
  pub counted : Bool
  pub jumps : Jumps

-- what the end of a body is to its loop: a `break` ends the loop, a `continue` the turn, and a `return` the loop and more
pub data Turn : Type 0 where
  Again : Turn
  Ends : Flow → Turn

-- a body's end, as its loop takes it
abbrev pub turn_of : Flow → Turn
turn_of Normal = Again
turn_of Broke = Ends Normal
turn_of Continued = Again
turn_of (Returned v) = Ends (Returned v)

-- the control source is this where the loop is counted
abbrev pub resets : Bool → Option ℕ → Part (Unit {0})
resets counted before = settles (not counted) before

-- in a counted loop each test, body and step starts with the control source as before the loop
abbrev pub starts : {A : Type 0} → LoopParts → Option ℕ → Part A → Part A
starts l before part = resets l.counted before >>= λ ready. part

-- the control source behind a body stays where its text holds a `break` of this loop or a `return`
abbrev pub stays_behind_body : Jumps → Bool
stays_behind_body j = j.breaks || j.returns

-- the control source behind a loop stays where its text holds a `return`, but not behind a counted loop
abbrev pub stays_behind_loop : Bool → Jumps → Bool
stays_behind_loop counted j = not counted && j.returns

-- a turn behind its body: the step and then the next test, or the end of the loop
abbrev pub step_or_end : LoopParts → Option ℕ → Part Flow → Turn → Part Flow
step_or_end l before next Again = starts l before l.step >>= λ done. next
step_or_end l before next (Ends flow) = gives flow

-- a turn behind its body, which ended so: the control source is the last test, or what was before the loop where there was none, or it
-- stays
abbrev pub behind_body : LoopParts → Option ℕ → Part Flow → Option ℕ → Flow → Part Flow
behind_body l before next last flow = settles (stays_behind_body l.jumps) last >>= λ done. step_or_end l before next (turn_of flow)

-- A TURN from its body on, behind a test or at the start of a `do`, and what follows its step
abbrev pub turn : LoopParts → Option ℕ → Part Flow → Option ℕ → Part Flow
turn l before next last = starts l before l.body >>= behind_body l before next last

-- a turn where its test found a number other than 0, else the end of the loop
abbrev pub turn_if : LoopParts → Option ℕ → Part Flow → Held → Part Flow
turn_if l before next test = if holds test then turn l before next test.source else gives Normal

-- The turns of a loop from a test on, at most so many: each test is an operation, so one more than operations are left is enough.
unfoldable pub turns : ℕ → LoopParts → Option ℕ → Part Flow
turns zero l before s = Stops OutOfSteps s.world
turns (suc n) l before s = (starts l before l.test >>= turn_if l before (turns n l before)) s

-- as many turns as there may be
abbrev pub all_turns : LoopParts → Option ℕ → Part Flow
all_turns l before s = turns (s.world.left + 1) l before s

-- a loop that begins with a test, or with its body
abbrev pub begins : LoopParts → Bool → Option ℕ → Part Flow
begins l true before = all_turns l before
begins l false before = turn l before (all_turns l before) before

-- the loop in its region
abbrev pub inside_loop : LoopParts → ℕ → Bool → Option ℕ → Part Flow
inside_loop l number tested before = region number (begins l tested before)

-- A LOOP in the region of this number, which begins with a test or with its body, and the control source behind it
abbrev pub loop : LoopParts → ℕ → Bool → Part Flow
loop l number tested = control >>= λ before. inside_loop l number tested before >>= λ flow.
    settles (stays_behind_loop l.counted l.jumps) before >>= λ done. gives flow

-- C17 6.8.5.3p2: a test that is left out tests 1
abbrev pub test_or_one : Within → Place → Option TExpr → Part Held
test_or_one w place None = tests w.program place (Constant (value.Number (pos 1)))
test_or_one w place (Some e) = tests_at w place e

-- a step that may be left out
abbrev pub step_or_none : Within → Option TExpr → Part (Unit {0})
step_or_none w None = gives tt
step_or_none w (Some e) = drops w e

-- whether the loop of this number is counted
abbrev pub is_counted : Within → ℕ → Bool
is_counted w number = flag (slice_get w.program.marks.counted number)

-- the parts of the loop of this number at this place
abbrev pub loop_parts : Within → Place → ℕ → Option TExpr → Option TExpr → Doing → LoopParts
loop_parts w place number test step body = record {
  test = test_or_one w place test;
  step = step_or_none w step;
  body = region (loop_region w.function number + 1) body.does;
  counted = is_counted w number;
  jumps = body.jumps;
}

-- a loop of the source, by its number
abbrev pub source_loop : Within → Spot → ℕ → Option TExpr → Option TExpr → Doing → Bool → Part Flow
source_loop w spot number test step body tested =
    loop (loop_parts w spot.place number test step body) (loop_region w.function number) tested

-- `while (test) body` (C17 6.8.5.1)
unfoldable pub while_loop : Within → Spot → ℕ → TExpr → Doing → Doing
while_loop w spot number test body = record { does = source_loop w spot number (Some test) None body true; jumps = out_of_loop body.jumps }

-- `do body while (test);` (C17 6.8.5.2)
unfoldable pub do_loop : Within → Spot → ℕ → Doing → TExpr → Doing
do_loop w spot number body test = record { does = source_loop w spot number (Some test) None body false; jumps = out_of_loop body.jumps }
