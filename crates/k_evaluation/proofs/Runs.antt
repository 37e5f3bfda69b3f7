-- What holds of every run, by what its parts keep.
use Rattle.std.proofs.Common.{◌≡◌, ◌≢◌, ℕ, ◌+◌, ◌*◌, ◌≤◌, List, length, Option, refl, sym, subst, ap, arith}
use Rattle.std.proofs.Math.Nat.{mul-le-mul_right}
use Rattle.k_optab.specs.declared.class.Class.TheVariants.{Move, Conv, Simple, Mul, Div, Load, Store, Test, Call, Input, Output, Select}
use Rattle.k_optab.specs.declared.event.Event.{Event}
use Rattle.k_optab.specs.Events.{operations, SourcesAreEarlier, total_latency}
use Rattle.k_optab.specs.Instances.{Balanced}
use Rattle.k_optab.specs.Latencies.{latency}
use Rattle.k_ending.specs.declared.ending.End.{End}
use Rattle.k_ending.specs.declared.ending.End.TheVariants as ending
use Rattle.k_world.specs.declared.value.Held.{Held}
use Rattle.k_world.specs.Worlds.{World}
use Rattle.k_world.specs.WorldLaws.{IsSound, IsEarly}
use Rattle.k_evaluation.specs.States.{Program, Outcome, Goes, Stops}
use Rattle.k_evaluation.specs.Runs.{Run, ended, initial, whole, run}
use Rattle.k_evaluation.specs.Laws.{Begins, AreAtMost, IsReturned, IsCut, RunsHaveEarlierSources, RunsKeepTheBudget, RunsTakeBoundedTime, ReturnedRunsAreBalanced, EndedRunsStay, CutRunsBegin}
use Rattle.k_evaluation.proofs.Kept.{Setting, OperandsCome, IsGood, Grows, Fine, Cut, Keeps}
use Rattle.k_evaluation.proofs.Loops.{of_slot}
use Rattle.k_evaluation.proofs.Called.{whole_lawful}

-- what a run gives came from operations that were made
abbrev Comes : ℕ → Option Held → Type 0
Comes made v = OperandsCome made (of_slot v)

-- before the first operation
initial_good : (most : ℕ) (input : List ℕ) (budget : ℕ) → IsGood most budget (initial input budget)
initial_good most input budget = record {
  sound = record {
    earlier = λ k op is. cc;
    counted = refl;
    steps = omega arith;
    work = omega arith;
    control = tt;
    in_cell = tt;
    out_cell = tt;
    elements = tt;
  };
  held = tt;
}

-- what comes of a whole run
run_kept : (g : Setting) (input : List ℕ) (budget : ℕ) → Keeps g.most budget Comes (whole g.program) (initial input budget)
run_kept g input budget = whole_lawful g budget (initial input budget) (initial_good g.most input budget) tt

-- a run like this
pub record IsSoundRun (budget most : ℕ) (it : Run) : Type 0 where
  pub earlier : SourcesAreEarlier (operations it.events)
  pub counted : length (operations it.events) ≤ budget
  pub work : total_latency (operations it.events) ≤ budget * most
  pub balanced : IsReturned it.end → Balanced it.events

within_budget : (budget most : ℕ) (w : World) → IsSound budget most w → w.made ≤ budget
within_budget budget most w sound = let steps : w.made + w.left ≡ budget = sound.steps in omega (arith, steps)

bounded : (total made budget most : ℕ) → total ≤ made * most → made ≤ budget → total ≤ budget * most
bounded total made budget most h low = let more : made * most ≤ budget * most = mul-le-mul_right most low in omega (arith, h, more)

world_sound : (budget most : ℕ) (w : World) (it : Run) → it.events ≡ w.events → IsSound budget most w → (IsReturned it.end → Balanced it.events) → IsSoundRun budget most it
world_sound budget most w it same sound balanced = record {
  earlier = subst (λ (events : List Event). SourcesAreEarlier (operations events)) (sym same) sound.earlier;
  counted = subst (λ (events : List Event). length (operations events) ≤ budget) (sym same) (rw sound.counted (within_budget budget most w sound));
  work =
      subst (λ (events : List Event). total_latency (operations events) ≤ budget * most) (sym same)
      (bounded (total_latency (operations w.events)) w.made budget most sound.work (within_budget budget most w sound));
  balanced = balanced;
}

ended_sound : (budget most : ℕ) (input : List ℕ) (o : Outcome (Option Held)) → Fine most budget Comes (initial input budget).world o → IsSoundRun budget most (ended o)
ended_sound budget most input (Goes v s) h =
    world_sound budget most s.world (ended (Goes v s)) refl h.0.sound (λ returned. subst Balanced (sym h.2.grown.events.1) h.2.balanced)
ended_sound budget most input (Stops end w) h = world_sound budget most w (ended (Stops end w)) refl h.1 (by end h.0)
  where
    by : (end : End) → IsEarly end → IsReturned end → Balanced w.events
    by (ending.Returned v) early returned = absurd early
    by (ending.Trapped trap place) early returned = absurd returned
    by ending.OutOfSteps early returned = absurd returned

-- every run
pub run_sound : (program : Program) (input : List ℕ) (budget most : ℕ) → AreAtMost most program.latencies → IsSoundRun budget most (run program input budget)
unfolding run
run_sound program input budget most short =
    ended_sound budget most input (whole program (initial input budget)) (run_kept (record { program = program; most = most; short = short }) input budget).0

-- all latencies together, which is at least each of them
abbrev all_latencies : List ℕ → ℕ
all_latencies l =
    latency l Move + latency l Conv + latency l Simple + latency l Mul + latency l Div + latency l Load + latency l Store + latency l Test + latency l Call + latency l Input + latency l Output + latency l Select

at_most_all : (l : List ℕ) → AreAtMost (all_latencies l) l
at_most_all l Move = omega arith
at_most_all l Conv = omega arith
at_most_all l Simple = omega arith
at_most_all l Mul = omega arith
at_most_all l Div = omega arith
at_most_all l Load = omega arith
at_most_all l Store = omega arith
at_most_all l Test = omega arith
at_most_all l Call = omega arith
at_most_all l Input = omega arith
at_most_all l Output = omega arith
at_most_all l Select = omega arith

-- a program with a bound on its latencies
abbrev setting : Program → Setting
setting program = record { program = program; most = all_latencies program.latencies; short = at_most_all program.latencies }

any_run : (program : Program) (input : List ℕ) (budget : ℕ) → IsSoundRun budget (all_latencies program.latencies) (run program input budget)
any_run program input budget = run_sound program input budget (all_latencies program.latencies) (at_most_all program.latencies)

pub earlier_sources : RunsHaveEarlierSources
earlier_sources program input budget = (any_run program input budget).earlier

pub kept_budget : RunsKeepTheBudget
kept_budget program input budget = (any_run program input budget).counted

pub bounded_time : RunsTakeBoundedTime
bounded_time program input budget most short = (run_sound program input budget most short).work

pub balanced_runs : ReturnedRunsAreBalanced
balanced_runs program input budget = (any_run program input budget).balanced

-- THE BUDGET ONLY CUTS
stay : (most budget k : ℕ) (w : World) (o other : Outcome (Option Held)) → Fine most budget Comes w o → Cut k o other → (ended o).end ≢ ending.OutOfSteps → ended other ≡ ended o
stay most budget k w (Goes v s) other fine same differs = ap ended same
stay most budget k w (Stops (ending.Trapped trap place) v) other fine same differs = ap ended same
stay most budget k w (Stops (ending.Returned n) v) other fine same differs = absurd fine.0
stay most budget k w (Stops ending.OutOfSteps v) other fine same differs = absurd (differs refl)

pub ended_stay : EndedRunsStay
unfolding run
ended_stay program input budget more differs =
    let kept = run_kept (setting program) input budget in
    stay (all_latencies program.latencies) budget more (initial input budget).world (whole program (initial input budget)) (whole program (initial input (budget + more)))
    kept.0 (kept.1 more) differs

-- a longer run begins with this world's events and output
grown_begins : (w : World) (o : Outcome (Option Held)) → Grows w o → Begins w.events (ended o).events × Begins w.output (ended o).output
grown_begins w (Goes v s) h = (h.events, h.output)
grown_begins w (Stops end v) h = (h.events, h.output)

full : (budget most : ℕ) (w : World) → IsSound budget most w → w.left ≡ 0 → length (operations w.events) ≡ budget
full budget most w sound none = let steps : w.made + w.left ≡ budget = sound.steps in let count : length (operations w.events) ≡ w.made = sound.counted in omega (arith, steps, count, none)

begin : (most budget k : ℕ) (w : World) (o other : Outcome (Option Held)) → Fine most budget Comes w o → Cut k o other → (ended o).end ≡ ending.OutOfSteps
    → IsCut budget (ended o) (ended other)
begin most budget k w (Goes v s) other fine same is = absurd cc
begin most budget k w (Stops (ending.Trapped trap place) v) other fine same is = absurd cc
begin most budget k w (Stops (ending.Returned n) v) other fine same is = absurd fine.0
begin most budget k w (Stops ending.OutOfSteps v) other fine same is = record {
  full = full budget most v fine.1 same.0;
  events = (grown_begins v other same.1).0;
  output = (grown_begins v other same.1).1;
}

pub cut_begin : CutRunsBegin
unfolding run
cut_begin program input budget more is =
    let kept = run_kept (setting program) input budget in
    begin (all_latencies program.latencies) budget more (initial input budget).world (whole program (initial input budget)) (whole program (initial input (budget + more)))
    kept.0 (kept.1 more) is
