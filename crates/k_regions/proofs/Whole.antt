-- A whole run: it enters no other regions than those of its source, so often as its operations pay for; and where main returned, it is one instance
-- of main.
use Rattle.std.proofs.Common.{◌≡◌, ℕ, suc, ℤ, pos, ◌+◌, ◌*◌, ◌<◌, ◌≤◌, FitsSigned, w32, IsTrue, arith, List, [], ◌∷◌, ◌++◌, length, slice_get, Option, Some, None, refl, sym, ◌∙◌, subst, ap}
use Rattle.std.specs.Prelude.{codes}
use Rattle.std.proofs.lemmas.Int.{ints}
use Rattle.std.proofs.lemmas.Option.{same_Some}
use Rattle.k_num.specs.declared.numbers.Kind.TheVariants.{I32}
use Rattle.k_num.specs.Kind.{converted, is_held}
use Rattle.k_num.proofs.KindLaws.{held_converted}
use Rattle.k_optab.specs.declared.event.Event.{Event}
use Rattle.k_optab.specs.declared.event.Event.TheVariants.{Op, Enter, Exit}
use Rattle.k_optab.specs.declared.region.Region.{Region}
use Rattle.k_optab.specs.Instances.{Balanced}
use Rattle.k_tree.specs.declared.tree.unit.Unit as source
use Rattle.k_types_meaning.specs.declared.tree.unit.TFunc.{TFunc}
use Rattle.k_types_meaning.specs.declared.tree.unit.TObject.{TObject}
use Rattle.k_types_meaning.specs.declared.tree.unit.TString.{TString}
use Rattle.k_types_meaning.specs.Bare.{IsTyped}
use Rattle.k_types_meaning.specs.Numbered.{IsNumbered}
use Rattle.k_types_meaning.specs.Units.{faults}
use Rattle.k_ending.specs.declared.ending.End.{End}
use Rattle.k_ending.specs.declared.ending.End.TheVariants as ending
use Rattle.k_mem.specs.declared.start.Start.TheVariants.{Zero}
use Rattle.k_world.specs.declared.value.Held.{Held}
use Rattle.k_world.specs.declared.value.Value.{Value}
use Rattle.k_world.specs.declared.value.Value.TheVariants as value
use Rattle.k_world.specs.WorldLaws.{IsEarly}
use Rattle.k_evaluation.specs.States.{Program, State, Outcome, Goes, Stops, Part, follow, ◌>>=◌, gives, exits}
use Rattle.k_evaluation.specs.Objects.{makes_object, makes_string, fills}
use Rattle.k_evaluation.specs.Calls.{calls, entered, function_region, runs}
use Rattle.k_evaluation.specs.Laws.{IsReturned}
use Rattle.k_evaluation.specs.Loops.{loop_region}
use Rattle.k_evaluation.specs.Runs.{ended, exit_of, initial, int_of, run, runs_main, starts_object, starts_objects, starts_strings, whole}
use Rattle.k_regions.specs.declared.loops.LoopAt.{LoopAt}
use Rattle.k_optab.specs.Entered.{EnterBelow}
use Rattle.k_regions.specs.Laws.{AreItsRegions, entries, HasItsRegions, ReturnedRunsAreOfMain, ReturnedRunsGiveInts, RunsEnterTheirRegions}
use Rattle.k_regions.specs.Regions.{function_itself, loops_of, regions_of}
use Rattle.k_regions.proofs.Added.{Policy, ArePaid, made_of, region_paid, EachEntered, each_both, Leaves, Stays, IsStill, then_still, gives_still, makes_object_still, makes_string_still, fills_still}
use Rattle.k_regions.proofs.Entered.{LoopsHold, ProgramHolds, inside, main_adds}
use Rattle.k_regions.proofs.Functions.{name_of}
use Rattle.k_regions.proofs.Names.{main_found}
use Rattle.k_regions.proofs.Numbers.{below_length, function_fits, have_numbers}

-- THE START makes no event
objects_still : (os : List TObject) → IsStill (starts_objects os)
objects_still [] = gives_still {A = Unit {0}} tt
objects_still (o ∷ os) =
    then_still (starts_object o) (λ done. starts_objects os)
    (then_still (makes_object o.place Zero o.elements) (λ home. fills home o.first) (makes_object_still o.place Zero o.elements) (λ home. fills_still home o.first))
    (λ done. objects_still os)

strings_still : (ts : List TString) → IsStill (starts_strings ts)
strings_still [] = gives_still {A = Unit {0}} tt
strings_still (t ∷ ts) = then_still (makes_string t.place t.bytes) (λ home. starts_strings ts) (makes_string_still t.place t.bytes) (λ home. strings_still ts)

-- MAIN: one instance of its region, with others within it; or the run ends in it
module _ (P : Policy) (number : ℕ) where
  pub record IsInstance (events : List Event) : Type 0 where
    pub within : List Event
    pub whole : events ≡ Enter number ∷ (within ++ Exit ∷ [])
    pub balanced : Balanced within

  -- its entries are allowed, and paid for but for those that one operation more would pay for
  pub record AreAllowed (events : List Event) : Type 0 where
    pub each : EachEntered P.Allows events
    pub paid : ArePaid P P.price 0 events

  -- what comes of it, where no event came before
  abbrev MainLeaves : Outcome (Option Held) → Type 0
  MainLeaves (Goes v t) = IsInstance t.world.events × AreAllowed t.world.events
  MainLeaves (Stops end w) = IsEarly end × AreAllowed w.events

  instance_allowed : (w : ℕ) (events : List Event) → P.Allows number → 1 + w ≤ P.price → EachEntered P.Allows events → ArePaid P w 0 events
      → AreAllowed (Enter number ∷ (events ++ Exit ∷ []))
  instance_allowed w events one le each h =
      let paid : entries (Enter number ∷ (events ++ Exit ∷ [])) + 0 ≤ (1 + w) + P.price * made_of (Enter number ∷ (events ++ Exit ∷ [])) = region_paid P number w 0 events h in
      record { each = (one, each_both P.Allows events (Exit ∷ []) each tt); paid = omega (arith, paid, le) }

  open_allowed : (w : ℕ) (events : List Event) → P.Allows number → 1 + w ≤ P.price → EachEntered P.Allows events → ArePaid P w 0 events → AreAllowed (Enter number ∷ events)
  open_allowed w events one le each h =
      let paid : entries events + 0 ≤ w + P.price * made_of events = h in
      record { each = (one, each); paid = omega (arith, paid, le) }

  main_leaves : (w : ℕ) (o : Outcome (Option Held)) → P.Allows number → 1 + w ≤ P.price → Leaves P w 0 (Enter number ∷ []) o → MainLeaves (follow o (λ a. exits >>= λ left. gives a))
  main_leaves w (Goes v t) one le h =
      let is : t.world.events ++ Exit ∷ [] ≡ Enter number ∷ (h.0.events ++ Exit ∷ []) = ap (λ (e : List Event). e ++ Exit ∷ []) h.0.is in (
        record { within = h.0.events; whole = is; balanced = h.1 },
        subst AreAllowed (sym is) (instance_allowed w h.0.events one le h.0.each h.0.paid),
      )
  main_leaves w (Stops end x) one le h = (h.0, subst AreAllowed (sym h.1.is) (open_allowed w h.1.events one le h.1.each h.1.paid))

  none_allowed : AreAllowed []
  none_allowed = record { each = tt; paid = omega arith }

  -- behind a start that made no event
  still_then : {A : Type 0} (o : Outcome A) (next : A → Part (Option Held)) → Stays [] o → ((a : A) (t : State) → t.world.events ≡ [] → MainLeaves (next a t)) → MainLeaves (follow o next)
  still_then (Goes a t) next h k = k a t h
  still_then (Stops end w) next h k = (h.0, subst AreAllowed (sym h.1) none_allowed)

module _ (P : Policy) (program : Program) (holds : ProgramHolds P program) where
  abbrev main : ℕ
  main = program.unit.main

  runs_leave : (f : TFunc) → slice_get program.unit.functions main ≡ Some f → (s : State) → s.world.events ≡ []
      → MainLeaves P (function_region main f) (runs program (calls 4095 program) main f (entered f [] s))
  unfolding runs
  runs_leave f is s none =
      let here : State = record (entered f [] s) { world = record (entered f [] s).world { events = s.world.events ++ Enter (function_region main f) ∷ [] } } in
      main_leaves P (function_region main f) (2 * length (loops_of f)) (inside P program (calls 4095 program) main f here) (holds main f is).0 (holds main f is).2
      (subst (λ (e : List Event). Leaves P (2 * length (loops_of f)) 0 e (inside P program (calls 4095 program) main f here))
      (ap (λ (e : List Event). e ++ Enter (function_region main f) ∷ []) none) ((main_adds P program holds main f is).adds here))

  -- the whole run, where there is a main
  whole_leaves : (f : TFunc) → slice_get program.unit.functions main ≡ Some f → (input : List ℕ) (budget : ℕ) → MainLeaves P (function_region main f) (whole program (initial input budget))
  unfolding whole
  whole_leaves f is input budget =
      still_then P (function_region main f) (starts_objects program.unit.objects (initial input budget))
      (λ objects. starts_strings program.unit.strings >>= λ strings. runs_main program (slice_get program.unit.functions main))
      ((objects_still program.unit.objects).still (initial input budget))
      (λ objects t none.
      still_then P (function_region main f) (starts_strings program.unit.strings t) (λ strings. runs_main program (slice_get program.unit.functions main))
      (subst (λ (e : List Event). Stays e (starts_strings program.unit.strings t)) none ((strings_still program.unit.strings).still t))
      (λ strings u empty.
      subst (λ (o : Option TFunc). MainLeaves P (function_region main f) (runs_main program o u)) (sym is) (runs_leave f is u empty)))

-- EACH REGION of the source is below their number
below : (count : ℕ) (events : List Event) → EachEntered (λ n. n < count) events → EnterBelow count events
below count [] h = tt
below count (Op class latency sources place ∷ events) h = below count events h
below count (Enter region ∷ events) h = (h.0, below count events h.1)
below count (Exit ∷ events) h = below count events h

-- the regions that are entered are these, and an operation pays for so many entries
abbrev pub theirs : List Region → Policy
theirs regions = record { Allows = λ n. n < length regions; price = length regions }

loops_below : (regions : List Region) (n : ℕ) (name : List ℕ) (loops : List LoopAt) → 2 * length loops ≤ length regions
    → ((k : ℕ) (l : LoopAt) → slice_get loops k ≡ Some l → HasItsRegions regions n name l) → LoopsHold (theirs regions) n loops
loops_below regions n name [] few each = tt
loops_below regions n name (l ∷ loops) few each = (
  below_length regions (loop_region n l.number) _ (each 0 l refl).itself,
  below_length regions (loop_region n l.number + 1) _ (each 0 l refl).body,
  omega (arith, few),
  loops_below regions n name loops (omega (arith, few)) (λ k. each (suc k)),
)

program_below : (program : Program) → IsNumbered program.unit → ProgramHolds (theirs (regions_of program.unit)) program
program_below program numbered n f is =
    let regions : List Region = regions_of program.unit in
    let its : AreItsRegions regions n f = have_numbers program.unit numbered n f is in
    let few : 1 + 2 * length (loops_of f) ≤ length regions = function_fits program.unit n f is in
    (below_length regions (function_region n f) _ its.itself, loops_below regions n f.name (loops_of f) (omega (arith, few)) its.loops, few)

-- THE LAWS
-- main, and what comes of its run
pub record HasRun (program : Program) (input : List ℕ) (budget : ℕ) : Type 0 where
  pub main : TFunc
  pub named : name_of main ≡ codes "main"
  pub there : slice_get program.unit.functions program.unit.main ≡ Some main
  pub leaves : MainLeaves (theirs (regions_of program.unit)) (function_region program.unit.main main) (whole program (initial input budget))

pub has_run : (unit : source.Unit) (program : Program) (input : List ℕ) (budget : ℕ) → IsTyped unit program.unit → faults unit ≡ [] → HasRun program input budget
unfolding IsTyped
has_run unit program input budget typed none =
    let found = main_found unit program.unit typed none in
    record {
      main = found.0;
      named = found.2;
      there = found.1;
      leaves = whole_leaves (theirs (regions_of program.unit)) program (program_below program typed.3) found.0 found.1 input budget;
    }

pub ended_allowed : (P : Policy) (number : ℕ) (o : Outcome (Option Held)) → MainLeaves P number o → AreAllowed P number (ended o).events
ended_allowed P number (Goes v s) h = h.1
ended_allowed P number (Stops end w) h = h.1

pub enter_theirs : RunsEnterTheirRegions
unfolding run
enter_theirs unit program input budget typed none =
    let it = has_run unit program input budget typed none in
    below (length (regions_of program.unit)) (ended (whole program (initial input budget))).events
    (ended_allowed (theirs (regions_of program.unit)) (function_region program.unit.main it.main) (whole program (initial input budget)) it.leaves).each

instance_of : (P : Policy) (number : ℕ) (o : Outcome (Option Held)) → MainLeaves P number o → IsReturned (ended o).end → IsInstance P number (ended o).events
instance_of P number (Goes v s) h returned = h.0
instance_of P number (Stops (ending.Returned v) w) h returned = absurd h.0
instance_of P number (Stops (ending.Trapped trap place) w) h returned = absurd returned
instance_of P number (Stops ending.OutOfSteps w) h returned = absurd returned

pub are_of_main : ReturnedRunsAreOfMain
unfolding run IsTyped
are_of_main unit program input budget typed none returned =
    let it = has_run unit program input budget typed none in
    let regions : List Region = regions_of program.unit in
    let its : AreItsRegions regions program.unit.main it.main = have_numbers program.unit typed.3 program.unit.main it.main it.there in
    let one = instance_of (theirs regions) (function_region program.unit.main it.main) (whole program (initial input budget)) it.leaves returned in
    record {
      number = function_region program.unit.main it.main;
      inside = one.within;
      main = function_itself it.main;
      whole = one.whole;
      balanced = one.balanced;
      there = its.itself;
      kind = refl;
      func = it.named;
    }

-- the number that was returned, or something in its place
returned_in : End → ℤ
returned_in (ending.Returned v) = v
returned_in (ending.Trapped trap place) = pos 0
returned_in ending.OutOfSteps = pos 0

-- a number that main gives is an int
int_fits : (z : ℤ) → IsTrue (is_held I32 z) → FitsSigned w32 z
int_fits z h = grind (arith, ints)

int_given : (v : Value) → FitsSigned w32 (int_of v)
int_given (value.Number z) = int_fits (converted I32 z) (held_converted I32 z)
int_given (value.Pointer p) = grind (arith, ints)

exit_given : (v : Option Held) → FitsSigned w32 (exit_of v)
exit_given None = grind (arith, ints)
exit_given (Some held) = int_given held.value

exit_fits : (P : Policy) (number : ℕ) (o : Outcome (Option Held)) (exit : ℤ) → MainLeaves P number o → (ended o).end ≡ ending.Returned exit → FitsSigned w32 exit
unfolding returned_in
exit_fits P number (Goes v s) exit h is = subst (FitsSigned w32) (ap returned_in is) (exit_given v)
exit_fits P number (Stops (ending.Returned v) w) exit h is = absurd h.0
exit_fits P number (Stops (ending.Trapped trap place) w) exit h is = absurd (subst IsReturned (sym is) tt)
exit_fits P number (Stops ending.OutOfSteps w) exit h is = absurd (subst IsReturned (sym is) tt)

pub return_ints : ReturnedRunsGiveInts
unfolding run
return_ints unit program input budget exit typed none is =
    let it = has_run unit program input budget typed none in
    exit_fits (theirs (regions_of program.unit)) (function_region program.unit.main it.main) (whole program (initial input budget)) exit it.leaves is
