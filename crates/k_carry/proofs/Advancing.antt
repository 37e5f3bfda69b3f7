-- What each kind of instruction did is told.
use Rattle.std.proofs.Common.{◌≡◌, ℕ, ◌+◌, ◌<◌, Bool, true, List, [], ◌∷◌, ◌++◌, length, Option, Some, None, Result, Ok, Err, arith, refl, sym, subst, ap, ◌∙◌}
use Rattle.std.specs.Prelude.{IfOk, is_some, nat_lt, replicate}
use Rattle.k_num.specs.declared.memory.NoMemory.{NoMemory}
use Rattle.k_world.specs.declared.answer.Stop.{Stop}
use Rattle.k_world.specs.declared.answer.Stop.TheVariants as stop
use Rattle.std.proofs.lemmas.List.{append-nil}
use Rattle.k_optab.specs.declared.class.Class.{Class}
use Rattle.k_optab.specs.declared.class.Class.TheVariants as class
use Rattle.k_optab.specs.declared.event.Event.{Event}
use Rattle.k_optab.specs.declared.event.Event.TheVariants.{Exit}
use Rattle.k_ending.specs.declared.ending.End.{End}
use Rattle.k_code.specs.declared.code.CodeFunc.{CodeFunc}
use Rattle.k_code.specs.declared.instruction.Arg.{Arg}
use Rattle.k_code.specs.declared.instruction.Do.{Do}
use Rattle.k_code.specs.declared.instruction.Do.TheVariants as act
use Rattle.k_code.specs.declared.instruction.Instr.{Instr}
use Rattle.k_code.specs.Named.{is_there}
use Rattle.k_code.specs.Steps.{Configuration, Over, left_by}
use Rattle.k_hcpa_meaning.specs.Behind.{world_behind}
use Rattle.k_hcpa_store.specs.Kept.{Kept, configuration_of}
use Rattle.k_hcpa_store.specs.Leads.{Calls, EndsHere, GoesOn, IsNext, Leaves, event_told, moved_events, return_events}
use Rattle.k_hcpa_store.specs.declared.answer.Calling.TheVariants as calling
use Rattle.k_carry.specs.declared.advance.Happened.{Happened}
use Rattle.k_carry.specs.declared.advance.Made.{Made}
use Rattle.k_carry.specs.Steps.{Advances, EndsAfter, GoesOrEnds, happened, is_given, moved, none_happened, operation_events}

-- the run ends where nothing has happened
pub ended : (old new : Kept) (i : Instr) (end : End) → EndsHere old end new → Advances old i (none_happened (Some end)) new
ended old new i end is = (
  class.Move,
  (
    (configuration_of old).world,
    λ events taken. is.1 events taken ∙ (λ j. Over end (world_behind (sym (append-nil events) j) taken (configuration_of old).world)),
  ),
)

-- the function that is called is there
pub call_there : (s : Kept) (i : Instr) (func : ℕ) (args : List Arg) (to : Option ℕ) → IsNext s i → i.act ≡ act.Call func args to → func < length s.code.funcs
unfolding is_there
call_there s i func args to next is =
    let same : Some next.finds.instr ≡ Some i = sym next.finds.is ∙ next.is in
    let instr : next.finds.instr ≡ i = cc same in
    let names : is_there s.code (act.Call func args to) ≡ true =
    ap (λ (what : Do). is_there s.code what) (sym (ap (λ (x : Instr). x.act) instr ∙ is)) ∙ next.finds.names in
    let low : nat_lt func (length s.code.funcs) ≡ true = names in
    grind arith

-- the events of a return, by whether it moves a value
returned_events : (c : Configuration) (i : Instr) (value : Option Arg) → i.act ≡ act.Return value
    → moved_events c i i.act ≡ operation_events class.Move i c (moved (is_given value) c.world.control)
returned_events c i value is = ap (λ (what : Do). moved_events c i what) is ∙ by value
  where
    by : (v : Option Arg) → moved_events c i (act.Return v) ≡ operation_events class.Move i c (moved (is_given v) c.world.control)
    by None = refl
    by (Some a) = refl

-- what a return did
abbrev pub leaving : Bool → Option ℕ → ℕ → Option End → Happened
leaving moves control left end = record { operation = moved moves control; entered = None; left = left; end = end }

pub left_told : (old new : Kept) (i : Instr) (value : Option Arg) (moves : Bool) (control : Option ℕ) (left : ℕ) (end : Option End)
    → i.act ≡ act.Return value → moves ≡ is_given value → control ≡ (configuration_of old).world.control → left ≡ (configuration_of old).frame.regions + 1
    → Leaves old i end new → Advances old i (leaving moves control left end) new
left_told old new i value moves control left end is given controls regions leaves = (class.Move, by end leaves)
  where
    events : return_events (configuration_of old) i ≡ happened class.Move i (configuration_of old) (leaving moves control left end)
    events =
        ap (λ (front : List Event). front ++ replicate ((configuration_of old).frame.regions + 1) Exit) (returned_events (configuration_of old) i value is)
        ∙ (λ j. operation_events class.Move i (configuration_of old) (moved (sym given j) (sym controls j)) ++ ([] ++ replicate (sym regions j) Exit))

    by : (e : Option End) → Leaves old i e new → GoesOrEnds old (happened class.Move i (configuration_of old) (leaving moves control left e)) e new
    by None on = subst (λ (more : List Event). GoesOn old more new) events on
    by (Some e) over = subst (λ (more : List Event). EndsAfter old more e) events (left_by old.code (configuration_of new).frame (configuration_of new).world, over.1)

-- an operation was made
pub operated : (old new : Kept) (i : Instr) (class : Class) (m : Made) (hidden control : Option ℕ) → m.hidden ≡ hidden → m.control ≡ control
    → GoesOn old (event_told class i (configuration_of old) hidden control ∷ []) new
    → Advances old i (record { operation = Some m; entered = None; left = 0; end = None }) new
operated old new i class m hidden control one two on =
    (class, subst (λ (e : Event). GoesOn old (e ∷ []) new) (λ j. event_told class i (configuration_of old) (sym one j) (sym two j)) on)

-- a function was called
pub called : (old new : Kept) (i : Instr) (f : CodeFunc) (m : Made) (control : Option ℕ) → m ≡ record { hidden = None; control = control; element = None }
    → control ≡ (configuration_of old).world.control → Calls old i f (Ok calling.Entered) new
    → Advances old i (record { operation = Some m; entered = Some f.region; left = 0; end = None }) new
called old new i f m control same is on = (
  class.Call,
  subst (λ (x : Made). GoesOn old (happened class.Call i (configuration_of old) (record { operation = Some x; entered = Some f.region; left = 0; end = None })) new)
      (sym (same ∙ (λ j. record { hidden = None; control = is j; element = None }))) on,
)

pub overflowed : (old new : Kept) (i : Instr) (f : CodeFunc) (m : Made) (control : Option ℕ) (end : End) → m ≡ record { hidden = None; control = control; element = None }
    → control ≡ (configuration_of old).world.control → Calls old i f (Ok (calling.Overflowed end)) new
    → Advances old i (record { operation = Some m; entered = None; left = 0; end = Some end }) new
overflowed old new i f m control end same is over = (
  class.Call,
  subst (λ (x : Made). EndsAfter old (happened class.Call i (configuration_of old) (record { operation = Some x; entered = None; left = 0; end = Some end })) end)
      (sym (same ∙ (λ j. record { hidden = None; control = is j; element = None }))) ((configuration_of new).world, over.1),
)

-- what is there
pub the_some : {X : Type 0} (o : Option X) → is_some o ≡ true → (x : X) × (o ≡ Some x)
the_some None is = absurd (cc is)
the_some (Some x) is = (x, refl)

-- where the run has ended by an operation that was not made
pub if_stopped : (old new : Kept) (i : Instr) (s : Stop) (r : Result Happened NoMemory) → ((end : End) → s ≡ stop.Ended end → EndsHere old end new)
    → IfOk r (λ h. (end : End) × (s ≡ stop.Ended end) × (h ≡ none_happened (Some end))) → IfOk r (λ h. Advances old i h new)
if_stopped old new i s (Err e) ends is = is
if_stopped old new i s (Ok h) ends is =
    subst (λ (x : Happened). Advances old i x new) (sym is.2) (ended old new i is.0 (ends is.0 is.1))
