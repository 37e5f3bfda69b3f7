-- The events of each kind of instruction stand behind those that were listed.
use Rattle.std.proofs.Common.{◌≡◌, ℕ, ◌+◌, ◌<◌, Bool, true, List, [], ◌∷◌, ◌++◌, length, Option, Some, None, Result, Ok, Err, arith, refl, sym, subst, ap, ◌∙◌}
use Rattle.std.specs.Prelude.{IfOk, nat_lt, replicate}
use Rattle.std.proofs.lemmas.List.{append_assoc, append-nil}
use Rattle.std.proofs.lemmas.Option.{same_Some}
use Rattle.k_num.specs.declared.memory.NoMemory.{NoMemory}
use Rattle.k_optab.specs.declared.class.Class.{Class}
use Rattle.k_optab.specs.declared.class.Class.TheVariants as class
use Rattle.k_optab.specs.declared.event.Event.{Event}
use Rattle.k_optab.specs.declared.event.Event.TheVariants.{Op, Enter, Exit}
use Rattle.k_ending.specs.declared.ending.End.{End}
use Rattle.k_world.specs.declared.act.Act.{Act}
use Rattle.k_world.specs.declared.answer.Done.{Done}
use Rattle.k_world.specs.declared.answer.Stop.{Stop}
use Rattle.k_world.specs.declared.answer.Stop.TheVariants as stop
use Rattle.k_world.specs.declared.value.Read.{Read}
use Rattle.k_world.specs.Operands.{sources}
use Rattle.k_code.specs.declared.code.CodeFunc.{CodeFunc}
use Rattle.k_code.specs.declared.instruction.Arg.{Arg}
use Rattle.k_code.specs.declared.instruction.Do.{Do}
use Rattle.k_code.specs.declared.instruction.Do.TheVariants as act
use Rattle.k_code.specs.declared.instruction.Instr.{Instr}
use Rattle.k_code.specs.Named.{is_there}
use Rattle.k_code.specs.Steps.{Over, left_by, reads_of}
use Rattle.k_hcpa_meaning.specs.Behind.{world_behind}
use Rattle.k_hcpa_store.specs.declared.answer.Calling.TheVariants as calling
use Rattle.k_hcpa_store.specs.Kept.{Kept, configuration_of}
use Rattle.k_hcpa_store.specs.Leads.{Calls, EndsHere, GoesOn, IsNext, Leaves, Operates, alone_events, call_event, event_told, moved_events, return_events}
use Rattle.k_plain.specs.Kinds.{class_told, is_given, where_moved}
use Rattle.k_plain.specs.Steps.{Advanced, GoesOrEnds}

-- the run ends where nothing has happened, and nothing is listed
pub ended : (old : Kept) (end : End) (new : Kept) (events : List Event) → EndsHere old end new → Advanced old (Some end) new events events
ended old end new events is = record {
  more = [];
  goes = (
    (configuration_of old).world,
    ap (λ (k : Kept). (configuration_of k).world.output) (sym is.0),
    λ es taken. is.1 es taken ∙ (λ j. Over end (world_behind (sym (append-nil es) j) taken (configuration_of old).world)),
  );
  listed = sym (append-nil events);
}

-- the same where an instruction was stopped
pub if_stopped : (old new : Kept) (events : List Event) (st : Stop) (result : Result (Option End) NoMemory) → ((end : End) → st ≡ stop.Ended end → EndsHere old end new)
    → IfOk result (λ e. (end : End) × (st ≡ stop.Ended end) × (e ≡ Some end)) → IfOk result (λ e. Advanced old e new events events)
if_stopped old new events st (Err e) ends is = is
if_stopped old new events st (Ok e) ends is =
    subst (λ (x : Option End). Advanced old x new events events) (sym is.2) (ended old is.0 new events (ends is.0 is.1))

-- an operation of a class that is told
pub the_operation : (o : Option (Class × Act)) (class : Class) → class_told o ≡ Some class → (x : Class × Act) × (o ≡ Some x) × (x.0 ≡ class)
the_operation None class is = absurd (cc is)
the_operation (Some x) class is = (x, refl, same_Some x.0 class is)

pub operated : (s : Kept) (i : Instr) (o : Class × Act) (class : Class) (done : Done) (reads : List Read) (new : Kept) (before after : List Event)
    → o.0 ≡ class → reads ≡ reads_of (configuration_of s) i.act → Operates s i o (Ok done) new
    → after ≡ before ++ Op class i.latency (sources reads done.hidden done.control) i.place ∷ [] → Advanced s None new before after
operated s i o class done reads new before after is read goes listed = record {
  more = event_told o.0 i (configuration_of s) done.hidden done.control ∷ [];
  goes = goes.0;
  listed = listed ∙ (λ j. before ++ Op (sym is j) i.latency (sources (read j) done.hidden done.control) i.place ∷ []);
}

-- an instruction without events
pub gone_alone : (s : Kept) (what : Do) (new : Kept) (events : List Event) → alone_events what ≡ [] → GoesOn s (alone_events what) new → Advanced s None new events events
gone_alone s what new events none goes =
    record { more = []; goes = subst (λ (more : List Event). GoesOn s more new) none goes; listed = sym (append-nil events) }

-- one with these
pub gone_on : (s : Kept) (more : List Event) (new : Kept) (before after : List Event) → GoesOn s more new → after ≡ before ++ more → Advanced s None new before after
gone_on s more new before after goes listed = record { more = more; goes = goes; listed = listed }

-- the function that is called is there
pub call_there : (s : Kept) (i : Instr) (func : ℕ) (args : List Arg) (to : Option ℕ) → IsNext s i → i.act ≡ act.Call func args to → func < length s.code.funcs
unfolding is_there
call_there s i func args to next is =
    let same : Some next.finds.instr ≡ Some i = sym next.finds.is ∙ next.is in
    let instr : next.finds.instr ≡ i = cc same in
    let names : is_there s.code (act.Call func args to) ≡ true =
    ap (λ (what : Do). is_there s.code what) (sym (ap (λ (x : Instr). x.act) instr ∙ is)) ∙ next.finds.names in
    let low : nat_lt func (length s.code.funcs) ≡ true = names in
    grind arith

module _ (s : Kept) (i : Instr) (reads : List Read) (control : Option ℕ) (read : reads ≡ reads_of (configuration_of s) i.act)
    (under : control ≡ (configuration_of s).world.control) where
  -- the event of an operation under the control source, by what was read
  told_under : (class : Class) → Op class i.latency (sources reads None control) i.place ≡ event_told class i (configuration_of s) None (configuration_of s).world.control
  told_under class = λ j. Op class i.latency (sources (read j) None (under j)) i.place

  pub called : (f : CodeFunc) (new : Kept) (before middle after : List Event) → middle ≡ before ++ Op class.Call i.latency (sources reads None control) i.place ∷ []
      → after ≡ middle ++ Enter f.region ∷ [] → Calls s i f (Ok calling.Entered) new → Advanced s None new before after
  called f new before middle after first then_entered on = record {
    more = call_event i (configuration_of s) ∷ Enter f.region ∷ [];
    goes = on;
    listed = then_entered
        ∙ ap (λ (es : List Event). es ++ Enter f.region ∷ []) (first ∙ ap (λ (e : Event). before ++ e ∷ []) (told_under class.Call))
        ∙ append_assoc before (call_event i (configuration_of s) ∷ []) (Enter f.region ∷ []);
  }

  pub overflowed : (f : CodeFunc) (end : End) (new : Kept) (before after : List Event) → after ≡ before ++ Op class.Call i.latency (sources reads None control) i.place ∷ []
      → Calls s i f (Ok (calling.Overflowed end)) new → Advanced s (Some end) new before after
  overflowed f end new before after first over = record {
    more = call_event i (configuration_of s) ∷ [];
    goes = ((configuration_of new).world, refl, over.1);
    listed = first ∙ ap (λ (e : Event). before ++ e ∷ []) (told_under class.Call);
  }

  -- the event of what a return moves
  moved_told : (value : Option Arg) → where_moved (is_given value) i reads control ≡ moved_events (configuration_of s) i (act.Return value)
  moved_told None = refl
  moved_told (Some a) = ap (λ (e : Event). e ∷ []) (told_under class.Move)

  moved_is : (value : Option Arg) (moves : Bool) → i.act ≡ act.Return value → moves ≡ is_given value
      → where_moved moves i reads control ≡ moved_events (configuration_of s) i i.act
  moved_is value moves is given =
      ap (λ (b : Bool). where_moved b i reads control) given ∙ moved_told value ∙ ap (λ (what : Do). moved_events (configuration_of s) i what) (sym is)

  pub left : (value : Option Arg) (moves : Bool) (count : ℕ) (end : Option End) (new : Kept) (before middle after : List Event) → i.act ≡ act.Return value
      → moves ≡ is_given value → count ≡ (configuration_of s).frame.regions + 1 → middle ≡ before ++ where_moved moves i reads control
      → after ≡ middle ++ replicate count Exit → Leaves s i end new → Advanced s end new before after
  left value moves count end new before middle after is given counted first then_left leaves = record {
    more = return_events (configuration_of s) i;
    goes = by end leaves;
    listed = then_left
        ∙ (λ j. (first ∙ ap (λ (es : List Event). before ++ es) (moved_is value moves is given)) j ++ replicate (counted j) Exit)
        ∙ append_assoc before (moved_events (configuration_of s) i i.act) (replicate ((configuration_of s).frame.regions + 1) Exit);
  }
    where
      by : (e : Option End) → Leaves s i e new → GoesOrEnds s (return_events (configuration_of s) i) e new
      by None on = on
      by (Some e) over = (left_by s.code (configuration_of new).frame (configuration_of new).world, refl, over.1)
