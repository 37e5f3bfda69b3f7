-- Instructions that make no operation, calls, and returns.
use Rattle.std.proofs.Common.{◌≡◌, ℕ, suc, zero, ◌+◌, ◌<◌, List, [], ◌∷◌, ◌++◌, length, map, Option, Some, None, Result, Bool, false, true, nat_eq, Ok, Err, arith, refl, sym, ◌∙◌, ap, subst}
use Rattle.std.specs.Prelude.{◌&&◌, IfOk, nat_lt, not, replicate, slice_get}
use Rattle.std.proofs.lemmas.List.{append-nil}
use Rattle.k_num.specs.declared.memory.NoMemory.{NoMemory}
use Rattle.k_optab.specs.declared.class.Class.{Class}
use Rattle.k_optab.specs.declared.class.Class.TheVariants as class
use Rattle.k_optab.specs.declared.event.Event.{Event}
use Rattle.k_optab.specs.declared.event.Event.TheVariants.{Op, Enter, Exit}
use Rattle.k_optab.specs.Events.{Operation, operations}
use Rattle.k_optab.proofs.Trees.{operations-append}
use Rattle.k_ending.specs.declared.ending.End.{End}
use Rattle.k_world.specs.declared.act.Act.{Act}
use Rattle.k_world.specs.declared.act.Act.TheVariants as does
use Rattle.k_world.specs.declared.answer.Stop.{Stop}
use Rattle.k_world.specs.declared.answer.Stop.TheVariants as stop
use Rattle.k_world.specs.declared.value.Held.{Held}
use Rattle.k_world.specs.declared.value.Read.{Read}
use Rattle.k_world.specs.Acts.{hidden}
use Rattle.k_world.specs.Deeds.{Deed}
use Rattle.k_world.specs.Operands.{are_set, is_set, sources, values_of}
use Rattle.k_world.specs.Worlds.{World}
use Rattle.k_code.specs.declared.code.CodeFunc.{CodeFunc}
use Rattle.k_code.specs.declared.instruction.Arg.{Arg}
use Rattle.k_code.specs.declared.instruction.Do.{Do}
use Rattle.k_code.specs.declared.instruction.Do.TheVariants as act
use Rattle.k_code.specs.declared.instruction.Instr.{Instr}
use Rattle.k_code.specs.Named.{is_there, operands}
use Rattle.k_code.specs.Runs.{world_of}
use Rattle.k_code.specs.Steps.{Configuration, Run, Going, Over, left_by, operation_of, read_of, reads_of}
use Rattle.k_hcpa_meaning.specs.Behind.{behind_all, world_behind}
use Rattle.k_hcpa_store.specs.declared.answer.Alone.{Alone}
use Rattle.k_hcpa_store.specs.declared.answer.Calling.TheVariants as calling
use Rattle.k_hcpa_store.specs.Kept.{Kept, configuration_of}
use Rattle.k_hcpa_store.specs.Leads.{Calls, EndsHere, GoesAlone, GoesOn, IsNext, Leaves, alone_events, call_event, event_told, goes_alone, may_leave, moved_events, return_events}
use Rattle.k_replay_record.specs.Recorded.{Recorded}
use Rattle.k_replay_code.specs.Performed.{performed_by, performed_next}
use Rattle.k_replay_code.specs.Recorded.{numbers, source_numbers, step_for, step_numbers}
use Rattle.k_replay_code.specs.Steps.{Adds, Advanced, GoesOrEnds, IsPerformed, called_by, held_alone, moved_by, moved_of}
use Rattle.k_replay_code.proofs.Adding.{adds_none}
use Rattle.k_replay_code.proofs.Made.{called, moved, next_by, next_none}
use Rattle.k_replay_code.proofs.Making.{sourced, stopped}

-- an instruction by itself makes no operation
alone_none : (what : Do) → goes_alone what ≡ true → operation_of what ≡ None
unfolding goes_alone operation_of
alone_none (act.Jump to) is = refl
alone_none act.FallOff is = refl
alone_none (act.Address home offset to) is = refl
alone_none (act.ObjectOpen elements) is = refl
alone_none (act.ObjectsClose count) is = refl
alone_none (act.Fill local values) is = refl
alone_none (act.Forget register) is = refl
alone_none act.Save is = refl
alone_none act.Keep is = refl
alone_none act.Back is = refl
alone_none act.Restore is = refl
alone_none what is = absurd (cc is)

enter_none : (region : ℕ) → operation_of (act.Enter region) ≡ None
unfolding operation_of
enter_none region = refl

exit_none : operation_of act.Exit ≡ None
unfolding operation_of
exit_none = refl

-- a step without an operation, behind these events, none of which is one
pub without : (s : Kept) (i : Instr) → IsNext s i → operation_of i.act ≡ None → (more : List Event) → [] ≡ source_numbers more → (end : Option End) (new : Kept)
    → GoesOrEnds s more end new → (r : Recorded) → Advanced s end new r r
without s i next none more no_sources end new goes r = record {
  made = [];
  more = more;
  goes = goes;
  performs = λ events taken. next_none s.code (behind_all events taken (configuration_of s)) i next.is none;
  sources = no_sources;
  adds = adds_none r;
}

-- the run has ended, and nothing has changed
pub ends_here : (s : Kept) (end : End) (new : Kept) → EndsHere s end new → GoesOrEnds s [] (Some end) new
ends_here s end new is = (
  (configuration_of s).world,
  ap (λ (k : Kept). (configuration_of k).world.output) (sym is.0),
  λ events taken. is.1 events taken ∙ (λ j. Over end (world_behind (sym (append-nil events) j) taken (configuration_of s).world)),
)

pub gone_alone : (s : Kept) (i : Instr) → IsNext s i → goes_alone i.act ≡ true → alone_events i.act ≡ [] → (new : Kept)
    → GoesOn s (alone_events i.act) new → (r : Recorded) → Advanced s None new r r
gone_alone s i next alone none new goes r =
    without s i next (alone_none i.act alone) [] refl None new (subst (λ (more : List Event). GoesOn s more new) none goes) r

pub ended_alone : (s : Kept) (i : Instr) → IsNext s i → goes_alone i.act ≡ true → (end : End) (new : Kept)
    → EndsHere s end new → (r : Recorded) → Advanced s (Some end) new r r
ended_alone s i next alone end new is r = without s i next (alone_none i.act alone) [] refl (Some end) new (ends_here s end new is) r

pub entered : (s : Kept) (i : Instr) → IsNext s i → (region : ℕ) → i.act ≡ act.Enter region → (new : Kept) → GoesOn s (Enter region ∷ []) new → (r : Recorded)
    → Advanced s None new r r
entered s i next region is new on r = without s i next (ap operation_of is ∙ enter_none region) (Enter region ∷ []) refl None new on r

pub exited : (s : Kept) (i : Instr) → IsNext s i → i.act ≡ act.Exit → (new : Kept) → GoesOn s (Exit ∷ []) new → (r : Recorded) → Advanced s None new r r
exited s i next is new on r = without s i next (ap operation_of is ∙ exit_none) (Exit ∷ []) refl None new on r

pub there : {X : Type 0} (xs : List X) (n : ℕ) → n < length xs → (x : X) × (slice_get xs n ≡ Some x)
there [] n below = absurd (omega arith)
there (x ∷ xs) zero below = (x, refl)
there (x ∷ xs) (suc n) below = there xs n (omega arith)

call_makes : (func : ℕ) (args : List Arg) (to : Option ℕ) → operation_of (act.Call func args to) ≡ Some (class.Call, does.Call)
unfolding operation_of
call_makes func args to = refl

-- an act without a hidden operand
no_hidden_call : (reads : List Read) (w : World) → None ≡ hidden does.Call (values_of reads) w
unfolding hidden
no_hidden_call reads w = refl

no_hidden_move : (reads : List Read) (w : World) → None ≡ hidden does.Move (values_of reads) w
unfolding hidden
no_hidden_move reads w = refl

module _ (s : Kept) (i : Instr) (next : IsNext s i) (func : ℕ) (args : List Arg) (to : Option ℕ) (is : i.act ≡ act.Call func args to) where
  makes : operation_of i.act ≡ Some (class.Call, does.Call)
  makes = ap operation_of is ∙ call_makes func args to

  abbrev pub it : Deed
  it = called_by (reads_of (configuration_of s) i.act) (configuration_of s).world.control

  it_sourced : step_numbers (map step_for (it ∷ [])) ≡ numbers (sources (reads_of (configuration_of s) i.act) None (configuration_of s).world.control) ∷ []
  it_sourced = sourced it (configuration_of s).world (no_hidden_call (reads_of (configuration_of s) i.act) (configuration_of s).world)

  pub it_adds : (reads : List Read) (control : Option ℕ) (before after : Recorded) → reads ≡ reads_of (configuration_of s) i.act
      → control ≡ (configuration_of s).world.control → Adds (called_by reads control ∷ []) before after → Adds (it ∷ []) before after
  it_adds reads control before after one two adds =
      subst (λ (k : Option ℕ). Adds (called_by (reads_of (configuration_of s) i.act) k ∷ []) before after) two
      (subst (λ (rs : List Read). Adds (called_by rs control ∷ []) before after) one adds)

  -- the function is there
  low : func < length s.code.funcs
  unfolding is_there
  low =
      let same : Some next.finds.instr ≡ Some i = sym next.finds.is ∙ next.is in
      let instr : next.finds.instr ≡ i = cc same in
      let names : is_there s.code (act.Call func args to) ≡ true =
      ap (λ (what : Do). is_there s.code what) (sym (ap (λ (x : Instr). x.act) instr ∙ is)) ∙ next.finds.names in
      let below : nat_lt func (length s.code.funcs) ≡ true = names in
      grind arith

  pub func_there : (f : CodeFunc) × (slice_get s.code.funcs func ≡ Some f)
  func_there = there s.code.funcs func low

  pub call_entered : (f : CodeFunc) (new : Kept) (before after : Recorded) → Calls s i f (Ok calling.Entered) new → Adds (it ∷ []) before after
      → Advanced s None new before after
  call_entered f new before after on adds = record {
    made = it ∷ [];
    more = call_event i (configuration_of s) ∷ Enter f.region ∷ [];
    goes = on;
    performs = λ events taken.
        called s.code (behind_all events taken (configuration_of s)) i next.is makes (call_event i (configuration_of s)) (Enter f.region ∷ [])
        (ap (λ (r : Run). (world_of r).events) (on.1 events taken));
    sources = it_sourced;
    adds = adds;
  }

  pub call_overflowed : (f : CodeFunc) (end : End) (new : Kept) (before after : Recorded) → Calls s i f (Ok (calling.Overflowed end)) new → Adds (it ∷ []) before after
      → Advanced s (Some end) new before after
  call_overflowed f end new before after over adds = record {
    made = it ∷ [];
    more = call_event i (configuration_of s) ∷ [];
    goes = ((configuration_of new).world, refl, over.1);
    performs = λ events taken.
        called s.code (behind_all events taken (configuration_of s)) i next.is makes (call_event i (configuration_of s)) []
        (ap (λ (r : Run). (world_of r).events) (over.1 events taken));
    sources = it_sourced;
    adds = adds;
  }

  pub call_ended : (end : End) (new : Kept) (r : Recorded) → EndsHere s end new → Advanced s (Some end) new r r
  call_ended end new r over = stopped s i next (class.Call, does.Call) makes end r new over

-- leaving regions makes no operation
exits_none : (n : ℕ) → operations (replicate n Exit) ≡ []
exits_none zero = refl
exits_none (suc n) = exits_none n

return_sources : (c : Configuration) (i : Instr) → source_numbers (return_events c i) ≡ source_numbers (moved_events c i i.act)
return_sources c i =
    ap (λ (ops : List Operation). map (λ (op : Operation). numbers op.sources) ops)
    (operations-append (moved_events c i i.act) (replicate (c.frame.regions + 1) Exit)
    ∙ ap (λ (ops : List Operation). operations (moved_events c i i.act) ++ ops) (exits_none (c.frame.regions + 1))
    ∙ append-nil (operations (moved_events c i i.act)))

-- both of two conditions
first_holds : (a b : Bool) → (not a && (b && true)) ≡ true → a ≡ false
first_holds true b is = absurd (cc is)
first_holds false b is = refl

second_holds : (a b : Bool) → (not a && (b && true)) ≡ true → b ≡ true
second_holds true b is = absurd (cc is)
second_holds false true is = refl
second_holds false false is = absurd (cc is)

-- the instruction with another act
abbrev with_act : Instr → Do → Instr
with_act i what = record i { act = what }

module _ (s : Kept) (i : Instr) (next : IsNext s i) where
  abbrev now : Configuration
  now = configuration_of s

  -- what a return of this makes
  return_none : (events : List Event) (taken : List ℕ)
      → performed_by (with_act i (act.Return None)) (behind_all events taken now) (operation_of (act.Return None)) ≡ moved_of (reads_of now (act.Return None)) now.world.control
  unfolding operation_of operands
  return_none events taken = refl

  return_some : (a : Arg) → may_leave now (act.Return (Some a)) ≡ true → (events : List Event) (taken : List ℕ)
      → performed_by (with_act i (act.Return (Some a))) (behind_all events taken now) (operation_of (act.Return (Some a)))
      ≡ moved_of (reads_of now (act.Return (Some a))) now.world.control
  unfolding operation_of operands
  return_some a may events taken =
      let r : Read = read_of now.frame.registers a in
      moved class.Move i.latency i.place (world_behind events taken now.world) r r.slot refl
      (first_holds (nat_eq now.world.left 0) (is_set r.slot) may) (second_holds (nat_eq now.world.left 0) (is_set r.slot) may)

  return_by : (value : Option Arg) → may_leave now (act.Return value) ≡ true → (events : List Event) (taken : List ℕ)
      → performed_by (with_act i (act.Return value)) (behind_all events taken now) (operation_of (act.Return value)) ≡ moved_of (reads_of now (act.Return value)) now.world.control
  return_by None may events taken = return_none events taken
  return_by (Some a) may events taken = return_some a may events taken

  -- its sources
  moved_sources : (r : Read) (slot : Option Held) → r.slot ≡ slot → is_set slot ≡ true
      → step_numbers (map step_for (moved_by (r ∷ []) now.world.control slot)) ≡ numbers (sources (r ∷ []) None now.world.control) ∷ []
  moved_sources r None at set = absurd (cc set)
  moved_sources r (Some held) at set =
      sourced (record { what = does.Move; reads = r ∷ []; hidden = None; control = now.world.control; value = held.value }) now.world (no_hidden_move (r ∷ []) now.world)

  sources_none : step_numbers (map step_for (moved_of (reads_of now (act.Return None)) now.world.control)) ≡ source_numbers (moved_events now (with_act i (act.Return None)) (act.Return None))
  unfolding operands
  sources_none = refl

  sources_some : (a : Arg) → may_leave now (act.Return (Some a)) ≡ true
      → step_numbers (map step_for (moved_of (reads_of now (act.Return (Some a))) now.world.control))
      ≡ source_numbers (moved_events now (with_act i (act.Return (Some a))) (act.Return (Some a)))
  unfolding operands
  sources_some a may =
      let r : Read = read_of now.frame.registers a in
      moved_sources r r.slot refl (second_holds (nat_eq now.world.left 0) (is_set r.slot) may)

  sources_by : (value : Option Arg) → may_leave now (act.Return value) ≡ true
      → step_numbers (map step_for (moved_of (reads_of now (act.Return value)) now.world.control)) ≡ source_numbers (moved_events now (with_act i (act.Return value)) (act.Return value))
  sources_by None may = sources_none
  sources_by (Some a) may = sources_some a may

  module _ (value : Option Arg) (is : i.act ≡ act.Return value) (may : may_leave now i.act ≡ true) where
    may_by : may_leave now (act.Return value) ≡ true
    may_by = ap (λ (x : Do). may_leave now x) (sym is) ∙ may

    performs : IsPerformed s (moved_of (reads_of now i.act) now.world.control)
    performs events taken =
        next_by s.code (behind_all events taken now) i next.is
        ∙ ap (λ (x : Do). performed_by (with_act i x) (behind_all events taken now) (operation_of x)) is
        ∙ return_by value may_by events taken
        ∙ ap (λ (x : Do). moved_of (reads_of now x) now.world.control) (sym is)

    has_sources : step_numbers (map step_for (moved_of (reads_of now i.act) now.world.control)) ≡ source_numbers (return_events now i)
    has_sources =
        ap (λ (x : Do). step_numbers (map step_for (moved_of (reads_of now x) now.world.control))) is
        ∙ sources_by value may_by
        ∙ ap (λ (x : Do). source_numbers (moved_events now (with_act i x) x)) (sym is)
        ∙ sym (return_sources now i)

    pub moved_adds : (reads : List Read) (control : Option ℕ) (before after : Recorded) → reads ≡ reads_of now i.act → control ≡ now.world.control
        → Adds (moved_of reads control) before after → Adds (moved_of (reads_of now i.act) now.world.control) before after
    moved_adds reads control before after one two adds =
        subst (λ (k : Option ℕ). Adds (moved_of (reads_of now i.act) k) before after) two
        (subst (λ (rs : List Read). Adds (moved_of rs control) before after) one adds)

    pub left : (end : Option End) (new : Kept) (before after : Recorded) → Leaves s i end new → Adds (moved_of (reads_of now i.act) now.world.control) before after
        → Advanced s end new before after
    left end new before after leaves adds = record {
      made = moved_of (reads_of now i.act) now.world.control;
      more = return_events now i;
      goes = by end leaves;
      performs = performs;
      sources = has_sources;
      adds = adds;
    }
      where
        by : (e : Option End) → Leaves s i e new → GoesOrEnds s (return_events now i) e new
        by None on = on
        by (Some e) over = (left_by s.code (configuration_of new).frame (configuration_of new).world, refl, over.1)

  -- the run ends before the operation of a return, which is there
  return_ended_some : (a : Arg) → i.act ≡ act.Return (Some a) → (end : End) (r : Recorded) → EndsHere s end s → Advanced s (Some end) s r r
  unfolding operation_of
  return_ended_some a is end r over = stopped s i next (class.Move, does.Move) (ap operation_of is) end r s over

  return_ended_none : i.act ≡ act.Return None → (end : End) (r : Recorded) → EndsHere s end s → Advanced s (Some end) s r r
  unfolding operation_of
  return_ended_none is end r over = without s i next (ap operation_of is) [] refl (Some end) s (ends_here s end s over) r

  pub return_ended : (value : Option Arg) → i.act ≡ act.Return value → (end : End) (r : Recorded) → EndsHere s end s → Advanced s (Some end) s r r
  return_ended None is end r over = return_ended_none is end r over
  return_ended (Some a) is end r over = return_ended_some a is end r over

-- where the run has ended by an operation that was not made
pub if_stopped : (old new : Kept) (r : Recorded) (st : Stop) (result : Result (Option End) NoMemory)
    → ((end : End) → st ≡ stop.Ended end → Advanced old (Some end) new r r) → IfOk result (λ e. (end : End) × (st ≡ stop.Ended end) × (e ≡ Some end))
    → IfOk result (λ e. Advanced old e new r r)
if_stopped old new r st (Err e) ends is = is
if_stopped old new r st (Ok e) ends is = subst (λ (x : Option End). Advanced old x new r r) (sym is.2) (ends is.0 is.1)
