-- How the step of a call goes, by what is told of its operation.
use Rattle.std.proofs.Common.{◌≡◌, ℕ, zero, suc, ◌+◌, ◌<◌, ◌≤◌, List, [], ◌∷◌, ◌++◌, length, take, reverse, get_or, Option, Some, None, Result, Ok, Err, Bool, true, false, refl, sym, ◌∙◌, ap, subst, arith}
use Rattle.std.specs.Prelude.{slice_get, if◌then◌else◌, nat_lt}
use Rattle.std.proofs.Math.Seq.{take-append_seam, take-length, drop-length}
use Rattle.std.proofs.lemmas.Bool.{ltb-true, ltb-false, le-ltb, or_parts}
use Rattle.std.proofs.lemmas.List.{append_assoc, length-append, get_or_append_left, get_or_at, get_or-append-add, get_or_past}
use Rattle.std.proofs.lemmas.Option.{same_Some}
use Rattle.k_num.specs.declared.place.Place.{Place}
use Rattle.k_optab.specs.declared.class.Class.{Class}
use Rattle.k_optab.specs.declared.class.Class.TheVariants as class
use Rattle.k_optab.specs.declared.event.Event.{Event}
use Rattle.k_optab.specs.declared.event.Event.TheVariants.{Op, Enter}
use Rattle.k_ending.specs.declared.ending.End.{End}
use Rattle.k_ending.specs.declared.ending.End.TheVariants.{Trapped}
use Rattle.k_ending.specs.declared.ending.Trap.TheVariants.{StackOverflow}
use Rattle.k_world.specs.declared.act.Act.{Act}
use Rattle.k_world.specs.declared.act.Act.TheVariants as does
use Rattle.k_world.specs.declared.answer.Done.{Done}
use Rattle.k_world.specs.declared.answer.Stop.{Stop}
use Rattle.k_world.specs.declared.answer.Stop.TheVariants as stop
use Rattle.k_world.specs.declared.value.Held.{Held}
use Rattle.k_world.specs.declared.value.Read.{Read}
use Rattle.k_world.specs.Acts.{hidden, effect}
use Rattle.k_world.specs.Answers.{Makes}
use Rattle.k_world.specs.Limits.{call_limit, node_limit}
use Rattle.k_world.specs.Operands.{sources, values_of}
use Rattle.k_world.specs.Operations.{Made, Gives, counted, event_of}
use Rattle.k_world.specs.Worlds.{World, with_events}
use Rattle.k_world.proofs.Effects.{effect_frame}
use Rattle.k_world.proofs.Sound.{operation_cases}
use Rattle.k_code.specs.declared.code.CodeFunc.{CodeFunc}
use Rattle.k_code.specs.declared.instruction.Arg.{Arg}
use Rattle.k_code.specs.declared.instruction.Do.{Do}
use Rattle.k_code.specs.declared.instruction.Do.TheVariants as act
use Rattle.k_code.specs.declared.instruction.Instr.{Instr}
use Rattle.k_code.specs.Named.{operands, register_set, up_to_register}
use Rattle.k_code.specs.Steps.{Configuration, Waiting, Going, Over, operation_of, reads_of, by_operation, behind, called, overflows, entered, parameters, size_of, step}
use Rattle.k_hcpa_meaning.specs.Behind.{world_behind, behind_all}
use Rattle.k_hcpa_store.specs.declared.answer.Calling.{Calling}
use Rattle.k_hcpa_store.specs.declared.answer.Calling.TheVariants as calling
use Rattle.k_hcpa_store.specs.Calls.{slots_of, held_up_to, CallsTo, IsOver, IsEntered}
use Rattle.k_hcpa_store.specs.Calls.{called as called_kept}
use Rattle.k_hcpa_meaning.specs.Locations.{width, registers_of}
use Rattle.k_hcpa_store.specs.Kept.{Kept, window, frame_of, waiting_of, configuration_of}
use Rattle.k_hcpa_store.specs.Leads.{IsNext, IsWithinLimits, GoesOn, EndsHere, EndsBehind, Calls, NotOver, call_event}
use Rattle.k_hcpa_store.specs.Parts.{reads_in}
use Rattle.k_hcpa_store.specs.Sound.{IsSound}
use Rattle.k_hcpa_store.proofs.Longer.{operation_behind, operation_ends}
use Rattle.k_hcpa_store.proofs.Moving.{sound_moved}
use Rattle.k_hcpa_store.proofs.Operating.{calls_kept, unchanged, needs, needs_within}
use Rattle.k_hcpa_store.proofs.Stepping.{step_by}

-- what an operation that gives something leaves among the events
abbrev EventIs : Event → Held → World → Made → Type 0
EventIs event held new m = (told : Event) → m ≡ Gives held (with_events (told ∷ []) new) → told ≡ event

-- the event of an operation is told exactly
pub event_told_is : (class : Class) (latency : ℕ) (place : Place) (what : Act) (reads : List Read) (w new : World) (done : Done)
    → Makes class latency place what reads w (Ok done) new
    → Op class latency (sources reads done.hidden done.control) place ≡ event_of class latency place what reads (with_events [] w)
event_told_is class latency place what reads w new done makes =
    operation_cases (EventIs (event_of class latency place what reads (with_events [] w)) done.held new) class latency place what reads (with_events [] w)
    (λ end early told is. absurd (cc is))
    (λ some v told is.
    (let same : effect what w.made (values_of reads) (counted class latency place what reads (with_events [] w)) ≡ with_events (told ∷ []) new = cc is in
    let frame = ap (λ (x : World). x.events) (effect_frame what w.made (values_of reads) (counted class latency place what reads (with_events [] w))) in
    let lists : told ∷ [] ≡ event_of class latency place what reads (with_events [] w) ∷ [] = sym (ap (λ (x : World). x.events) same) ∙ frame in
    cc lists))
    (Op class latency (sources reads done.hidden done.control) place) (makes [])

length_held : (n : ℕ) (held : ℕ → Option Held) → length (held_up_to n held) ≡ n
unfolding held_up_to
length_held zero held = refl
length_held (suc n) held = omega (arith, length-append (held_up_to n held) (held n ∷ []), length_held n held)

held_get : (n : ℕ) (held : ℕ → Option Held) (k : ℕ) → k < n → get_or (held_up_to n held) k None ≡ held k
unfolding held_up_to
held_get zero held k low = absurd (omega (arith, low))
held_get (suc n) held k low = go (nat_lt k n) refl (λ less. held_get n held k less)
  where
    go : (b : Bool) → nat_lt k n ≡ b → (k < n → get_or (held_up_to n held) k None ≡ held k) → get_or (held_up_to n held ++ held n ∷ []) k None ≡ held k
    go true is before =
        let less : k < n = ltb-true k n is in
        get_or_append_left (held_up_to n held) (held n ∷ []) None k (omega (arith, less, length_held n held)) ∙ before less
    go false is before =
        let more : n ≤ k = ltb-false k n is in
        let same : n ≡ k = omega (arith, more, low) in
        get_or_at (held_up_to n held) (held n) [] None k (length_held n held ∙ same) ∙ ap held same

-- the registers of a new call, behind those of the others
window_begun : (registers : List (Option Held)) (n params : ℕ) (slots : List (Option Held)) → params ≤ n → (k : ℕ)
    → window (registers ++ held_up_to n (parameters params slots)) (length registers) k ≡ parameters params slots k
window_begun registers n params slots few k =
    get_or-append-add registers (held_up_to n (parameters params slots)) k None ∙ go (nat_lt k n) refl
  where
    go : (b : Bool) → nat_lt k n ≡ b → get_or (held_up_to n (parameters params slots)) k None ≡ parameters params slots k
    go true is = held_get n (parameters params slots) k (ltb-true k n is)
    go false is =
        let more : n ≤ k = ltb-false k n is in
        let beyond : nat_lt k params ≡ false = le-ltb k params (omega (arith, more, few)) in
        get_or_past (held_up_to n (parameters params slots)) k None (omega (arith, more, length_held n (parameters params slots)))
        ∙ sym (rw beyond refl)

-- the configuration of a function that was called
configuration_called : (s : Kept) (f : CodeFunc) (func : ℕ) (to : Option ℕ) (slots : List (Option Held)) (w : World) → f.params ≤ f.registers
    → configuration_of (called_kept f func to (s.registers ++ held_up_to f.registers (parameters f.params slots)) w s)
    ≡ record {
      pc = f.entry;
      frame = record { func = func; registers = parameters f.params slots; saved = []; regions = 0; base = length w.memory.live };
      waiting = record { frame = (configuration_of s).frame; back = s.pc + 1; to = to } ∷ (configuration_of s).waiting;
      world = record w { calls = w.calls + 1; size = w.size + f.size };
    }
unfolding configuration_of
configuration_called s f func to slots w few =
    let regs = take-append_seam s.registers (held_up_to f.registers (parameters f.params slots)) in
    let saves = take-length s.saved in
    λ i. record {
      pc = f.entry;
      frame = record {
        func = func;
        registers = λ k. window_begun s.registers f.registers f.params slots few k i;
        saved = reverse (drop-length s.saved i);
        regions = 0;
        base = length w.memory.live;
      };
      waiting = record { frame = frame_of s.call (regs i) (saves i); back = s.pc + 1; to = to } ∷ waiting_of s.waiting (take s.call.first (regs i)) (take s.call.saved (saves i));
      world = record w { calls = w.calls + 1; size = w.size + f.size };
    }

-- a store stays sound where a function was called that passes no limit
sound_called : (s : Kept) (f : CodeFunc) (func : ℕ) (to : Option ℕ) (slots : List (Option Held)) (w : World) → IsSound s → slice_get s.code.funcs func ≡ Some f
    → up_to_register to ≤ width s.code s.call.func → w.size ≡ s.world.size → overflows w f.size ≡ false
    → IsSound (called_kept f func to (s.registers ++ held_up_to f.registers (parameters f.params slots)) w s)
sound_called s f func to slots w sound at there same few =
    let wide : registers_of (slice_get s.code.funcs func) ≡ f.registers = ap registers_of at in
    let large : size_of (slice_get s.code.funcs func) ≡ f.size = ap size_of at in
    let limit : w.size + f.size ≤ node_limit = ltb-false node_limit (w.size + f.size) (or_parts (nat_lt call_limit (w.calls + 1)) (nat_lt node_limit (w.size + f.size)) few).1 in
    record {
      valid = sound.valid;
      short = sound.short;
      laid = (
        length-append s.registers (held_up_to f.registers (parameters f.params slots))
            ∙ (λ i. length s.registers + (length_held f.registers (parameters f.params slots) ∙ sym wide) i),
        (let all : length s.saved ≤ length s.saved = omega arith in all),
        sound.laid,
      );
      backs = (there, sound.backs);
      size = omega (arith, same, large, sound.size);
      few = limit;
      regions = (omega arith, sound.regions);
    }

module _ (s : Kept) (i : Instr) (sound : IsSound s) (next : IsNext s i) (func : ℕ) (args : List Arg) (to : Option ℕ) (f : CodeFunc)
    (is : i.act ≡ act.Call func args to) (at : slice_get s.code.funcs func ≡ Some f) where
  reads_are : reads_of (configuration_of s) i.act ≡ reads_in s args
  unfolding configuration_of operands
  reads_are = ap (reads_of (configuration_of s)) is

  makes_here : (r : Result Done Stop) (w : World) → ((class : Class) (latency : ℕ) → Makes class latency i.place does.Call (reads_in s args) s.world r w)
      → Makes class.Call i.latency i.place does.Call (reads_of (configuration_of s) i.act) s.world r w
  makes_here r w makes = subst (λ (x : List Read). Makes class.Call i.latency i.place does.Call x s.world r w) (sym reads_are) (makes class.Call i.latency)

  -- the event is that of the operation
  told : (done : Done) (w : World) → Makes class.Call i.latency i.place does.Call (reads_of (configuration_of s) i.act) s.world (Ok done) w
      → Op class.Call i.latency (sources (reads_of (configuration_of s) i.act) done.hidden done.control) i.place ≡ call_event i (configuration_of s)
  unfolding configuration_of hidden
  told done w makes = event_told_is class.Call i.latency i.place does.Call (reads_of (configuration_of s) i.act) s.world w done makes

  -- the step comes to what the function's call does behind its operation
  to_call : (done : Done) (w : World) → Makes class.Call i.latency i.place does.Call (reads_of (configuration_of s) i.act) s.world (Ok done) w
      → (events : List Event) (taken : List ℕ)
      → step s.code (Going (behind_all events taken (configuration_of s)))
      ≡ called (Some f) func (slots_of (reads_in s args)) to i.place
      (record (configuration_of s) { world = world_behind (events ++ call_event i (configuration_of s) ∷ []) taken w })
  unfolding configuration_of operation_of behind operands
  to_call done w makes events taken =
      let c : Configuration = behind_all events taken (configuration_of s) in
      let later : Event → Configuration = λ e. record (configuration_of s) { world = world_behind (events ++ e ∷ []) taken w } in
      step_by s.code c i next.is (class.Call, does.Call) (ap operation_of is)
      ∙ ap (by_operation s.code i c) (operation_behind class.Call i.latency i.place does.Call (reads_of (configuration_of s) i.act) s.world w events taken done makes)
      ∙ (λ j. behind s.code i.place (is j) done.held (later (told done w makes j)))
      ∙ ap (λ o. called o func (slots_of (reads_in s args)) to i.place (later (call_event i (configuration_of s)))) at

  entered_steps : (new : Kept) (e : IsEntered i.place f func args to s new)
      → Makes class.Call i.latency i.place does.Call (reads_of (configuration_of s) i.act) s.world (Ok e.done) e.world → f.params ≤ f.registers
      → (events : List Event) (taken : List ℕ) → step s.code (Going (behind_all events taken (configuration_of s)))
      ≡ Going (behind_all (events ++ call_event i (configuration_of s) ∷ Enter f.region ∷ []) taken (configuration_of new))
  unfolding configuration_of
  entered_steps new e makes fits events taken =
      let w : World = world_behind (events ++ call_event i (configuration_of s) ∷ []) taken e.world in
      let slots : List (Option Held) = slots_of (reads_in s args) in
      let waits : List Waiting = record { frame = (configuration_of s).frame; back = s.pc + 1; to = to } ∷ (configuration_of s).waiting in
      let later : Configuration = record {
        pc = f.entry;
        frame = record { func = func; registers = parameters f.params slots; saved = []; regions = 0; base = length e.world.memory.live };
        waiting = waits;
        world = record e.world { calls = e.world.calls + 1; size = e.world.size + f.size };
      } in
      to_call e.done e.world makes events taken
      ∙ ap (λ (b : Bool). if b then Over (Trapped StackOverflow i.place) w else entered f func slots waits w) e.few
      ∙ ap (λ (xs : List Event). Going (behind_all xs taken later)) (append_assoc events (call_event i (configuration_of s) ∷ []) (Enter f.region ∷ []))
      ∙ ap (λ (x : Configuration). Going (behind_all (events ++ call_event i (configuration_of s) ∷ Enter f.region ∷ []) taken x))
      (sym (ap configuration_of e.is ∙ configuration_called s f func to slots e.world fits))

  over_told : (end : End) (new : Kept) → IsOver i.place f args s new end → EndsBehind s (call_event i (configuration_of s) ∷ []) end new × IsSound new
  unfolding configuration_of
  over_told end new o =
      let makes = makes_here (Ok o.done) new.world o.made in
      let size = calls_kept class.Call i.latency i.place does.Call (reads_of (configuration_of s) i.act) s.world new.world o.done makes in (
        (
          ap (λ (n : Kept). n.code) o.is,
          λ events taken.
              let w : World = world_behind (events ++ call_event i (configuration_of s) ∷ []) taken new.world in
              to_call o.done new.world makes events taken
              ∙ ap (λ (b : Bool). if b then Over (Trapped StackOverflow i.place) w
              else entered f func (slots_of (reads_in s args)) (record { frame = (configuration_of s).frame; back = s.pc + 1; to = to } ∷ (configuration_of s).waiting) w) o.many
              ∙ ap (λ (e : End). Over e w) (sym o.ends),
        ),
        subst IsSound (sym o.is) (sound_moved s s.pc new.world sound size.1),
      )

  entered_told : (new : Kept) → IsEntered i.place f func args to s new → GoesOn s (call_event i (configuration_of s) ∷ Enter f.region ∷ []) new × IsSound new
  unfolding register_set
  entered_told new e =
      let makes = makes_here (Ok e.done) e.world e.made in
      let size = calls_kept class.Call i.latency i.place does.Call (reads_of (configuration_of s) i.act) s.world e.world e.done makes in
      let fits : f.params ≤ f.registers = (sound.valid.funcs func f at).params in
      let there : up_to_register to ≤ width s.code s.call.func =
      subst (λ (x : Do). up_to_register (register_set x) ≤ width s.code s.call.func) is (needs_within i.act (width s.code s.call.func) (needs s i sound next)) in (
        (
          ap (λ (n : Kept). n.code) e.is,
          λ events taken. entered_steps new e makes fits events taken,
        ),
        subst IsSound (sym e.is) (sound_called s f func to (slots_of (reads_in s args)) e.world sound at there size.1 e.few),
      )

  ended_told : (end : End) (new : Kept)
      → ((class : Class) (latency : ℕ) → Makes class latency i.place does.Call (reads_in s args) s.world (Err (stop.Ended end)) new.world) × (new ≡ record s { world = new.world })
      → EndsHere s end new × IsSound new
  unfolding configuration_of operation_of
  ended_told end new e =
      let makes = makes_here (Err (stop.Ended end)) new.world e.0 in
      let same : new ≡ s = e.1 ∙ ap (λ (w : World). record s { world = w }) (unchanged (stop.Ended end) class.Call i.latency i.place does.Call (reads_of (configuration_of s) i.act) s.world new.world makes) in (
        (
          same,
          λ events taken.
              step_by s.code (behind_all events taken (configuration_of s)) i next.is (class.Call, does.Call) (ap operation_of is)
              ∙ ap (by_operation s.code i (behind_all events taken (configuration_of s)))
              (operation_ends class.Call i.latency i.place does.Call (reads_of (configuration_of s) i.act) s.world new.world events taken end makes),
        ),
        subst IsSound (sym same) sound,
      )

  by_result : (r : Result Calling Stop) (new : Kept) → CallsTo i.place f func args to s r new → Calls s i f r new × IsSound new
  by_result (Ok calling.Entered) new told = entered_told new told
  by_result (Ok (calling.Overflowed end)) new told = over_told end new told
  by_result (Err (stop.Ended end)) new told = ended_told end new told
  by_result (Err stop.Memory) new told = (told, subst IsSound (sym told) sound)

  -- how the step goes, by what is told of the call
  pub calls_told : (r : Result Calling Stop) (new : Kept) (lent : List Arg) → lent ≡ args → CallsTo i.place f func lent to s r new
      → ((number : ℕ) (named : List Arg) (back : Option ℕ) (g : CodeFunc) → i.act ≡ act.Call number named back → slice_get s.code.funcs number ≡ Some g → Calls s i g r new) × IsSound new
  calls_told r new lent lent_is told =
      let all = by_result r new (subst (λ (xs : List Arg). CallsTo i.place f func xs to s r new) lent_is told) in (
        λ number named back g act_is found.
            let same : func ≡ number = cc (sym is ∙ act_is) in
            let which : f ≡ g = same_Some f g (sym at ∙ ap (λ n. slice_get s.code.funcs n) same ∙ found) in
            subst (λ (h : CodeFunc). Calls s i h r new) which all.0,
        all.1,
      )

  -- where a call more passes no limit, none is passed
  never : (r : Result Calling Stop) (new : Kept) → CallsTo i.place f func args to s r new → overflows s.world f.size ≡ false → NotOver r
  never (Ok calling.Entered) new told few = tt
  never (Ok (calling.Overflowed end)) new o few =
      let kept = calls_kept class.Call i.latency i.place does.Call (reads_of (configuration_of s) i.act) s.world new.world o.done (makes_here (Ok o.done) new.world o.made) in
      let same : overflows new.world f.size ≡ overflows s.world f.size = λ j. overflows (record s.world { calls = kept.0 j; size = kept.1 j }) f.size in
      let lie : true ≡ false = sym o.many ∙ same ∙ few in
      absurd (cc lie)
  never (Err e) new told few = tt

  pub never_over : (r : Result Calling Stop) (new : Kept) (lent : List Arg) → lent ≡ args → CallsTo i.place f func lent to s r new → IsWithinLimits s i.act → NotOver r
  never_over r new lent lent_is told within =
      never r new (subst (λ (xs : List Arg). CallsTo i.place f func xs to s r new) lent_is told) (within func args to f is at)

-- a call that was not made has changed nothing
pub not_called : (s : Kept) (i : Instr) (f : CodeFunc) (e : Stop) (new : Kept) → Calls s i f (Err e) new → new ≡ s
not_called s i f (stop.Ended end) new here = here.0
not_called s i f stop.Memory new same = same
