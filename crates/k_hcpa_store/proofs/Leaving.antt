-- How the step of a return goes, by what is told of its operation.
use Rattle.std.proofs.Common.{◌≡◌, ◌≢◌, ℕ, ◌+◌, ◌<◌, ◌≤◌, List, [], ◌∷◌, ◌++◌, length, map, take, replicate, Option, Some, None, Ok, Bool, true, false, nat_eq, refl, sym, ◌∙◌, ap, subst, arith}
use Rattle.std.specs.Prelude.{⊤, if◌then◌else◌, not, ◌&&◌, Result, Err, MatchResult}
use Rattle.std.proofs.lemmas.Bool.{eqb-false, ne_eqb}
use Rattle.std.proofs.lemmas.Option.{same_Some}
use Rattle.std.proofs.lemmas.List.{append-nil, append_assoc, length-take-le}
use Rattle.k_num.specs.declared.place.Place.{Place}
use Rattle.k_optab.specs.declared.class.Class.TheVariants as class
use Rattle.k_optab.specs.declared.event.Event.{Event}
use Rattle.k_optab.specs.declared.event.Event.TheVariants.{Exit}
use Rattle.k_ending.specs.declared.ending.End.{End}
use Rattle.k_ending.specs.declared.ending.End.TheVariants.{Returned, Trapped, OutOfSteps}
use Rattle.k_ending.specs.declared.ending.Trap.TheVariants.{Uninit}
use Rattle.k_world.specs.declared.act.Act.TheVariants as does
use Rattle.k_world.specs.declared.answer.Done.{Done}
use Rattle.k_world.specs.declared.value.Held.{Held}
use Rattle.k_world.specs.declared.value.Read.{Read}
use Rattle.k_world.specs.Acts.{hidden}
use Rattle.k_world.specs.Answers.{Makes}
use Rattle.k_world.specs.Operands.{is_set, are_set}
use Rattle.k_world.specs.Values.{exit_of}
use Rattle.k_world.specs.Operations.{Ends, operation}
use Rattle.k_world.specs.Worlds.{World}
use Rattle.k_world.proofs.Operations.{operation_out, operation_unset}
use Rattle.k_code.specs.declared.instruction.Arg.{Arg}
use Rattle.k_code.specs.declared.instruction.Do.{Do}
use Rattle.k_code.specs.declared.instruction.Do.TheVariants as act
use Rattle.k_code.specs.declared.instruction.Instr.{Instr}
use Rattle.k_code.specs.Named.{operands}
use Rattle.k_code.specs.Steps.{Configuration, Going, Over, operation_of, reads_of, by_operation, behind, alone, returned, handed_back, left_by, read_of, step}
use Rattle.k_hcpa_meaning.specs.Behind.{world_behind, behind_all}
use Rattle.k_hcpa_meaning.specs.Locations.{width}
use Rattle.k_hcpa_store.specs.declared.call.Caller.{Caller}
use Rattle.k_hcpa_store.specs.Calls.{move_fault, value_fault, Gives, LeavesBy, dropped, resumed}
use Rattle.k_hcpa_store.specs.Kept.{Kept, window, waiting_of, configuration_of}
use Rattle.k_hcpa_store.specs.Leads.{IsNext, EndsHere, MayReturn, may_leave, Leaves, moved_events, return_events, event_told}
use Rattle.k_hcpa_store.specs.Parts.{reads_in, IsWithin}
use Rattle.k_hcpa_store.specs.Sound.{IsSound, AreLaid, AreThere, HaveFewRegions, sizes}
use Rattle.k_hcpa_store.proofs.Longer.{operation_behind}
use Rattle.k_hcpa_store.proofs.Moving.{sound_moved}
use Rattle.k_hcpa_store.proofs.Operating.{calls_kept, set_within}
use Rattle.k_hcpa_store.proofs.Sending.{event_told_is}
use Rattle.k_hcpa_store.proofs.Setting.{configuration_set, length_set}
use Rattle.k_hcpa_store.proofs.Stepping.{step_by, step_alone}

-- where nothing keeps what was read from being moved, an operation is left
pub left_some : (left : ℕ) (r : Read) (place : Place) → move_fault left r place ≡ None → 0 < left
left_some left r place none = go (nat_eq left 0) refl none
  where
    go : (b : Bool) → nat_eq left 0 ≡ b → (if b then Some OutOfSteps else if is_set r.slot then None else Some (Trapped Uninit place)) ≡ None → 0 < left
    go true is e = absurd (cc e)
    go false is e = let some : left ≢ 0 = eqb-false left 0 is in omega (arith, some)

-- and what was read is set
pub slot_set : (left : ℕ) (r : Read) (place : Place) → move_fault left r place ≡ None → is_set r.slot ≡ true
slot_set left r place none = go (nat_eq left 0) (is_set r.slot) refl none
  where
    go : (a b : Bool) → is_set r.slot ≡ b → (if a then Some OutOfSteps else if b then None else Some (Trapped Uninit place)) ≡ None → is_set r.slot ≡ true
    go true b is e = absurd (cc e)
    go false true is e = is
    go false false is e = absurd (cc e)

-- what a return gives changes the world alone
moved_is : (value : Option Arg) (s : Kept) (slot : Option Held) (moved : Kept) → Gives value s slot moved → moved ≡ record s { world = moved.world }
moved_is None s slot moved gives = gives.1 ∙ ap (λ (w : World). record s { world = w }) (sym (ap (λ (m : Kept). m.world) gives.1))
moved_is (Some a) s slot moved gives = gives.1.2

moved_size : (value : Option Arg) (s : Kept) (slot : Option Held) (moved : Kept) → Gives value s slot moved → moved.world.size ≡ s.world.size
moved_size None s slot moved gives = ap (λ (m : Kept). m.world.size) gives.1
moved_size (Some a) s slot moved gives =
    (calls_kept class.Move 0 (record { line = 0; column = 0 }) does.Move (reads_in s (a ∷ [])) s.world moved.world gives.0
    (gives.1.0 class.Move 0 (record { line = 0; column = 0 }))).1

-- the step comes to what the newest call returns, behind its operation
to_return : (s : Kept) (i : Instr) (next : IsNext s i) (value : Option Arg) → i.act ≡ act.Return value → (slot : Option Held) (moved : Kept) → Gives value s slot moved
    → (events : List Event) (taken : List ℕ)
    → step s.code (Going (behind_all events taken (configuration_of s)))
    ≡ returned s.code slot (record (configuration_of s) { world = world_behind (events ++ moved_events (configuration_of s) i i.act) taken moved.world })
unfolding configuration_of operation_of behind alone operands hidden
to_return s i next None is slot moved gives events taken =
    step_alone s.code (behind_all events taken (configuration_of s)) i next.is (ap operation_of is)
    ∙ ap (λ (x : Do). alone s.code i.place x (behind_all events taken (configuration_of s))) is
    ∙ (λ j. returned s.code (sym gives.0 j)
    (record (configuration_of s) { world = world_behind (sym (append-nil events) j) taken (sym (ap (λ (m : Kept). m.world) gives.1) j) }))
    ∙ ap (λ (x : Do). returned s.code slot (record (configuration_of s) { world = world_behind (events ++ moved_events (configuration_of s) i x) taken moved.world })) (sym is)
to_return s i next (Some a) is slot moved gives events taken =
    let done : Done = gives.0 in
    let c : Configuration = behind_all events taken (configuration_of s) in
    let reads_are = ap (reads_of (configuration_of s)) is in
    let makes : Makes class.Move i.latency i.place does.Move (reads_of (configuration_of s) i.act) s.world (Ok done) moved.world =
    subst (λ (x : List Read). Makes class.Move i.latency i.place does.Move x s.world (Ok done) moved.world) (sym reads_are) (gives.1.0 class.Move i.latency i.place) in
    let told = event_told_is class.Move i.latency i.place does.Move (reads_of (configuration_of s) i.act) s.world moved.world done makes in
    let later : Event → Configuration = λ e. record (configuration_of s) { world = world_behind (events ++ e ∷ []) taken moved.world } in
    step_by s.code c i next.is (class.Move, does.Move) (ap operation_of is)
    ∙ ap (by_operation s.code i c) (operation_behind class.Move i.latency i.place does.Move (reads_of (configuration_of s) i.act) s.world moved.world events taken done makes)
    ∙ (λ j. behind s.code i.place (is j) done.held (later (told j)))
    ∙ ap (λ x. returned s.code x (later (event_told class.Move i (configuration_of s) None (configuration_of s).world.control))) (sym gives.1.1)
    ∙ ap (λ (x : Do). returned s.code slot (record (configuration_of s) { world = world_behind (events ++ moved_events (configuration_of s) i x) taken moved.world })) (sym is)

module _ (s : Kept) (sound : IsSound s) (w : Caller) (rest : List Caller) (same : s.waiting ≡ w ∷ rest) where
  laid_before : AreLaid s.code (w.call ∷ map (λ (x : Caller). x.call) rest) s.call.first s.call.saved
  laid_before = subst (λ (ws : List Caller). AreLaid s.code (map (λ (x : Caller). x.call) ws) s.call.first s.call.saved) same sound.laid.2

  there_before : AreThere s.code (w ∷ rest)
  there_before = subst (λ (ws : List Caller). AreThere s.code ws) same sound.backs

  open_before : HaveFewRegions (w.call ∷ map (λ (x : Caller). x.call) rest)
  open_before = subst (λ (ws : List Caller). HaveFewRegions (map (λ (x : Caller). x.call) ws)) same sound.regions.1

  length_registers : length (take s.call.first s.registers) ≡ s.call.first
  length_registers = length-take-le s.call.first s.registers (omega (arith, sound.laid.0))

  length_saved : length (take s.call.saved s.saved) ≡ s.call.saved
  length_saved = length-take-le s.call.saved s.saved sound.laid.1

  pub back_within : IsWithin w.call.first w.to (take s.call.first s.registers)
  back_within = set_within w.call.first w.to (take s.call.first s.registers) (width s.code w.call.func) there_before.0 (length_registers ∙ laid_before.0)

  sound_resumed : (slot : Option Held) (mw : World) → mw.size ≡ s.world.size → IsSound (resumed w slot (dropped (record s { waiting = rest; world = mw })))
  sound_resumed slot mw size =
      let counted : s.world.size ≡ sizes s.code (s.call ∷ w.call ∷ map (λ (x : Caller). x.call) rest) =
      sound.size ∙ ap (λ (ws : List Caller). sizes s.code (s.call ∷ map (λ (x : Caller). x.call) ws)) same in
      record {
        valid = sound.valid;
        short = sound.short;
        laid = (
          length_set w.call.first (take s.call.first s.registers) w.to slot ∙ length_registers ∙ laid_before.0,
          subst (λ n. w.call.saved ≤ n) (sym length_saved) laid_before.1,
          laid_before.2,
        );
        backs = there_before.1;
        size = omega (arith, size, counted);
        few = omega (arith, size, sound.few);
        regions = open_before;
      }

  handed_steps : (slot : Option Held) (mw : World) (events : List Event) (taken : List ℕ)
      → returned s.code slot (record (configuration_of s) { world = world_behind events taken mw })
      ≡ Going (behind_all (events ++ replicate ((configuration_of s).frame.regions + 1) Exit) taken (configuration_of (resumed w slot (dropped (record s { waiting = rest; world = mw })))))
  unfolding configuration_of
  handed_steps slot mw events taken =
      let before : Kept = record (dropped (record s { waiting = rest; world = mw })) { call = w.call } in
      ap (λ (ws : List Caller). handed_back (waiting_of ws (take s.call.first s.registers) (take s.call.saved s.saved)) slot
      (left_by s.code (configuration_of s).frame (world_behind events taken mw))) same
      ∙ ap (λ (x : Configuration). Going (behind_all (events ++ replicate (s.call.regions + 1) Exit) taken x))
      (sym (configuration_set before w.to slot w.back before.world back_within))

module _ (s : Kept) (i : Instr) (sound : IsSound s) (next : IsNext s i) (value : Option Arg) (is : i.act ≡ act.Return value) where
  leaves_on : (new : Kept) → LeavesBy value s None new → Leaves s i None new × IsSound new
  leaves_on new by =
      let slot : Option Held = by.0 in
      let moved : Kept = by.1.0 in
      let w : Caller = by.1.1.0 in
      let rest : List Caller = by.1.1.1.0 in
      let gives : Gives value s slot moved = by.1.1.1.1.0 in
      let moved_world = moved_is value s slot moved gives in
      let same : s.waiting ≡ w ∷ rest = sym (ap (λ (m : Kept). m.waiting) moved_world) ∙ by.1.1.1.1.1 in
      let new_is : new ≡ resumed w slot (dropped (record s { waiting = rest; world = moved.world })) =
      by.1.1.1.1.2 ∙ ap (λ (m : Kept). resumed w slot (dropped (record m { waiting = rest }))) moved_world in
      let moves : List Event = moved_events (configuration_of s) i i.act in (
        (
          ap (λ (n : Kept). n.code) new_is,
          λ events taken.
              to_return s i next value is slot moved gives events taken
              ∙ handed_steps s sound w rest same slot moved.world (events ++ moves) taken
              ∙ ap (λ (xs : List Event). Going (behind_all xs taken (configuration_of (resumed w slot (dropped (record s { waiting = rest; world = moved.world }))))))
              (append_assoc events moves (replicate ((configuration_of s).frame.regions + 1) Exit))
              ∙ ap (λ (n : Kept). Going (behind_all (events ++ return_events (configuration_of s) i) taken (configuration_of n))) (sym new_is),
        ),
        subst IsSound (sym new_is) (sound_resumed s sound w rest same slot moved.world (moved_size value s slot moved gives)),
      )

  over_steps : (slot : Option Held) (mw : World) → s.waiting ≡ [] → (events : List Event) (taken : List ℕ)
      → returned s.code slot (record (configuration_of s) { world = world_behind events taken mw })
      ≡ Over (Returned (exit_of slot)) (world_behind (events ++ replicate ((configuration_of s).frame.regions + 1) Exit) taken
      (left_by s.code (configuration_of (record s { world = mw })).frame (configuration_of (record s { world = mw })).world))
  unfolding configuration_of
  over_steps slot mw none events taken =
      ap (λ (ws : List Caller). handed_back (waiting_of ws (take s.call.first s.registers) (take s.call.saved s.saved)) slot
      (left_by s.code (configuration_of s).frame (world_behind events taken mw))) none

  leaves_over : (end : End) (new : Kept) → LeavesBy value s (Some end) new → Leaves s i (Some end) new × IsSound new
  leaves_over end new by =
      let slot : Option Held = by.0 in
      let gives : Gives value s slot new = by.1.0 in
      let new_is = moved_is value s slot new gives in
      let none : s.waiting ≡ [] = sym (ap (λ (m : Kept). m.waiting) new_is) ∙ by.1.1 in
      let moves : List Event = moved_events (configuration_of s) i i.act in
      let behind_left : List Event → List ℕ → Kept → World = λ events taken n. world_behind events taken (left_by s.code (configuration_of n).frame (configuration_of n).world) in (
        (
          ap (λ (n : Kept). n.code) new_is,
          λ events taken.
              to_return s i next value is slot new gives events taken
              ∙ over_steps slot new.world none (events ++ moves) taken
              ∙ ap (λ (xs : List Event). Over (Returned (exit_of slot)) (behind_left xs taken (record s { world = new.world })))
              (append_assoc events moves (replicate ((configuration_of s).frame.regions + 1) Exit))
              ∙ (λ j. Over (sym by.1.2 j) (behind_left (events ++ return_events (configuration_of s) i) taken (sym new_is j))),
        ),
        subst IsSound (sym new_is) (sound_moved s s.pc new.world sound (moved_size value s slot new gives)),
      )

  -- how a return goes
  pub leaves_told : (r : Option End) (new : Kept) → LeavesBy value s r new → Leaves s i r new × IsSound new
  leaves_told None new by = leaves_on new by
  leaves_told (Some end) new by = leaves_over end new by

-- a return may be made where nothing keeps its operation from being made
may_ok : (s : Kept) (i : Instr) (value : Option Arg) → i.act ≡ act.Return value → value_fault s i.place value ≡ None → may_leave (configuration_of s) i.act ≡ true
unfolding configuration_of operands
may_ok s i None is none = ap (may_leave (configuration_of s)) is
may_ok s i (Some a) is none =
    let r : Read = read_of (window s.registers s.call.first) a in
    let some : 0 < s.world.left = left_some s.world.left r i.place none in
    let left_is : nat_eq s.world.left 0 ≡ false = ne_eqb s.world.left 0 (λ e. omega (arith, e, some)) in
    let set_is : is_set r.slot ≡ true = slot_set s.world.left r i.place none in
    ap (may_leave (configuration_of s)) is ∙ (λ j. not (left_is j) && (set_is j && true))

-- and ends the run where something does
may_err : (s : Kept) (i : Instr) → IsNext s i → (value : Option Arg) → i.act ≡ act.Return value → (end : End) → value_fault s i.place value ≡ Some end → EndsHere s end s
unfolding configuration_of operands operation_of
may_err s i next None is end fault = absurd (cc fault)
may_err s i next (Some a) is end fault = (refl, λ events taken. go (nat_eq s.world.left 0) (is_set (read_of (window s.registers s.call.first) a).slot) refl refl fault events taken)
  where
    set_is : (b : Bool) → is_set (read_of (window s.registers s.call.first) a).slot ≡ b → are_set (reads_of (configuration_of s) i.act) ≡ (b && true)
    set_is b e = ap (λ (x : Do). are_set (reads_of (configuration_of s) x)) is ∙ ap (λ v. v && true) e

    ends : (events : List Event) (taken : List ℕ) (why : End)
        → operation class.Move i.latency i.place does.Move (reads_of (configuration_of s) i.act) (world_behind events taken s.world) ≡ Ends why (world_behind events taken s.world)
        → why ≡ end → step s.code (Going (behind_all events taken (configuration_of s))) ≡ Over end (world_behind events taken s.world)
    ends events taken why e why_is =
        step_by s.code (behind_all events taken (configuration_of s)) i next.is (class.Move, does.Move) (ap operation_of is)
        ∙ ap (by_operation s.code i (behind_all events taken (configuration_of s))) e ∙ ap (λ x. Over x (world_behind events taken s.world)) why_is

    go : (a_ b : Bool) → nat_eq s.world.left 0 ≡ a_ → is_set (read_of (window s.registers s.call.first) a).slot ≡ b
        → (if a_ then Some OutOfSteps else if b then None else Some (Trapped Uninit i.place)) ≡ Some end
        → (events : List Event) (taken : List ℕ) → step s.code (Going (behind_all events taken (configuration_of s))) ≡ Over end (world_behind events taken s.world)
    go true b out set e events taken =
        ends events taken OutOfSteps (operation_out class.Move i.latency i.place does.Move (reads_of (configuration_of s) i.act) (world_behind events taken s.world) out) (same_Some OutOfSteps end e)
    go false true out set e events taken = absurd (cc e)
    go false false out set e events taken =
        ends events taken (Trapped Uninit i.place)
        (operation_unset class.Move i.latency i.place does.Move (reads_of (configuration_of s) i.act) (world_behind events taken s.world) out (set_is false set)) (same_Some (Trapped Uninit i.place) end e)

-- whether a return may be made, by what is told
pub may_told : (s : Kept) (i : Instr) → IsNext s i → (given : Option Arg) → i.act ≡ act.Return given → (r : Result ⊤ End)
    → MatchResult r (λ may. value_fault s i.place given ≡ None) (λ end. value_fault s i.place given ≡ Some end)
    → (value : Option Arg) → i.act ≡ act.Return value → MayReturn s i r
may_told s i next given is (Ok may) told value named = may_ok s i given is told
may_told s i next given is (Err end) told value named = may_err s i next given is end told

-- where a return may be made, nothing keeps its operation from being made
pub may_none : (s : Kept) (i : Instr) (value : Option Arg) → i.act ≡ act.Return value → may_leave (configuration_of s) i.act ≡ true → (place : Place)
    → value_fault s place value ≡ None
unfolding configuration_of operands
may_none s i None is may place = refl
may_none s i (Some a) is may place =
    go (nat_eq s.world.left 0) (is_set (read_of (window s.registers s.call.first) a).slot) (ap (may_leave (configuration_of s)) (sym is) ∙ may)
  where
    go : (x y : Bool) → (not x && (y && true)) ≡ true → (if x then Some OutOfSteps else if y then None else Some (Trapped Uninit place)) ≡ None
    go true y e = absurd (cc e)
    go false true e = refl
    go false false e = absurd (cc e)
