-- The heaviest paths where a run ends, and behind an operation whatever comes then.
use Rattle.std.proofs.Common.{ℕ, ◌≡◌, ◌*◌, ◌≤◌, nat_eq, List, Option, Some, None, Result, Ok, Err, arith, refl, sym, subst, ap, inl, inr, ◌∙◌}
use Rattle.std.proofs.Math.Nat.{mul-le-mul}
use Rattle.std.proofs.lemmas.Bool.{cases_Bool}
use Rattle.k_num.specs.declared.place.Place.{Place}
use Rattle.k_optab.specs.declared.class.Class.{Class}
use Rattle.k_optab.specs.declared.event.Event.{Event}
use Rattle.k_ending.specs.declared.ending.End.{End}
use Rattle.k_ending.specs.declared.ending.Trap.{Trap}
use Rattle.k_mem.specs.declared.start.Start.TheVariants.{Unset}
use Rattle.k_world.specs.declared.act.Act.{Act}
use Rattle.k_world.specs.declared.value.Held.{Held}
use Rattle.k_world.specs.declared.value.Read.{Read}
use Rattle.k_world.specs.declared.value.Value.{Value}
use Rattle.k_world.specs.Acts.{work}
use Rattle.k_world.specs.Changes.{object_made}
use Rattle.k_world.specs.Operands.{are_set, values_of}
use Rattle.k_world.specs.Operations.{Made, Gives, Ends, acted, operation}
use Rattle.k_world.specs.Worlds.{World}
use Rattle.k_world.proofs.Operations.{operation_acts, operation_out, operation_unset}
use Rattle.k_code.specs.declared.code.Code.{Code}
use Rattle.k_code.specs.declared.instruction.Do.{Do}
use Rattle.k_code.specs.declared.instruction.Do.TheVariants as act
use Rattle.k_code.specs.declared.instruction.Instr.{Instr}
use Rattle.k_code.specs.Steps.{Configuration, Over, alone, at_instruction, behind, by_kind, by_operation, opened, operation_of, reads_of, step}
use Rattle.k_hcpa_meaning.specs.Locations.{depends_on, element_touched, first_register, width}
use Rattle.k_hcpa_meaning.specs.Timed.{ArePaths, IsTimed}
use Rattle.k_hcpa_meaning.specs.Timings.{Timing, operated}
use Rattle.k_hcpa_laws.specs.Laws.{EndsKeepPaths, OperationsRaisePaths, RefusedOperationsKeepPaths, SoundWorldsAreShort, StaysInCall}
use Rattle.k_hcpa_laws.proofs.Operations.{given_events, given_short, operands_there, operation_given, operation_making, registers_there}

-- the paths of a world with the same events
pub paths_stay : (depth : ℕ) (events others : List Event) (paths : List ℕ) → others ≡ events → ArePaths depth events paths → ArePaths depth others paths
paths_stay depth events others paths same are = subst (λ (all : List Event). ArePaths depth all paths) (sym same) are

module _ (class : Class) (latency : ℕ) (place : Place) (what : Act) (reads : List Read) (w : World) (end : End) (after : World) where
  refused_by_act : (r : Result Value Trap) → acted class latency place what reads w r ≡ Ends end after → after ≡ w
  refused_by_act (Ok v) is = absurd (cc is)
  refused_by_act (Err e) is = sym (cc is)

  -- in place of an operation that is refused the world stays
  pub operation_refused : operation class latency place what reads w ≡ Ends end after → after ≡ w
  operation_refused is = elim (cases_Bool (nat_eq w.left 0)) [
    | inl none ↦ (let ends = sym (operation_out class latency place what reads w none) ∙ is in sym (cc ends))
    | inr some ↦ elim (cases_Bool (are_set reads)) [
      | inl set ↦ refused_by_act (work what (values_of reads) w) (sym (operation_acts class latency place what reads w some set) ∙ is)
      | inr unset ↦ (let ends = sym (operation_unset class latency place what reads w some unset) ∙ is in sym (cc ends))
    ]
  ]

pub refused_operations_keep_paths : RefusedOperationsKeepPaths
refused_operations_keep_paths code depth c t i o end w refused is =
    paths_stay depth c.world.events w.events t.paths
    (ap (λ (x : World). x.events) (operation_refused o.0 i.latency i.place o.1 (reads_of c i.act) c.world end w refused)) is.paths

pub operations_raise_paths : OperationsRaisePaths
operations_raise_paths code depth c t i o held w there makes gives traced finds short is =
    let gave = operation_given o.0 i.latency i.place o.1 (reads_of c i.act) c.world held w gives in
    let few = operands_there i.act (width code c.frame.func) (registers_there code c i finds there) in
    let made = operation_making code depth c t i.act o.0 i.latency i.place o.1 gave.value traced is few gave.set gave.works
    (given_short code depth c c t i.act o.0 i.latency i.place o.1 held w traced is few gave short) in
    subst (λ (all : List Event). ArePaths depth all (operated (depends_on (first_register code c) i.act o.1 (element_touched c i.act o.1)) i.latency t).paths)
    (sym (given_events o.0 i.latency i.place o.1 (reads_of c i.act) c.world held w gave)) made.timed.paths

-- behind an operation that is neither a call nor a return the run goes on
goes_behind : (code : Code) (place : Place) (what : Do) (held : Held) (c : Configuration) (end : End) (w : World) → StaysInCall what
    → behind code place what held c ≡ Over end w → ⊥
unfolding behind
goes_behind code place (act.Test a taken other to class) held c end w stays is = cc is
goes_behind code place (act.Call func args to) held c end w stays is = stays
goes_behind code place (act.Return value) held c end w stays is = stays
goes_behind code place what held c end w stays is = cc is

-- where an object is not made the world stays
not_opened : (place : Place) (c : Configuration) (made : Option World) (end : End) (w : World) → opened place c made ≡ Over end w → w ≡ c.world
not_opened place c None end w is = sym (cc is)
not_opened place c (Some new) end w is = absurd (cc is)

-- so does it where a run ends without an operation
ends_alone : (code : Code) (place : Place) (what : Do) (c : Configuration) (end : End) (w : World) → StaysInCall what → alone code place what c ≡ Over end w
    → w ≡ c.world
unfolding alone
ends_alone code place act.FallOff c end w stays is = sym (cc is)
ends_alone code place (act.ObjectOpen elements) c end w stays is = not_opened place c (object_made c.world Unset elements) end w is
ends_alone code place (act.Return value) c end w stays is = absurd stays
ends_alone code place what c end w stays is = absurd (cc is)

-- and where its operation is refused
ends_made : (code : Code) (depth : ℕ) (c : Configuration) (t : Timing) (i : Instr) (o : Class × Act) (end : End) (w : World) (m : Made) → StaysInCall i.act
    → operation o.0 i.latency i.place o.1 (reads_of c i.act) c.world ≡ m → by_operation code i c m ≡ Over end w → IsTimed code depth c t
    → ArePaths depth w.events t.paths
ends_made code depth c t i o end w (Gives held v) stays made ends is = absurd (goes_behind code i.place i.act held (record c { world = v }) end w stays ends)
ends_made code depth c t i o end w (Ends e v) stays made ends is =
    let same : v ≡ w = cc ends in
    paths_stay depth v.events w.events t.paths (ap (λ (x : World). x.events) (sym same)) (refused_operations_keep_paths code depth c t i o e v made is)

ends_by : (code : Code) (depth : ℕ) (c : Configuration) (t : Timing) (i : Instr) (end : End) (w : World) (kind : Option (Class × Act)) → StaysInCall i.act
    → by_kind code i c kind ≡ Over end w → IsTimed code depth c t → ArePaths depth w.events t.paths
ends_by code depth c t i end w None stays ends is =
    paths_stay depth c.world.events w.events t.paths (ap (λ (x : World). x.events) (ends_alone code i.place i.act c end w stays ends)) is.paths
ends_by code depth c t i end w (Some o) stays ends is =
    ends_made code depth c t i o end w (operation o.0 i.latency i.place o.1 (reads_of c i.act) c.world) stays refl ends is

pub ends_keep_paths : EndsKeepPaths
unfolding step
ends_keep_paths code depth c t i end w there stays ends is =
    ends_by code depth c t i end w (operation_of i.act) stays (ap (λ (found : Option Instr). at_instruction code c found) (sym there) ∙ ends) is

-- sound worlds are short
pub sound_worlds_are_short : SoundWorldsAreShort
sound_worlds_are_short budget most w few small sound =
    let made : w.made ≤ 1000000000 = omega (arith, sound.steps, few) in
    let product : w.made * most ≤ 1000000000 * 10000 = mul-le-mul made small in
    omega (arith, sound.work, product)
