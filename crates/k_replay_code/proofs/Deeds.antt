-- What the steps of a run perform is what is told of them.
use Rattle.std.proofs.Common.{◌≡◌, ℕ, zero, suc, ◌+◌, List, [], ◌∷◌, ◌++◌, Option, Some, None, Bool, true, false, arith, refl, sym, ◌∙◌, ap}
use Rattle.std.specs.Prelude.{slice_get}
use Rattle.std.proofs.lemmas.List.{append-nil}
use Rattle.k_optab.specs.declared.class.Class.{Class}
use Rattle.k_optab.specs.declared.event.Event.{Event}
use Rattle.k_ending.specs.declared.ending.End.{End}
use Rattle.k_world.specs.declared.act.Act.{Act}
use Rattle.k_world.specs.declared.value.Read.{Read}
use Rattle.k_world.specs.Deeds.{Deed, deeds_behind}
use Rattle.k_world.specs.Operands.{values_of}
use Rattle.k_world.specs.Operations.{Made, Gives, Ends, event_of, operation}
use Rattle.k_world.specs.WorldLaws.{TellsDeed}
use Rattle.k_world.specs.Worlds.{World, fresh_telling}
use Rattle.k_world.proofs.Effects.{hidden_framed}
use Rattle.k_world.proofs.Sound.{where_told}
use Rattle.k_code.specs.declared.code.Code.{Code}
use Rattle.k_code.specs.declared.instruction.Instr.{Instr}
use Rattle.k_code.specs.Runs.{EndsAfter, run_of, world_of}
use Rattle.k_code.specs.Steps.{Configuration, Run, Going, Over, at_instruction, by_kind, by_operation, operation_of, reads_of, step}
use Rattle.k_code.specs.Telling.{telling_of, untold, untold_run}
use Rattle.k_code.proofs.Stepping.{ends_once}
use Rattle.k_code.proofs.Telling.{KeepsDeeds, alone_tells, behind_tells, telling_changes_nothing, operation_untold, start_tells, untold_made}
use Rattle.k_replay_code.specs.Telling.{PerformedIsTold, PerformedOnce}
use Rattle.k_replay_code.specs.Performed.{if_made, performed, performed_at, performed_by, performed_next}
use Rattle.k_replay_code.proofs.Made.{LeavesBehind, operation_leaves}

-- the same operations are performed where nothing is told
made_untold : (what : Act) (reads : List Read) (w : World) (m : Made) → if_made what reads (untold w) (untold_made m) ≡ if_made what reads w m
made_untold what reads w (Gives held v) =
    λ j. record {
      what = what;
      reads = reads;
      hidden = hidden_framed w.events w.made w.left w.calls w.size false [] w what (values_of reads) j;
      control = w.control;
      value = held.value;
    } ∷ []
made_untold what reads w (Ends end v) = refl

by_untold : (i : Instr) (c : Configuration) (o : Option (Class × Act)) → performed_by i (record c { world = untold c.world }) o ≡ performed_by i c o
by_untold i c None = refl
by_untold i c (Some o) =
    ap (if_made o.1 (reads_of c i.act) (untold c.world)) (operation_untold o.0 i.latency i.place o.1 (reads_of c i.act) c.world)
    ∙ made_untold o.1 (reads_of c i.act) c.world (operation o.0 i.latency i.place o.1 (reads_of c i.act) c.world)

at_untold : (c : Configuration) (i : Option Instr) → performed_at (record c { world = untold c.world }) i ≡ performed_at c i
at_untold c None = refl
at_untold c (Some i) = by_untold i c (operation_of i.act)

next_untold : (code : Code) (r : Run) → performed_next code (untold_run r) ≡ performed_next code r
unfolding performed_next
next_untold code (Going c) = at_untold c (slice_get code.instrs c.pc)
next_untold code (Over end w) = refl

-- these are told behind those of a world, and operations go on being told
abbrev Adds : World → List Deed → World → Type 0
Adds before ps after = (after.deeds ≡ before.deeds ++ ps) × (after.telling ≡ true)

-- nothing more is told
adds_none : (before after : World) → before.telling ≡ true → KeepsDeeds before after → Adds before [] after
adds_none before after telling same = (same.0 ∙ sym (append-nil before.deeds), same.1 ∙ telling)

module _ (code : Code) (c : Configuration) (telling : c.world.telling ≡ true) where
  module _ (i : Instr) where
    -- an operation that was made is told
    made_adds : (e : Event) (what : Act) (reads : List Read) (m : Made) → TellsDeed what reads c.world m → LeavesBehind e c.world m
        → Adds c.world (if_made what reads c.world m) (world_of (by_operation code i c m))
    made_adds e what reads (Gives held v) is leaves =
        let same = behind_tells code i.place i.act held (record c { world = v }) in (
          same.0 ∙ is.1 ∙ ap (λ (b : Bool). deeds_behind b c.world.deeds (if_made what reads c.world (Gives held v))) telling,
          same.1 ∙ is.0 ∙ telling,
        )
    made_adds e what reads (Ends end v) is leaves =
        adds_none c.world v telling (ap (λ (w : World). w.deeds) leaves, ap (λ (w : World). w.telling) leaves)

    kind_adds : (o : Option (Class × Act)) → Adds c.world (performed_by i c o) (world_of (by_kind code i c o))
    kind_adds None = adds_none c.world (world_of (by_kind code i c None)) telling (alone_tells code i.place i.act c)
    kind_adds (Some o) =
        made_adds (event_of o.0 i.latency i.place o.1 (reads_of c i.act) c.world) o.1 (reads_of c i.act)
        (operation o.0 i.latency i.place o.1 (reads_of c i.act) c.world)
        (where_told o.0 i.latency i.place o.1 (reads_of c i.act) c.world)
        (operation_leaves o.0 i.latency i.place o.1 (reads_of c i.act) c.world)

  instr_adds : (i : Option Instr) → Adds c.world (performed_at c i) (world_of (at_instruction code c i))
  instr_adds None = adds_none c.world c.world telling (refl, refl)
  instr_adds (Some i) = kind_adds i (operation_of i.act)

-- the operation of a step is told
step_adds : (code : Code) (r : Run) → (world_of r).telling ≡ true → Adds (world_of r) (performed_next code r) (world_of (step code r))
unfolding performed_next step
step_adds code (Going c) telling = instr_adds code c telling (slice_get code.instrs c.pc)
step_adds code (Over end w) telling = adds_none w w telling (refl, refl)

module _ (code : Code) (input : List ℕ) (budget : ℕ) where
  performed_so_far : (n : ℕ) → ((world_of (telling_of code input budget n)).deeds ≡ performed code input budget n) × ((world_of (telling_of code input budget n)).telling ≡ true)
  unfolding performed
  performed_so_far zero = start_tells code (fresh_telling budget input)
  performed_so_far (suc n) =
      let before = performed_so_far n in
      let now = step_adds code (telling_of code input budget n) before.1 in
      let next : performed_next code (telling_of code input budget n) ≡ performed_next code (run_of code input budget n) =
      sym (next_untold code (telling_of code input budget n)) ∙ ap (performed_next code) (sym (telling_changes_nothing code input budget n)) in
      (now.0 ∙ (λ j. before.0 j ++ next j), now.1)

  -- behind its end a run performs no more
  performed_over : (n more : ℕ) (end : End) (w : World) → EndsAfter code input budget n end w → performed code input budget (n + more) ≡ performed code input budget n
  unfolding performed performed_next
  performed_over n zero end w over = ap (performed code input budget) (let e : n + 0 ≡ n = omega arith in e)
  performed_over n (suc more) end w over =
      let e : n + suc more ≡ suc (n + more) = omega arith in
      ap (performed code input budget) e
      ∙ (λ j. performed_over n more end w over j ++ performed_next code (ends_once code input budget n more end w over j))
      ∙ append-nil (performed code input budget n)

pub performed_is_told : PerformedIsTold
performed_is_told code input budget n = (performed_so_far code input budget n).0

pub performed_once : PerformedOnce
performed_once code input budget m n e f v w one two =
    let same : m + n ≡ n + m = omega arith in
    sym (performed_over code input budget m n e v one) ∙ ap (performed code input budget) same ∙ performed_over code input budget n m f w two
