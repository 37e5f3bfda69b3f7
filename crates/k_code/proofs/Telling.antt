-- Telling changes nothing, and no instruction tells anything but by its operation.
use Rattle.std.proofs.Common.{◌≡◌, ℕ, zero, suc, List, [], Option, Some, None, Bool, true, false, nat_eq, refl, sym, ◌∙◌, subst, ap}
use Rattle.std.specs.Prelude.{slice_get}
use Rattle.k_num.specs.declared.place.Place.{Place}
use Rattle.k_optab.specs.declared.class.Class.{Class}
use Rattle.k_world.specs.declared.act.Act.{Act}
use Rattle.k_world.specs.declared.value.Held.{Held}
use Rattle.k_world.specs.declared.value.Read.{Read}
use Rattle.k_world.specs.Deeds.{Deed}
use Rattle.k_world.specs.Operations.{Made, Gives, Ends, operation}
use Rattle.k_world.specs.Worlds.{World, fresh_telling}
use Rattle.k_world.proofs.Operations.{operation_out}
use Rattle.k_code.specs.declared.code.Code.{Code}
use Rattle.k_code.specs.declared.instruction.Do.{Do}
use Rattle.k_code.specs.declared.instruction.Instr.{Instr}
use Rattle.k_code.specs.Telling.{telling_of, untold, untold_run, TellingChangesNothing}
use Rattle.k_code.specs.Runs.{start, start_in, steps, world_of}
use Rattle.k_code.specs.Steps.{Configuration, Run, Going, Over, step, at_instruction, by_kind, by_operation, behind, alone, operation_of, reads_of}
use Rattle.k_code.proofs.Unseen.{run_unseen, made_unseen, operation_unseen, behind_unseen, alone_unseen, start_unseen}

-- as many operations are left
abbrev same_left : ℕ → ℕ
same_left n = n

-- the deeds are these, whatever they were
abbrev telling_is : Bool → Bool → Bool
telling_is telling before = telling

abbrev deeds_are : List Deed → List Deed → List Deed
deeds_are deeds before = deeds

-- what an operation gives where nothing is told
abbrev pub untold_made : Made → Made
untold_made (Gives held w) = Gives held (untold w)
untold_made (Ends end w) = Ends end (untold w)

run_same : (r : Run) → run_unseen same_left (telling_is false) (deeds_are []) r ≡ untold_run r
run_same (Going c) = refl
run_same (Over end w) = refl

made_same : (m : Made) → made_unseen same_left (telling_is false) (deeds_are []) m ≡ untold_made m
made_same (Gives held w) = refl
made_same (Ends end w) = refl

-- an operation goes where nothing is told as it goes
pub operation_untold : (class : Class) (latency : ℕ) (place : Place) (what : Act) (reads : List Read) (w : World)
    → operation class latency place what reads (untold w) ≡ untold_made (operation class latency place what reads w)
operation_untold class latency place what reads w = left (nat_eq w.left 0) refl
  where
    left : (b : Bool) → nat_eq w.left 0 ≡ b → operation class latency place what reads (untold w) ≡ untold_made (operation class latency place what reads w)
    left true none =
        operation_out class latency place what reads (untold w) none
        ∙ sym (ap untold_made (operation_out class latency place what reads w none))
    left false some =
        operation_unseen same_left (telling_is false) (deeds_are []) class latency place what reads w refl (λ more. refl) some some
        ∙ made_same (operation class latency place what reads w)

module _ (code : Code) where
  -- what comes behind an operation
  pub behind_untold : (place : Place) (what : Do) (held : Held) (c : Configuration)
      → behind code place what held (record c { world = untold c.world }) ≡ untold_run (behind code place what held c)
  behind_untold place what held c =
      behind_unseen same_left (telling_is false) (deeds_are []) code place what held c ∙ run_same (behind code place what held c)

  -- what makes no operation
  pub alone_untold : (place : Place) (what : Do) (c : Configuration) → alone code place what (record c { world = untold c.world }) ≡ untold_run (alone code place what c)
  alone_untold place what c = alone_unseen same_left (telling_is false) (deeds_are []) code place what c ∙ run_same (alone code place what c)

  made_untold : (i : Instr) (c : Configuration) (m : Made) → by_operation code i (record c { world = untold c.world }) (untold_made m) ≡ untold_run (by_operation code i c m)
  made_untold i c (Gives held w) = behind_untold i.place i.act held (record c { world = w })
  made_untold i c (Ends end w) = refl

  kind_untold : (i : Instr) (c : Configuration) (o : Option (Class × Act)) → by_kind code i (record c { world = untold c.world }) o ≡ untold_run (by_kind code i c o)
  kind_untold i c None = alone_untold i.place i.act c
  kind_untold i c (Some o) =
      ap (by_operation code i (record c { world = untold c.world })) (operation_untold o.0 i.latency i.place o.1 (reads_of c i.act) c.world)
      ∙ made_untold i c (operation o.0 i.latency i.place o.1 (reads_of c i.act) c.world)

  instruction_untold : (c : Configuration) (i : Option Instr) → at_instruction code (record c { world = untold c.world }) i ≡ untold_run (at_instruction code c i)
  instruction_untold c None = refl
  instruction_untold c (Some i) = kind_untold i c (operation_of i.act)

  -- a step
  pub step_untold : (r : Run) → step code (untold_run r) ≡ untold_run (step code r)
  unfolding step
  step_untold (Going c) = instruction_untold c (slice_get code.instrs c.pc)
  step_untold (Over end w) = refl

  -- steps
  pub steps_untold : (n : ℕ) (r : Run) → steps code n (untold_run r) ≡ untold_run (steps code n r)
  steps_untold zero r = refl
  steps_untold (suc n) r = ap (step code) (steps_untold n r) ∙ step_untold (steps code n r)

  -- how a run begins
  pub start_untold : (w : World) → start_in code (untold w) ≡ untold_run (start_in code w)
  start_untold w = start_unseen same_left (telling_is false) (deeds_are []) code w ∙ run_same (start_in code w)

  run_untold : (input : List ℕ) (budget n : ℕ) → steps code n (start code input budget) ≡ untold_run (telling_of code input budget n)
  unfolding start
  run_untold input budget n = ap (steps code n) (start_untold (fresh_telling budget input)) ∙ steps_untold n (start_in code (fresh_telling budget input))

pub telling_changes_nothing : TellingChangesNothing
telling_changes_nothing code input budget n = run_untold code input budget n

-- what was told stays, and it goes on being told, or not
abbrev pub KeepsDeeds : World → World → Type 0
KeepsDeeds before after = (after.deeds ≡ before.deeds) × (after.telling ≡ before.telling)

-- a run that is the same with the deeds of a world in place of its own keeps these
deeds_kept : (w : World) (r : Run) → r ≡ run_unseen same_left (telling_is w.telling) (deeds_are w.deeds) r → KeepsDeeds w (world_of r)
deeds_kept w r same = subst (λ x. KeepsDeeds w (world_of x)) (sym same) (replaced r)
  where
    replaced : (r : Run) → KeepsDeeds w (world_of (run_unseen same_left (telling_is w.telling) (deeds_are w.deeds) r))
    replaced (Going c) = (refl, refl)
    replaced (Over end v) = (refl, refl)

-- so do instructions without an operation, what comes behind one, and the beginning of a run
pub alone_tells : (code : Code) (place : Place) (what : Do) (c : Configuration) → KeepsDeeds c.world (world_of (alone code place what c))
alone_tells code place what c =
    deeds_kept c.world (alone code place what c) (alone_unseen same_left (telling_is c.world.telling) (deeds_are c.world.deeds) code place what c)

pub behind_tells : (code : Code) (place : Place) (what : Do) (held : Held) (c : Configuration) → KeepsDeeds c.world (world_of (behind code place what held c))
behind_tells code place what held c =
    deeds_kept c.world (behind code place what held c) (behind_unseen same_left (telling_is c.world.telling) (deeds_are c.world.deeds) code place what held c)

pub start_tells : (code : Code) (w : World) → KeepsDeeds w (world_of (start_in code w))
start_tells code w = deeds_kept w (start_in code w) (start_unseen same_left (telling_is w.telling) (deeds_are w.deeds) code w)
