-- What the operations of an accepted program's flat code are told to do is what those of its run do.
use Rattle.std.proofs.Common.{ℕ, ◌≡◌, List, map, refl, sym, subst, ap, ◌∙◌}
use Rattle.k_optab.specs.declared.event.Event.{Event}
use Rattle.k_optab.specs.declared.region.Region.{Region}
use Rattle.k_optab.specs.Events.{Operation, operations}
use Rattle.k_world.specs.Deeds.{Deed}
use Rattle.k_evaluation.specs.Deeds.{deeds, telling_run}
use Rattle.k_evaluation.specs.Runs.{Run as Ran, ended, run}
use Rattle.k_evaluation.specs.States.{Program}
use Rattle.k_regions.specs.Regions.{regions_of}
use Rattle.k_code.specs.Runs.{world_of}
use Rattle.k_code.specs.Steps.{Run}
use Rattle.k_code.specs.Telling.{HasToldOutcome, telling_of}
use Rattle.k_code.proofs.Stepping.{one_outcome}
use Rattle.k_lower_code.specs.Programs.{flattened}
use Rattle.k_lower_sound.specs.Laws.{IsLowered}
use Rattle.k_lower_sound.proofs.Programs.{programs_are_lowered}
use Rattle.k_carry_storage_pairs.specs.declared.pairs.StoragePairs.{StoragePairs}
use Rattle.k_carry_storage_pairs.specs.Accesses.{access_of}
use Rattle.k_carry_storage_pairs.specs.Storage.{AreShared}
use Rattle.k_carry_storage.specs.Answer.{TellsOf}
use Rattle.k_carry_storage.proofs.OneRun.{one_told, untold_outcome}
use Rattle.k_carry_storage.proofs.Telling.{operations_are_told as operations_told}
use Rattle.k_carry_storage_laws.specs.Laws.{OperationsAreTold, StorageOfPrograms, sources_of}

-- the regions of the flat code are the program's
flat_regions : (program : Program) → (flattened program).regions ≡ regions_of program.unit
unfolding flattened
flat_regions program = refl

module _ (program : Program) (lowered : IsLowered program) (input : List ℕ) (budget : ℕ) where
  -- the run in which it is told what operations do
  abbrev it : Ran
  it = ended (telling_run program input budget)

  told : HasToldOutcome (flattened program) input budget (deeds program input budget) it.events it.output it.end
  told = lowered.tells input budget

  -- it has the events of the run in which nothing is told
  same_events : it.events ≡ (run program input budget).events
  same_events =
      (one_outcome (flattened program) input budget it.events (run program input budget).events it.output (run program input budget).output it.end
      (run program input budget).end (untold_outcome (flattened program) input budget (deeds program input budget) it.events it.output it.end told)
      (lowered.runs input budget)).0

  are_told : map sources_of (deeds program input budget) ≡ map (λ (op : Operation). op.sources) (operations (run program input budget).events)
  are_told =
      let x = told in
      let r : Run = telling_of (flattened program) input budget x.count in
      let what : (world_of r).deeds ≡ deeds program input budget = ap (λ (r : Run). (world_of r).deeds) x.is ∙ x.deeds_are in
      let events : (world_of r).events ≡ (run program input budget).events = ap (λ (r : Run). (world_of r).events) x.is ∙ (x.events_are ∙ same_events) in
      ap (map sources_of) (sym what)
      ∙ (operations_told (flattened program) input budget x.count ∙ ap (λ (es : List Event). map (λ (op : Operation). op.sources) (operations es)) events)

  module _ (depth : ℕ) (s : StoragePairs) (is : TellsOf (flattened program) input budget depth s) where
    same_deeds : is.deeds ≡ deeds program input budget
    same_deeds = one_told (flattened program) input budget is.deeds (deeds program input budget) is.events it.events is.output it.output s.end it.end is.outcome told

    -- what is told of the flat code is so of the program
    so : (s.end ≡ (run program input budget).end) × AreShared (regions_of program.unit) depth (run program input budget).events (map access_of (deeds program input budget)) s.loops
    so =
        let same = one_outcome (flattened program) input budget is.events (run program input budget).events is.output (run program input budget).output s.end
        (run program input budget).end (untold_outcome (flattened program) input budget is.deeds is.events is.output s.end is.outcome) (lowered.runs input budget) in (
          same.2,
          subst (λ (rs : List Region). AreShared rs depth (run program input budget).events (map access_of (deeds program input budget)) s.loops) (flat_regions program)
              (subst (λ (es : List Event). AreShared (flattened program).regions depth es (map access_of (deeds program input budget)) s.loops) same.0
              (subst (λ (ds : List Deed). AreShared (flattened program).regions depth is.events (map access_of ds) s.loops) same_deeds is.shared)),
        )

pub operations_are_told : OperationsAreTold
operations_are_told unit program accepted marks input budget = are_told program (programs_are_lowered unit program accepted marks) input budget

pub storage_of_programs : StorageOfPrograms
storage_of_programs unit program accepted marks input budget depth s is = so program (programs_are_lowered unit program accepted marks) input budget depth s is
