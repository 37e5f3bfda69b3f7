-- Believed with a public law.
-- What holds of the accesses of accepted programs: the statements of the laws.
use Rattle.std.specs.Prelude.{ℕ, ◌≡◌, List, map}
use Rattle.k_optab.specs.declared.event.Src.{Src}
use Rattle.k_optab.specs.Events.{Operation, operations}
use Rattle.k_tree.specs.declared.tree.unit.Unit as source
use Rattle.k_marks_meaning.specs.Marking.{marks_of}
use Rattle.k_world.specs.Deeds.{Deed}
use Rattle.k_world.specs.Operands.{sources}
use Rattle.k_evaluation.specs.Deeds.{deeds}
use Rattle.k_evaluation.specs.Runs.{run}
use Rattle.k_evaluation.specs.States.{Program}
use Rattle.k_regions.specs.Regions.{regions_of}
use Rattle.k_lower_code.specs.Programs.{flattened}
use Rattle.k_lower_accepted.specs.Accepted.{IsAccepted}
use Rattle.k_carry_storage_pairs.specs.declared.pairs.StoragePairs.{StoragePairs}
use Rattle.k_carry_storage_pairs.specs.Accesses.{access_of}
use Rattle.k_carry_storage_pairs.specs.Storage.{AreShared}
use Rattle.k_carry_storage.specs.Answer.{TellsOf}

-- the sources of an operation of which this is told: of its operands, of what the construct does not write, and the control source
abbrev pub sources_of : Deed → List Src
sources_of d = sources d.reads d.hidden d.control

-- THE OPERATIONS OF A RUN ARE TOLD OF, each once and in order: what is told of one has the sources of its event, where the run is that of an accepted
-- program
abbrev pub OperationsAreTold : Type 0
OperationsAreTold =
    (unit : source.Unit) (program : Program) → IsAccepted unit program → program.marks ≡ marks_of program.unit → (input : List ℕ) (budget : ℕ)
    → map sources_of (deeds program input budget) ≡ map (λ (op : Operation). op.sources) (operations (run program input budget).events)

-- THE STORAGE PAIRS that are told of the flat code of an accepted program are those of its run, of which each operation makes the access that it is told to
-- make; and the run ends so
abbrev pub StorageOfPrograms : Type 0
StorageOfPrograms =
    (unit : source.Unit) (program : Program) → IsAccepted unit program → program.marks ≡ marks_of program.unit
    → (input : List ℕ) (budget depth : ℕ) (s : StoragePairs) → TellsOf (flattened program) input budget depth s
    → (let it = run program input budget in
    (s.end ≡ it.end) × AreShared (regions_of program.unit) depth it.events (map access_of (deeds program input budget)) s.loops)
