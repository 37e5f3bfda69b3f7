-- Believed with the theorem on the top call, where storage is asked for.
-- The storage pairs of a run, and what of them is asked for.
use Rattle.std.specs.Prelude.{ℕ, ◌≡◌, Bool, true, false, List, [], map, Option}
use Rattle.k_marks_meaning.specs.Marking.{marks_of}
use Rattle.k_evaluation.specs.Deeds.{deeds}
use Rattle.k_regions.specs.Regions.{regions_of}
use Rattle.k_carry_pairs.specs.declared.pairs.LoopPairs.{LoopPairs}
use Rattle.k_carry_storage_pairs.specs.Accesses.{access_of}
use Rattle.k_carry_storage_pairs.specs.Deep.{AreDeep}
use Rattle.k_carry_storage_pairs.specs.Storage.{AreShared}
use Rattle.k_carry_storage_pairs.specs.declared.access.Access.{Access}
use Rattle.k_carry_storage_pairs.specs.declared.pairs.LoopStorage.{LoopStorage}
use Rattle.k_carry_storage_text.specs.Lines.{storage_text}
use Rattle.k_pragma_profile.specs.Strict.{strictly_markable}
use Rattle.k_top_answers.specs.Steps.{Running, run_of}

-- THE ACCESSES of a run: for each of its operations, by its number, the load or the store of an element that it makes, if it makes one. Its events name no
-- element, so this is of what its operations do.
unfoldable pub accesses_of : Running → List (Option Access)
accesses_of r = map access_of (deeds (record { unit = r.typed; marks = marks_of r.typed; latencies = r.latencies }) r.input r.steps)

-- THE STORAGE PAIRS of a run
abbrev pub HasStorage : Running → ℕ → List LoopStorage → Type 0
HasStorage r depth shared = AreShared (regions_of r.typed) depth (run_of r).events (accesses_of r) shared

-- what is written of them behind all else: nothing where it is not asked for
abbrev pub WritesStorage : Bool → Running → ℕ → List ℕ → Type 0
WritesStorage false r depth text = text ≡ []
WritesStorage true r depth text = (shared : List LoopStorage) × HasStorage r depth shared × (text ≡ storage_text (regions_of r.typed) shared)

-- the loops that may be marked, of those that are told with what they carry: where it is asked for those alone that share nothing and of whose instances
-- each was looked at, and else all
abbrev pub MayBeMarked : Bool → Running → ℕ → List LoopPairs → List LoopPairs → Type 0
MayBeMarked false r depth loops found = found ≡ loops
MayBeMarked true r depth loops found = (shared : List LoopStorage) × HasStorage r depth shared
    × ((deep : List Bool) × AreDeep depth (run_of r).events deep × (found ≡ strictly_markable deep shared loops))
