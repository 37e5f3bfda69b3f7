-- Believed with a public law.
-- What is told of a run: how it ends, what the turns of its loops share, and which regions had an instance that is not tracked.
use Rattle.std.specs.Prelude.{ℕ, List, map}
use Rattle.k_optab.specs.declared.event.Event.{Event}
use Rattle.k_world.specs.Deeds.{Deed}
use Rattle.k_code.specs.declared.code.Code.{Code}
use Rattle.k_code.specs.Telling.{HasToldOutcome}
use Rattle.k_carry_storage_pairs.specs.declared.pairs.StoragePairs.{StoragePairs}
use Rattle.k_carry_storage_pairs.specs.Accesses.{access_of}
use Rattle.k_carry_storage_pairs.specs.Deep.{AreDeep}
use Rattle.k_carry_storage_pairs.specs.Storage.{AreShared}
use Rattle.k_carry_storage.specs.declared.told.StorageTold.{StorageTold}

-- These are the end and the storage pairs of the run of this code on this input, of at most so many operations, where instances below this depth are
-- tracked. The accesses are those that its operations are told to make.
pub record TellsOf (code : Code) (input : List ℕ) (budget depth : ℕ) (s : StoragePairs) : Type 0 where
  pub deeds : List Deed
  pub events : List Event
  pub output : List ℕ
  pub outcome : HasToldOutcome code input budget deeds events output s.end
  pub shared : AreShared code.regions depth events (map access_of deeds) s.loops

-- and these are those of the run, with flags of the regions that had an instance which is not tracked
pub record TellsAllOf (code : Code) (input : List ℕ) (budget depth : ℕ) (told : StorageTold) : Type 0 where
  pub pairs : TellsOf code input budget depth told.pairs
  pub deep : AreDeep depth pairs.events told.deep
