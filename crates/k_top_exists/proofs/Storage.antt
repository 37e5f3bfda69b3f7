-- Each run has storage pairs.
use Rattle.std.proofs.Common.{ℕ, Bool, true, false, List, [], refl}
use Rattle.k_regions.specs.Regions.{regions_of}
use Rattle.k_carry_pairs.specs.declared.pairs.LoopPairs.{LoopPairs}
use Rattle.k_carry_storage_pairs.specs.declared.pairs.LoopStorage.{LoopStorage}
use Rattle.k_carry_storage_pairs.proofs.Deeper.{some_deep}
use Rattle.k_carry_storage_pairs.proofs.Existing.{some_answer}
use Rattle.k_carry_storage_text.specs.Lines.{storage_text}
use Rattle.k_pragma_profile.specs.Strict.{strictly_markable}
use Rattle.k_top_answers.specs.Steps.{Running, run_of}
use Rattle.k_top_answers.specs.Storage.{HasStorage, MayBeMarked, WritesStorage, accesses_of}

module _ (r : Running) where
  pub storage_there : (depth : ℕ) → (shared : List LoopStorage) × HasStorage r depth shared
  storage_there depth = some_answer (regions_of r.typed) depth (run_of r).events (accesses_of r)

  -- so what is asked for of them can be written, and the loops be found that may be marked
  pub storage_written : (depth : ℕ) (storage : Bool) → (shared : List ℕ) × WritesStorage storage r depth shared
  storage_written depth false = ([], refl)
  storage_written depth true = (let there = storage_there depth in (storage_text (regions_of r.typed) there.0, (there.0, there.1, refl)))

  pub marked_found : (depth : ℕ) (strict : Bool) (loops : List LoopPairs) → (found : List LoopPairs) × MayBeMarked strict r depth loops found
  marked_found depth false loops = (loops, refl)
  marked_found depth true loops =
      let there = storage_there depth in
      let flags = some_deep depth (run_of r).events in
      (strictly_markable flags.0 there.0 loops, (there.0, there.1, (flags.0, flags.1, refl)))
