-- For contracts between crates: nobody has to believe it.
-- What is told of a run: how it ends, and what its loops carry.
use Rattle.std.specs.Prelude.{ℕ, List}
use Rattle.k_optab.specs.declared.event.Event.{Event}
use Rattle.k_carry_pairs.specs.declared.pairs.CarriedPairs.{CarriedPairs}
use Rattle.k_carry_pairs.specs.Carried.{AreCarried}
use Rattle.k_code.specs.declared.code.Code.{Code}
use Rattle.k_code.specs.Runs.{HasOutcome}

-- these are the end and the carried pairs of the run of this code on this input, of at most so many operations, where instances below this depth are tracked
pub record TellsOf (code : Code) (input : List ℕ) (budget depth : ℕ) (c : CarriedPairs) : Type 0 where
  pub events : List Event
  pub output : List ℕ
  pub outcome : HasOutcome code input budget events output c.end
  pub carried : AreCarried code.regions depth events c.loops
