-- Believed with a public law.
-- Each run has carried pairs: the statement of the law.
use Rattle.std.specs.Prelude.{ℕ, List}
use Rattle.k_optab.specs.declared.event.Event.{Event}
use Rattle.k_optab.specs.declared.region.Region.{Region}
use Rattle.k_carry_pairs.specs.Carried.{AreCarried}
use Rattle.k_carry_pairs.specs.declared.pairs.LoopPairs.{LoopPairs}

-- the loops of any events carry some pairs, whatever the regions, to any depth
abbrev pub CarriedPairsExist : Type 0
CarriedPairsExist = (regions : List Region) (depth : ℕ) (events : List Event) → (loops : List LoopPairs) × AreCarried regions depth events loops
