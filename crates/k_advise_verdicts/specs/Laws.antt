-- Believed with a public law.
-- What holds of verdicts: the statements of the laws.
use Rattle.std.specs.Prelude.{ℕ, ◌≡◌, ◌⊎◌, nat_lt, Bool, true, false, IsTrue, List, [], Some, slice_get}
use Rattle.k_optab.specs.declared.event.Event.{Event}
use Rattle.k_optab.specs.declared.region.Region.{Region}
use Rattle.k_carry_pairs.specs.declared.pairs.LoopPairs.{LoopPairs}
use Rattle.k_carry_pairs.specs.declared.pairs.Pair.{Pair}
use Rattle.k_carry_pairs.specs.Carried.{AreCarried, AreSorted, IsAmong, IsPair}
use Rattle.k_carry_storage_pairs.specs.declared.pairs.LoopStorage.{LoopStorage}
use Rattle.k_carry_storage_pairs.specs.declared.pairs.Shared.{Shared}
use Rattle.k_selfpar.specs.declared.context.Context.{Context}
use Rattle.k_selfpar.specs.declared.row.Row.{Row}
use Rattle.k_plan.specs.Choices.{Choice}
use Rattle.k_advise_plan.specs.declared.team.Team.{Team}
use Rattle.k_advise_plan.specs.Plan.{IsThreadedPlan}
use Rattle.k_advise_verdicts.specs.declared.facts.LoopFacts.{LoopFacts}
use Rattle.k_advise_verdicts.specs.declared.standing.Standing.{Standing}
use Rattle.k_advise_verdicts.specs.declared.word.FirstPairs.{FirstPairs}
use Rattle.k_advise_verdicts.specs.declared.word.LoopVerdict.{LoopVerdict}
use Rattle.k_advise_verdicts.specs.declared.word.Verdict.{Verdict}
use Rattle.k_advise_verdicts.specs.declared.word.Verdict.TheVariants as verdict
use Rattle.k_advise_verdicts.specs.Standings.{IsStanding, IsWithin}
use Rattle.k_advise_verdicts.specs.Told.{number_of_facts, number_of_pairs, of_region, pairs_in, row_before, verdicts_of}
use Rattle.k_advise_verdicts.specs.Verdicts.{verdict_of}

-- one verdict stands before the other, by its region
abbrev pub verdict_before : LoopVerdict → LoopVerdict → Bool
verdict_before a b = nat_lt a.region b.region

-- rows in order of region have verdicts in order of region, so no loop has two
abbrev pub NoLoopHasTwo : Type 0
NoLoopHasTwo = (start : ℕ) (facts : List LoopFacts) (standings : List Standing) (carried : List LoopPairs) (shared : List LoopStorage) (rows : List Row)
    → AreSorted row_before rows → AreSorted verdict_before (verdicts_of start facts standings carried shared rows)

-- each loop that has a row has one
abbrev pub EachLoopHasOne : Type 0
EachLoopHasOne = (start : ℕ) (facts : List LoopFacts) (standings : List Standing) (carried : List LoopPairs) (shared : List LoopStorage) (rows : List Row) (row : Row)
    (f : LoopFacts) → IsAmong row rows → of_region number_of_facts row.region facts ≡ Some f
    → (v : LoopVerdict) × IsAmong v (verdicts_of start facts standings carried shared rows) × (v.region ≡ row.region)

-- A PARALLEL LOOP is one that the plan picks; it has no carried pairs and no storage pairs, and each instance of it was looked at
pub record IsFree (f : LoopFacts) (s : Standing) (carried : List Pair) (shared : List Shared) : Type 0 where
  pub picked : s.picked ≡ true
  pub markable : f.markable ≡ true
  pub looked_at : f.deep ≡ false
  pub carries_none : carried ≡ []
  pub shares_none : shared ≡ []

-- each loop whose verdict is that is one
abbrev pub ParallelIsFree : Type 0
ParallelIsFree = (start : ℕ) (row : Row) (f : LoopFacts) (s : Standing) (carried : List Pair) (shared : List Shared) (uneven : Bool)
    → verdict_of start row f s carried shared ≡ verdict.Parallel uneven → IsFree f s carried shared

-- loops that are told to carry no pair have none
abbrev pub FlagsAreOfPairs : (ℕ → Bool) → List LoopPairs → Type 0
FlagsAreOfPairs carries loops = (region : ℕ) → carries region ≡ false → pairs_in (of_region number_of_pairs region loops) ≡ []

-- a verdict is that of a chain
abbrev pub is_chain : Verdict → Bool
is_chain (verdict.Chain pairs) = true
is_chain _ = false

-- the region of a pick of a plan that is made with these carried pairs is never a chain
abbrev pub PicksAreNoChains : Type 0
PicksAreNoChains = (team : Team) (carries : ℕ → Bool) (contexts : List Context) (plan : Choice) (loops : List LoopPairs) (k : ℕ) (c : Context) (start : ℕ) (row : Row)
    (f : LoopFacts) (s : Standing) (shared : List Shared) → IsThreadedPlan team carries contexts plan → FlagsAreOfPairs carries loops → IsTrue (plan k)
    → slice_get contexts k ≡ Some c → is_chain (verdict_of start row f s (pairs_in (of_region number_of_pairs c.region loops)) shared) ≡ false

-- of a loop that is inside, a pick is above each context, and that above the first of them is of the region that is told
abbrev pub InsideHasPicksAbove : Type 0
InsideHasPicksAbove = (team : Team) (contexts : List Context) (plan : Choice) (start : ℕ) (row : Row) (f : LoopFacts) (s : Standing) (carried : List Pair)
    (shared : List Shared) (pick : ℕ) → IsStanding team contexts plan row.region s → verdict_of start row f s carried shared ≡ verdict.Inside pick
    → IsWithin contexts plan row.region pick

-- this pair is one of the first three
abbrev pub IsFirstPair : Pair → FirstPairs → Type 0
IsFirstPair pair pairs = (pairs.first ≡ pair) ⊎ ((pairs.second ≡ Some pair) ⊎ (pairs.third ≡ Some pair))

-- THE REASON OF A CHAIN is its own: each pair that is told with the verdict on a loop is carried by an instance of this loop
abbrev pub ChainsTellTheirOwn : Type 0
ChainsTellTheirOwn = (regions : List Region) (depth : ℕ) (events : List Event) (start : ℕ) (facts : List LoopFacts) (standings : List Standing)
    (carried : List LoopPairs) (shared : List LoopStorage) (rows : List Row) (v : LoopVerdict) (pairs : FirstPairs) (pair : Pair)
    → AreCarried regions depth events carried → IsAmong v (verdicts_of start facts standings carried shared rows) → v.verdict ≡ verdict.Chain pairs
    → IsFirstPair pair pairs → IsPair depth events v.region pair
