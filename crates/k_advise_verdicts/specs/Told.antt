-- Believed with a public law.
-- *Verdicts* of a run: of each loop with a row one, in order of region.
use Rattle.std.specs.Prelude.{ℕ, ◌≡◌, ◌≤◌, nat_eq, nat_lt, Bool, false, List, [], ◌∷◌, Option, Some, None, slice_index_or, if◌then◌else◌}
use Rattle.std.specs.List.{flat_map}
use Rattle.k_carry_pairs.specs.declared.pairs.LoopPairs.{LoopPairs}
use Rattle.k_carry_pairs.specs.declared.pairs.Pair.{Pair}
use Rattle.k_carry_pairs.specs.Carried.{AreSorted}
use Rattle.k_carry_storage_pairs.specs.declared.pairs.LoopStorage.{LoopStorage}
use Rattle.k_carry_storage_pairs.specs.declared.pairs.Shared.{Shared}
use Rattle.k_selfpar.specs.declared.row.Row.{Row}
use Rattle.k_advise_verdicts.specs.declared.facts.LoopFacts.{LoopFacts}
use Rattle.k_advise_verdicts.specs.declared.standing.Standing.{Standing}
use Rattle.k_advise_verdicts.specs.declared.word.LoopVerdict.{LoopVerdict}
use Rattle.k_advise_verdicts.specs.Verdicts.{verdict_of}

-- the first item of a region, where each has the number of one
abbrev pub of_region : {X : Type 0} → (X → ℕ) → ℕ → List X → Option X
of_region number region [] = None
of_region number region (x ∷ xs) = if nat_eq (number x) region then Some x else of_region number region xs

-- the first of these items, if it is of this region
abbrev pub front : {X : Type 0} → (X → ℕ) → ℕ → List X → Option X
front number region [] = None
front number region (x ∷ xs) = if nat_eq (number x) region then Some x else None

-- the region of what is known of a loop
abbrev pub number_of_facts : LoopFacts → ℕ
number_of_facts f = f.region

-- the region of a loop that carries
abbrev pub number_of_pairs : LoopPairs → ℕ
number_of_pairs l = l.region

-- the region of a loop whose turns share
abbrev pub number_of_storage : LoopStorage → ℕ
number_of_storage l = l.region

-- one stands before the other, by its region
abbrev pub by_number : {X : Type 0} → (X → ℕ) → X → X → Bool
by_number number a b = nat_lt (number a) (number b)

-- what is known of one loop stands before that of another
abbrev pub facts_before : LoopFacts → LoopFacts → Bool
facts_before a b = nat_lt a.region b.region

-- one row stands before another
abbrev pub row_before : Row → Row → Bool
row_before a b = nat_lt a.region b.region

-- these are the others without those of lower regions
pub record Passes {X : Type 0} (number : X → ℕ) (region : ℕ) (all later : List X) : Type 0 where
  pub same : (r : ℕ) → region ≤ r → of_region number r later ≡ of_region number r all
  pub sorted : AreSorted (by_number number) later
  pub first : front number region later ≡ of_region number region later

-- what a loop carries, if it is told
abbrev pub pairs_in : Option LoopPairs → List Pair
pairs_in None = []
pairs_in (Some l) = l.pairs

-- what its turns share, if it is told
abbrev pub shared_in : Option LoopStorage → List Shared
shared_in None = []
shared_in (Some l) = l.pairs

-- not in a plan
abbrev pub outside : Standing
outside = record { picked = false; inside = None; saves = false }

-- where a loop stands in a plan, by its region
abbrev pub standing_at : List Standing → ℕ → Standing
standing_at standings region = slice_index_or standings region outside

-- the verdict on the region of a row, if it is a loop, of which this is known
abbrev pub told : ℕ → Row → Standing → Option LoopFacts → List Pair → List Shared → List LoopVerdict
told start row standing None carried shared = []
told start row standing (Some f) carried shared = record { region = row.region; verdict = verdict_of start row f standing carried shared } ∷ []

-- THE VERDICT ON THE LOOP OF A ROW: by what is known of this loop, where it stands in the plan, and its own carried pairs and storage pairs
abbrev pub verdict_at : ℕ → List LoopFacts → List Standing → List LoopPairs → List LoopStorage → Row → List LoopVerdict
verdict_at start facts standings carried shared row =
    told start row (standing_at standings row.region) (of_region number_of_facts row.region facts) (pairs_in (of_region number_of_pairs row.region carried))
    (shared_in (of_region number_of_storage row.region shared))

-- THE VERDICTS on loops that have these rows
unfoldable pub verdicts_of : ℕ → List LoopFacts → List Standing → List LoopPairs → List LoopStorage → List Row → List LoopVerdict
verdicts_of start facts standings carried shared rows = flat_map (verdict_at start facts standings carried shared) rows
