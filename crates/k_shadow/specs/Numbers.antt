-- For contracts between crates: nobody has to believe it.
-- The numbers of the instances that are open at the live levels.
use Rattle.std.specs.Prelude.{◌≡◌, ℕ, ◌+◌, ◌-◌, ◌%◌, ◌^◌, ◌≤◌, ◌<◌, List, [], ◌∷◌, ◌++◌, length, take, slice_index}

-- the number of each live level's instance, outermost first, and the last number that was given
pub record Numbers : Type 0 where
  pub live : List ℕ
  pub given : ℕ

-- no level is live, and no number was given
abbrev pub none_given : Numbers
none_given = record { live = []; given = 0 }

-- a level more, whose instance has a number that was never given before
abbrev pub number_given : Numbers → Numbers
number_given v = record { live = v.live ++ (v.given + 1) ∷ []; given = v.given + 1 }

-- the innermost level is gone, and its number is not given again
abbrev pub number_left : Numbers → Numbers
number_left v = record v { live = take (length v.live - 1) v.live }

-- each of these numbers was given, the first of all being 1
abbrev pub WereGiven : ℕ → List ℕ → Type 0
WereGiven given [] = Unit {0}
WereGiven given (n ∷ ns) = (0 < n) × (n ≤ given) × WereGiven given ns

-- each number is above the one before, and the first above `low`: instances nest, so an inner one began later
abbrev pub AreRising : ℕ → List ℕ → Type 0
AreRising low [] = Unit {0}
AreRising low (n ∷ ns) = (low < n) × AreRising n ns

-- at the `depth` outermost levels these are the numbers, modulo 2^32
abbrev pub AreStarts : ℕ → List ℕ → List ℕ → Type 0
AreStarts depth numbers starts = (k : ℕ) → k < depth → slice_index starts k ≡ slice_index numbers k % 2 ^ 32
