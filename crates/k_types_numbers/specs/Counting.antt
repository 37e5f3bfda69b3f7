-- For contracts between crates: nobody has to believe it.
-- Numbers that count on from what is counted so far.
use Rattle.std.specs.Prelude.{ℕ, suc, ◌≡◌, ◌++◌, List, [], ◌∷◌}
use Rattle.k_types_meaning.specs.Numbered.{Numbers}
use Rattle.k_types_numbers.specs.declared.counts.Counts.{Counts}

-- these numbers go up by one each from `m` on, and `n` comes behind them
abbrev pub Rises : ℕ → List ℕ → ℕ → Type 0
Rises m [] n = n ≡ m
Rises m (x ∷ xs) n = (x ≡ m) × Rises (suc m) xs n

-- What is listed of a part of a tree counts on from the counts `s`, and `t` are the counts behind it.
pub record Counted (numbers : Numbers) (s t : Counts) : Type 0 where
  pub nodes : Rises s.nodes numbers.nodes t.nodes
  pub strings : Rises s.strings numbers.strings t.strings
  pub loops : Rises s.loops numbers.loops t.loops
  pub texts : t.texts ≡ s.texts ++ numbers.texts
