-- Believed with a public law.
-- The budget only cuts a run short.
use Rattle.std.specs.Prelude.{ℕ, ◌≡◌, ◌+◌, List, ◌++◌}
use Rattle.k_ending.specs.declared.ending.End.TheVariants.{OutOfSteps}
use Rattle.k_world.specs.Worlds.{World}
use Rattle.k_code.specs.declared.code.Code.{Code}
use Rattle.k_code.specs.Runs.{run_of, world_of}
use Rattle.k_code.specs.Steps.{Run, Going, Over}

-- a list begins with another
abbrev pub Begins : {X : Type 0} → List X → List X → Type 0
Begins {X} xs ys = (rest : List X) × (ys ≡ xs ++ rest)

-- the configuration in a world in which so many more operations may be made
abbrev pub with_left : ℕ → World → World
with_left more w = record w { left = w.left + more }

-- A run with a smaller budget is the run with the greater one, but for what is left, or it has run out of steps with a part of its events and of
-- its output.
abbrev pub IsCutShort : ℕ → Run → Run → Type 0
IsCutShort more (Going c) longer = longer ≡ Going (record c { world = with_left more c.world })
IsCutShort more (Over OutOfSteps w) longer = Begins w.events (world_of longer).events × Begins w.output (world_of longer).output
IsCutShort more (Over end w) longer = longer ≡ Over end (with_left more w)

-- the budget only cuts a run short
abbrev pub BudgetCutsShort : Type 0
BudgetCutsShort = (code : Code) (input : List ℕ) (budget more n : ℕ) → IsCutShort more (run_of code input budget n) (run_of code input (budget + more) n)
