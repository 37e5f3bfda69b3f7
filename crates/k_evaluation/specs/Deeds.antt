-- Believed with a public law.
-- What the operations of a run do: *Run*, where each operation tells its act, its operands and its value.
use Rattle.std.specs.Prelude.{ℕ, List, [], Option}
use Rattle.k_world.specs.declared.value.Held.{Held}
use Rattle.k_world.specs.Deeds.{Deed}
use Rattle.k_world.specs.Worlds.{fresh_telling}
use Rattle.k_evaluation.specs.Runs.{whole}
use Rattle.k_evaluation.specs.States.{Program, Outcome, Goes, Stops}

-- a run in which it is told what operations do
unfoldable pub telling_run : Program → List ℕ → ℕ → Outcome (Option Held)
telling_run program input budget = whole program (record { vars = []; world = fresh_telling budget input })

-- what was told, by how main ended
abbrev pub deeds_in : Outcome (Option Held) → List Deed
deeds_in (Goes v s) = s.world.deeds
deeds_in (Stops end w) = w.deeds

-- WHAT THE OPERATIONS OF A RUN DO, in order: that of a program on an input, in which at most so many are made
abbrev pub deeds : Program → List ℕ → ℕ → List Deed
deeds program input budget = deeds_in (telling_run program input budget)
