-- Believed with a public law.
-- The rules of a sum that can be saved.
use Rattle.std.specs.Prelude.{ℕ, ◌*◌, ◌≤◌, ◌≡◌, List, [], ◌∷◌, ◌++◌, length}
use Rattle.k_dict_entries.specs.Rules.{AreProfile, NameRegions, child_works}
use Rattle.k_dict_saved.specs.Files.{AreRegions}
use Rattle.k_sum.specs.Exits as ends
use Rattle.k_sum.specs.declared.exits.Exit.{Exit}
use Rattle.k_sum.specs.declared.sum.Sum.{Sum}
use Rattle.k_sum_order.specs.Order.{AreInOrder}
use Rattle.k_sum_saved.specs.SumLines.{AreRoots, IsNextExit}

-- each of these exit values may stand behind these and those before it
abbrev pub AreBehind : ℕ → List Exit → List Exit → Type 0
AreBehind runs before [] = Unit {0}
AreBehind runs before (x ∷ exits) = IsNextExit runs before x × AreBehind runs (before ++ x ∷ []) exits

-- the exit values of so many runs: they rise, and each run ended with one
pub record AreExits (runs : ℕ) (exits : List Exit) : Type 0 where
  pub some : 1 ≤ length exits
  pub few : length exits ≤ runs
  pub each : AreBehind runs [] exits
  pub whole : ends.total exits ≡ runs

-- a sum that can be saved
pub record IsSum (sum : Sum) : Type 0 where
  pub some : 1 ≤ sum.runs
  pub few : sum.runs ≤ 4294967295
  pub exits : AreExits sum.runs sum.exits
  pub ops : sum.ops ≤ 1000000000 * sum.runs
  pub regions : AreRegions sum.regions
  pub profile : AreProfile sum.dict
  pub in_list : NameRegions (length sum.regions) sum.dict
  pub order : AreInOrder sum.dict
  pub roots : AreRoots sum.runs sum.regions sum.dict sum.roots
  pub work : sum.work ≡ child_works sum.dict sum.roots
