-- Believed with the theorem on the top call.
-- Contexts that have a plan.
use Rattle.std.specs.Prelude.{ℕ, ◌+◌, ◌^◌, ◌≡◌, ◌<◌, ◌≤◌, ◌==◌, List, [], ◌∷◌, length, Some, slice_get, if◌then◌else◌}
use Rattle.k_selfpar.specs.declared.context.Context.{Context}

-- each of these contexts, which are numbered from k on, stands behind its parent
abbrev pub StandBehindParents : ℕ → List Context → Type 0
StandBehindParents k [] = Unit {0}
StandBehindParents k (c ∷ contexts) = (c.parent < k) × StandBehindParents (k + 1) contexts

-- the first context is its own parent, and each other one stands behind its parent
abbrev pub ParentsComeFirst : List Context → Type 0
ParentsComeFirst [] = Unit {0}
ParentsComeFirst (root ∷ contexts) = (root.parent ≡ 0) × StandBehindParents 1 contexts

-- the works of those of these contexts together whose parent is a
abbrev pub works_under : ℕ → List Context → ℕ
works_under a [] = 0
works_under a (c ∷ contexts) = (if c.parent == a then c.work else 0) + works_under a contexts

-- the contexts behind the first
abbrev pub behind_root : List Context → List Context
behind_root [] = []
behind_root (root ∷ contexts) = contexts

-- contexts that have a plan: parents come first, works are small, and the works of its children are part of each context's work
pub record CanPlan (contexts : List Context) : Type 0 where
  pub few : length contexts ≤ 65536
  pub parents : ParentsComeFirst contexts
  pub small : (k : ℕ) (c : Context) → slice_get contexts k ≡ Some c → c.work < 2 ^ 50
  pub works : (k : ℕ) (c : Context) → slice_get contexts k ≡ Some c → works_under k (behind_root contexts) ≤ c.work
