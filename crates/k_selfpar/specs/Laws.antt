-- Believed with a public law.
-- What holds of rows and contexts: the statements of the laws.
use Rattle.std.specs.Prelude.{ℕ, ◌<◌, ◌≡◌, ◌⊎◌, List, [], ◌∷◌}
use Rattle.k_optab.specs.declared.node.Node.{Node}
use Rattle.k_optab.specs.declared.region.Region.{Region}
use Rattle.k_optab.specs.Tree.{EachWith}
use Rattle.k_dict_entries.specs.Laws.{AreAlike}
use Rattle.k_dict_entries.specs.Trees.{Forest, Tree, alone, list_of}
use Rattle.k_selfpar.specs.Contexts.{AreContexts, IsContext, inner_forest, chosen}
use Rattle.k_selfpar.specs.Rows.{AreRows}
use Rattle.k_selfpar.specs.Sums.{one, outer}
use Rattle.k_selfpar.specs.declared.context.Context.{Context}
use Rattle.k_selfpar.specs.declared.row.Row.{Row}

-- trees that are equal up to the order of siblings have the same rows
abbrev pub RowsForgetOrder : Type 0
RowsForgetOrder = (one other : List Node) (rows : List Row) → AreAlike one other → AreRows one rows → AreRows other rows

-- and the same contexts
abbrev pub ContextsForgetOrder : Type 0
ContextsForgetOrder = (regions : List Region) (one other : List Node) (contexts : List Context) → AreAlike one other → AreContexts regions one contexts
    → AreContexts regions other contexts

-- a tree has one list of contexts
abbrev pub ContextsAreUnique : Type 0
ContextsAreUnique = (regions : List Region) (nodes : List Node) (one other : List Context) → AreContexts regions nodes one → AreContexts regions nodes other
    → one ≡ other

-- a tree has one list of rows
abbrev pub RowsAreUnique : Type 0
RowsAreUnique = (nodes : List Node) (one other : List Row) → AreRows nodes one → AreRows nodes other → one ≡ other

-- the instances of a forest with this list of regions, from its outermost instances on: those of the first region, or, where other
-- regions follow, those of their children with these
abbrev pub at_regions : ℕ → List ℕ → Forest → Forest
at_regions region [] f = chosen region f
at_regions region (next ∷ regions) f = at_regions next regions (inner_forest (chosen region f))

-- the last of a region and others behind it
abbrev pub last_of : ℕ → List ℕ → ℕ
last_of region [] = region
last_of region (next ∷ regions) = last_of next regions

-- a list of regions, the first and the others, is one of these
abbrev pub IsAmong : List (ℕ × List ℕ) → ℕ × List ℕ → Type 0
IsAmong [] path = ⊥
IsAmong (p ∷ paths) path = (p ≡ path) ⊎ IsAmong paths path

-- no two of these lists of regions are equal
abbrev pub AreApart : List (ℕ × List ℕ) → Type 0
AreApart [] = Unit {0}
AreApart (p ∷ paths) = (¬ IsAmong paths p) × AreApart paths

-- each context tells of the instances with one list of regions from the root, and each list that an instance has is that of one context
pub record AreByRegions (regions : List Region) (f : Forest) (contexts : List Context) : Type 0 where
  pub paths : List (ℕ × List ℕ)
  pub each : EachWith (λ p c. IsContext regions c.parent (last_of p.0 p.1) (at_regions p.0 p.1 f) c) paths contexts
  pub whole : (region : ℕ) (others : List ℕ) → 0 < outer one (at_regions region others f) → IsAmong paths (region, others)
  pub some : (region : ℕ) (others : List ℕ) → IsAmong paths (region, others) → 0 < outer one (at_regions region others f)
  pub apart : AreApart paths

-- the contexts of a tree are its instances, grouped by their lists of regions from the root
abbrev pub ContextsAreByRegions : Type 0
ContextsAreByRegions = (regions : List Region) (t : Tree) (contexts : List Context) → AreContexts regions (list_of t) contexts → AreByRegions regions (alone t) contexts
