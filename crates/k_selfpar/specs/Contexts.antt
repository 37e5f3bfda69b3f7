-- Believed with the theorem on the top call.
-- *Contexts*: the instances of a tree, grouped by their lists of regions from the root.
use Rattle.std.specs.Prelude.{ℕ, ◌+◌, ◌≡◌, ◌<◌, ◌≤◌, ◌==◌, ◌&&◌, Bool, true, false, if◌then◌else◌, List, [], ◌∷◌, ◌++◌, length, All, Option, Some, None, slice_get, option_map, Result, Ok, Err}
use Rattle.k_optab.specs.declared.node.Node.{Node}
use Rattle.k_optab.specs.declared.region.Region.{Region}
use Rattle.k_optab.specs.declared.region.RegionKind.{RegionKind}
use Rattle.k_optab.specs.Regions.{is_body, is_loop}
use Rattle.k_dict_entries.specs.Trees.{Forest, Tree, alone, bare, grown, list_of}
use Rattle.k_selfpar.specs.Ratio.{IsRatio}
use Rattle.k_selfpar.specs.Sums.{one, outer, outer_paths, outer_works, serial_in}
use Rattle.k_selfpar.specs.declared.context.Context.{Context}
use Rattle.k_selfpar.specs.declared.context.ContextFault.{ContextFault}
use Rattle.k_selfpar.specs.declared.context.ContextFault.TheVariants.{Wide, Memory}

-- a forest's outermost instances, each with those within it, that are of a region
abbrev pub chosen : ℕ → Forest → Forest
chosen region bare = bare
chosen region (grown label inner later) = if label.region == region then grown label inner (chosen region later) else chosen region later

-- those of other regions
abbrev pub others : ℕ → Forest → Forest
others region bare = bare
others region (grown label inner later) = if label.region == region then others region later else grown label inner (others region later)

-- a forest, and another beside it
abbrev pub with_beside : Forest → Forest → Forest
with_beside bare g = g
with_beside (grown label inner later) g = grown label inner (with_beside later g)

-- the children of a forest's outermost instances, each with those within it
abbrev pub inner_forest : Forest → Forest
inner_forest bare = bare
inner_forest (grown label inner later) = with_beside inner (inner_forest later)

-- no outermost instance of a forest is of a lower region
abbrev pub NoneBelow : ℕ → Forest → Type 0
NoneBelow region bare = Unit {0}
NoneBelow region (grown label inner later) = (region ≤ label.region) × NoneBelow region later

-- there is such a region, and its kind passes a test
abbrev pub has_kind : (RegionKind → Bool) → Option Region → Bool
has_kind test None = false
has_kind test (Some r) = test r.kind

-- a region is a loop, and the next one is a body
abbrev pub has_turns : List Region → ℕ → Bool
has_turns regions region = has_kind is_loop (slice_get regions region) && has_kind is_body (slice_get regions (region + 1))

-- how many outermost instances of a forest are of a region
abbrev pub count_in : ℕ → Forest → ℕ
count_in region f = outer one (chosen region f)

-- a context tells of a group of instances of one region: how many they are, how many children of the next region they have, where
-- the one is a loop and the other a body, their works and their paths together, and the ratio of the times that they would take
-- with their children one behind the other to their paths
pub record IsContext (regions : List Region) (parent region : ℕ) (group : Forest) (c : Context) : Type 0 where
  pub parent_is : c.parent ≡ parent
  pub region_is : c.region ≡ region
  pub kind : option_map (λ (r : Region). r.kind) (slice_get regions region) ≡ Some c.kind
  pub instances : c.instances ≡ outer one group
  pub turns : c.turns ≡ (if has_turns regions region then count_in (region + 1) (inner_forest group) else 0)
  pub work : c.work ≡ outer_works group
  pub path : c.path ≡ outer_paths group
  pub sp : IsRatio (outer serial_in group) (outer_paths group) c.sp.0 c.sp.1

-- the contexts, numbered from a number on, of instances side by side whose parents are in one context: first that of the lowest
-- region among them, behind it those of its instances' children, and then those of the instances of other regions
pub data AreUnder : List Region → ℕ → ℕ → Forest → List Context → Type 0 where
  none : (regions : List Region) (parent number : ℕ) → AreUnder regions parent number bare []
  group : (regions : List Region) (parent number region : ℕ) (f : Forest) (c : Context) (below later : List Context)
      → 0 < count_in region f → NoneBelow region f → IsContext regions parent region (chosen region f) c
      → AreUnder regions number (number + 1) (inner_forest (chosen region f)) below
      → AreUnder regions parent ((number + 1) + length below) (others region f) later
      → AreUnder regions parent number f (c ∷ (below ++ later))

-- the contexts of a tree of instances; the root's parent is itself
abbrev pub AreContexts : List Region → List Node → List Context → Type 0
AreContexts regions nodes contexts = (t : Tree) × (nodes ≡ list_of t) × AreUnder regions 0 0 (alone t) contexts

-- what `contexts` answers: the contexts, or that they are too many
abbrev pub GivesContexts : List Region → List Node → Result (List Context) ContextFault → Type 0
GivesContexts regions nodes (Ok contexts) = AreContexts regions nodes contexts × (length contexts ≤ 65536)
GivesContexts regions nodes (Err Wide) = (contexts : List Context) × AreContexts regions nodes contexts × (65536 < length contexts)
GivesContexts regions nodes (Err Memory) = Unit {0}

-- no self-parallelism of these contexts is below 1
abbrev pub ContextsAreAtLeastOne : List Context → Type 0
ContextsAreAtLeastOne contexts = All (λ (c : Context). c.sp.1 ≤ c.sp.0) contexts

-- the work of the root, the first context
abbrev pub root_work : List Context → ℕ
root_work [] = 0
root_work (root ∷ contexts) = root.work
