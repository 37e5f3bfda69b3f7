-- Believed with a public law.
-- What contexts and rows are, without the recursions that make them.
use Rattle.std.specs.Prelude.{ℕ, ◌<◌, ◌≡◌, ◌⊎◌, ◌+◌, ◌==◌, if◌then◌else◌, List, [], ◌∷◌, ◌++◌, Some, slice_get, filter, sum_by}
use Rattle.k_optab.specs.declared.region.Region.{Region}
use Rattle.k_optab.specs.Tree.{EachWith}
use Rattle.k_dict_entries.specs.Trees.{Forest, Label, Tree, alone, bare, list_of}
use Rattle.k_selfpar.specs.Contexts.{AreContexts, IsContext}
use Rattle.k_selfpar.specs.Laws.{at_regions}
use Rattle.k_selfpar.specs.Ratio.{IsRatio}
use Rattle.k_selfpar.specs.Rows.{AreRows}
use Rattle.k_selfpar.specs.Sums.{one, outer, serial_in}
use Rattle.k_selfpar.specs.declared.context.Context.{Context}
use Rattle.k_selfpar.specs.declared.row.Row.{Row}

-- a list of regions comes before another in lexicographic order: where they first differ it has the lower region, or ends
abbrev pub Precedes : List ℕ → List ℕ → Type 0
Precedes [] [] = ⊥
Precedes [] (s ∷ other) = Unit {0}
Precedes (r ∷ path) [] = ⊥
Precedes (r ∷ path) (s ∷ other) = (r < s) ⊎ ((r ≡ s) × Precedes path other)

-- a list of regions comes before each of these
abbrev pub ComesBefore : List ℕ → List (List ℕ) → Type 0
ComesBefore path [] = Unit {0}
ComesBefore path (p ∷ paths) = Precedes path p × ComesBefore path paths

-- each of these lists of regions comes before those behind it, so no two are equal
abbrev pub Rise : List (List ℕ) → Type 0
Rise [] = Unit {0}
Rise (p ∷ paths) = ComesBefore p paths × Rise paths

-- the instances of a forest with this list of regions, from its outermost instances on
abbrev pub at_path : List ℕ → Forest → Forest
at_path [] f = bare
at_path (region ∷ path) f = at_regions region path f

-- where all contexts have these paths, this one has that: its region alone, and its parent is the first context; or the path of its
-- parent, with its region behind
abbrev pub HasPath : List (List ℕ) → List ℕ → Context → Type 0
HasPath paths path c =
    ((c.parent ≡ 0) × (path ≡ c.region ∷ []))
    ⊎ ((above : List ℕ) × (slice_get paths c.parent ≡ Some above) × (path ≡ above ++ c.region ∷ []))

-- a context tells of the instances of a forest with this path, of which there are some
abbrev pub Tells : List Region → Forest → List ℕ → Context → Type 0
Tells regions f path c = (0 < c.instances) × IsContext regions c.parent c.region (at_path path f) c

-- contexts by their paths, which are their lists of regions from the root: each tells of the instances with its path, each path that
-- an instance has is that of a context, paths follow from regions and parents, and they rise
pub record AreByPaths (regions : List Region) (f : Forest) (contexts : List Context) : Type 0 where
  pub paths : List (List ℕ)
  pub each : EachWith (Tells regions f) paths contexts
  pub whole : (path : List ℕ) → 0 < outer one (at_path path f) → (k : ℕ) × (slice_get paths k ≡ Some path)
  pub parents : EachWith (HasPath paths) paths contexts
  pub rise : Rise paths

-- the contexts of a tree are by their paths
abbrev pub ContextsAreInOrder : Type 0
ContextsAreInOrder = (regions : List Region) (t : Tree) (contexts : List Context) → AreContexts regions (list_of t) contexts
    → AreByPaths regions (alone t) contexts

-- no other contexts are by their paths
abbrev pub ContextsAreOneByPaths : Type 0
ContextsAreOneByPaths = (regions : List Region) (f : Forest) (contexts others : List Context) → AreByPaths regions f contexts
    → AreByPaths regions f others → contexts ≡ others

-- the contexts of a region
abbrev pub contexts_of : ℕ → List Context → List Context
contexts_of region contexts = filter (λ c. c.region == region) contexts

-- what the contexts of a region give together, where each context has a path: its instances are those with that path, and `own` tells
-- what one of them gives
abbrev pub given_by : (Label → Forest → ℕ) → Forest → ℕ → List (List ℕ) → List Context → ℕ
given_by own f region [] contexts = 0
given_by own f region (p ∷ paths) [] = 0
given_by own f region (p ∷ paths) (c ∷ contexts) = (if c.region == region then outer own (at_path p f) else 0) + given_by own f region paths contexts

-- a row tells what the contexts of its region come to together; its self-parallelism is that of their instances together: the ratio of
-- the times that these would take with their children one behind the other to their paths
pub record IsSumOf (f : Forest) (paths : List (List ℕ)) (contexts : List Context) (row : Row) : Type 0 where
  pub instances : row.instances ≡ sum_by (λ (c : Context). c.instances) (contexts_of row.region contexts)
  pub work : row.work ≡ sum_by (λ (c : Context). c.work) (contexts_of row.region contexts)
  pub path : row.path ≡ sum_by (λ (c : Context). c.path) (contexts_of row.region contexts)
  pub sp : IsRatio (given_by serial_in f row.region paths contexts) row.path row.sp.0 row.sp.1

-- each context tells of the instances with its path, and each row what the contexts of its region come to together
pub record AddUp (regions : List Region) (f : Forest) (contexts : List Context) (rows : List Row) : Type 0 where
  pub paths : List (List ℕ)
  pub each : EachWith (Tells regions f) paths contexts
  pub sums : (k : ℕ) (row : Row) → slice_get rows k ≡ Some row → IsSumOf f paths contexts row

-- the contexts of a region add up to its row
abbrev pub RowsAreSums : Type 0
RowsAreSums = (regions : List Region) (t : Tree) (contexts : List Context) (rows : List Row) → AreContexts regions (list_of t) contexts
    → AreRows (list_of t) rows → AddUp regions (alone t) contexts rows
