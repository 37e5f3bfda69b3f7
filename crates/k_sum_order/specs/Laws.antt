-- Believed with a public law.
-- What the order of entries is for: the statements of the laws.
use Rattle.std.specs.Prelude.{ℕ, ◌<◌, ◌≡◌, ◌⊎◌, List, length}
use Rattle.k_optab.specs.declared.region.Region.{Region}
use Rattle.k_dict_entries.specs.Entries.{NameEarlier, tree_at}
use Rattle.k_dict_entries.specs.Laws.{HaveLikes}
use Rattle.k_dict_entries.specs.Trees.{Alike, Forest, SameShape, Tree, bare, grown}
use Rattle.k_dict_entries.specs.declared.entry.Entry.{Entry}
use Rattle.k_dict_saved.specs.Profile.{IsSaved}
use Rattle.k_dict_saved.specs.declared.saved.Saved.{Saved}
use Rattle.k_sum.specs.Laws.{TellsOfRuns, forest_of}
use Rattle.k_sum.specs.SumText.{sum_text}
use Rattle.k_sum.specs.Sums.{both, sum_of}
use Rattle.k_sum.specs.declared.sum.Sum.{Sum}
use Rattle.k_sum_order.specs.Order.{AreInOrder, IsOrdered}

-- dictionaries in order whose entries stand for the same trees, up to the order of siblings, are one
abbrev pub OrderIsOne : Type 0
OrderIsOne = (one other : List Entry) → NameEarlier one → NameEarlier other → AreInOrder one → AreInOrder other
    → HaveLikes one other → HaveLikes other one → one ≡ other

-- a sum in order tells of the same runs
abbrev pub OrderKeepsRuns : Type 0
OrderKeepsRuns = (sum ordered : Sum) → TellsOfRuns sum → IsOrdered sum ordered → TellsOfRuns ordered × Alike (forest_of ordered) (forest_of sum)

-- a tree of this shape stands in a forest
abbrev pub Has : Tree → Forest → Type 0
Has t bare = ⊥
Has t (grown label inner later) = SameShape t (record { label = label; inner = inner }) ⊎ (Has t inner ⊎ Has t later)

-- no entry of a sum is left over: each stands for an instance of its runs
abbrev pub NoneIsLeft : Sum → Type 0
NoneIsLeft sum = (n : ℕ) → n < length sum.dict → Has (tree_at sum.dict n) (forest_of sum)

-- the sum of a profile has no entry left over
abbrev pub OneHasNoneLeft : Type 0
OneHasNoneLeft = (saved : Saved) → IsSaved saved → NoneIsLeft (sum_of saved)

-- nor have two sums together
abbrev pub BothHaveNoneLeft : Type 0
BothHaveNoneLeft = (one other : Sum) → TellsOfRuns one → TellsOfRuns other → NoneIsLeft one → NoneIsLeft other → NoneIsLeft (both one other)

-- profiles that are put together: one alone, or two of such
pub data Merge : Type 0 where
  alone : (saved : Saved) → Merge
  merged : (first second : Merge) → Merge

-- their sum
abbrev pub sum_of_all : Merge → Sum
sum_of_all (alone saved) = sum_of saved
sum_of_all (merged first second) = both (sum_of_all first) (sum_of_all second)

-- they are profiles of one program, whose regions are these
abbrev pub AreOfProgram : List Region → Merge → Type 0
AreOfProgram regions (alone saved) = IsSaved saved × (saved.regions ≡ regions)
AreOfProgram regions (merged first second) = AreOfProgram regions first × AreOfProgram regions second

-- profiles are put together in another order or grouping: two are exchanged, or others are put together first, any number of times
pub data Regrouped : Merge → Merge → Type 0 where
  same : (m : Merge) → Regrouped m m
  exchanged : (m n : Merge) → Regrouped (merged m n) (merged n m)
  grouped : (k m n : Merge) → Regrouped (merged (merged k m) n) (merged k (merged m n))
  within : (k k' m m' : Merge) → Regrouped k k' → Regrouped m m' → Regrouped (merged k m) (merged k' m')
  back : (m n : Merge) → Regrouped m n → Regrouped n m
  further : (k m n : Merge) → Regrouped k m → Regrouped m n → Regrouped k n

-- profiles of one program have one file once their entries are in order, in whatever order and grouping they are put together
abbrev pub FileIsOne : Type 0
FileIsOne = (regions : List Region) (one other : Merge) (ordered other_ordered : Sum) → AreOfProgram regions one → Regrouped one other
    → IsOrdered (sum_of_all one) ordered → IsOrdered (sum_of_all other) other_ordered → sum_text ordered ≡ sum_text other_ordered
