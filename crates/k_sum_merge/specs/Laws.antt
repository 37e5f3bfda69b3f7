-- Believed with a public law.
-- What holds of sums that are put together of files: the statements of the laws.
use Rattle.std.specs.Prelude.{◌≡◌, List}
use Rattle.k_optab.specs.declared.region.Region.{Region}
use Rattle.k_dict_saved.specs.declared.saved.Saved.{Saved}
use Rattle.k_sum.specs.SumText.{sum_text}
use Rattle.k_sum.specs.Sums.{HasBounds, both, sum_of}
use Rattle.k_sum.specs.declared.sum.Sum.{Sum}
use Rattle.k_sum_order.specs.Laws.{AreOfProgram, Merge, Regrouped, alone, merged}
use Rattle.k_sum_order.specs.Order.{IsOrdered}
use Rattle.k_sum_saved.specs.Merged.{IsMerged}

-- a sum that is put together of files can be put to others
abbrev pub MergedHaveBounds : Type 0
MergedHaveBounds = (sum : Sum) → IsMerged sum → HasBounds sum

-- what profiles that are put together come to, where sums may be brought in order on the way, as they are where they are saved and read again
pub data Gives : Merge → Sum → Type 0 where
  one : (profile : Saved) → Gives (alone profile) (sum_of profile)
  two : (m n : Merge) (sum other : Sum) → Gives m sum → Gives n other → Gives (merged m n) (both sum other)
  kept : (m : Merge) (sum ordered : Sum) → Gives m sum → IsOrdered sum ordered → Gives m ordered

-- profiles of one program have one file, in whatever order and grouping they are put together, and whether or not some of them were put
-- together, saved and read again before
abbrev pub AnyWayIsOne : Type 0
AnyWayIsOne = (regions : List Region) (m n : Merge) (sum other first second : Sum) → AreOfProgram regions m → Regrouped m n → Gives m sum → Gives n other
    → IsOrdered sum first → IsOrdered other second → sum_text first ≡ sum_text second
