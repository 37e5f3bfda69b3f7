-- Believed with a public law.
-- Sums that are put together of files.
use Rattle.std.specs.Prelude.{◌≡◌}
use Rattle.k_dict_saved.specs.Profile.{IsSaved}
use Rattle.k_dict_saved.specs.declared.saved.Saved.{Saved}
use Rattle.k_sum.specs.Sums.{HasBounds, both, sum_of}
use Rattle.k_sum.specs.declared.sum.Sum.{Sum}
use Rattle.k_sum_saved.specs.SumRules.{IsSum}

-- a sum is put together of files: it is one that can be saved, or that of a saved profile's run, or two of one program together
pub data IsMerged : Sum → Type 0 where
  of_file : (sum : Sum) → IsSum sum → IsMerged sum
  of_run : (profile : Saved) → IsSaved profile → IsMerged (sum_of profile)
  of_both : (one other : Sum) → IsMerged one → IsMerged other → one.regions ≡ other.regions → HasBounds (both one other) → IsMerged (both one other)
