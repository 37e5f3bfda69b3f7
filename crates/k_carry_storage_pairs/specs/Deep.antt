-- Believed with a public law.
-- *Deep instances*: those that are not looked at, since so many instances or more are open around them as are tracked.
use Rattle.std.specs.Prelude.{ℕ, ◌≡◌, ◌≤◌, Bool, true, List, slice_get, Some}
use Rattle.k_optab.specs.declared.event.Event.{Event}
use Rattle.k_optab.specs.Open.{Open}
use Rattle.k_carry_pairs.specs.Carried.{LiesIn}

-- AN INSTANCE OF THIS REGION, closed or still open, was not tracked: the tracked depth is no greater than its depth
pub record WasDeep (depth : ℕ) (events : List Event) (region : ℕ) : Type 0 where
  pub o : Open
  pub at : ℕ
  pub opened : LiesIn events at o
  pub of : o.region ≡ region
  pub deep : depth ≤ o.depth

-- these flags are set for the regions with such an instance, and for no others
pub record AreDeep (depth : ℕ) (events : List Event) (deep : List Bool) : Type 0 where
  pub sound : (region : ℕ) → slice_get deep region ≡ Some true → WasDeep depth events region
  pub complete : (region : ℕ) → WasDeep depth events region → slice_get deep region ≡ Some true
