-- Believed with the theorem on the top call.
-- Choices of loops.
use Rattle.std.specs.Prelude.{ℕ, ◌+◌, ◌≡◌, ◌<◌, Bool, IsTrue, List, [], ◌∷◌, Some, slice_get, if◌then◌else◌}
use Rattle.k_selfpar.specs.Contexts.{root_work}
use Rattle.k_selfpar.specs.declared.context.Context.{Context}
use Rattle.k_plan.specs.declared.limits.Limits.{Limits}
use Rattle.k_plan.specs.Saving.{passes, saving}

-- context a stands above context k: it is k's parent, or stands above that; the root has none above it
pub data IsAbove (contexts : List Context) : ℕ → ℕ → Type 0 where
  next : (a k : ℕ) (c : Context) → 0 < k → slice_get contexts k ≡ Some c → c.parent ≡ a → IsAbove contexts a k
  further : (a k : ℕ) (c : Context) → 0 < k → slice_get contexts k ≡ Some c → IsAbove contexts a c.parent → IsAbove contexts a k

-- a set of contexts, as a test of their numbers
abbrev pub Choice : Type 0
Choice = ℕ → Bool

-- this number is that of a loop that passes
abbrev pub IsPassing : Limits → List Context → ℕ → Type 0
IsPassing limits contexts k = (c : Context) × (slice_get contexts k ≡ Some c) × IsTrue (passes limits (root_work contexts) c)

-- a choice is a set of passing loops none of which is above another
pub record IsChoice (limits : Limits) (contexts : List Context) (choice : Choice) : Type 0 where
  pub passing : (k : ℕ) → IsTrue (choice k) → IsPassing limits contexts k
  pub apart : (a k : ℕ) → IsTrue (choice a) → IsTrue (choice k) → ¬ IsAbove contexts a k

-- what the chosen ones of contexts save that are numbered from k on
abbrev pub total_from : ℕ → Choice → List Context → ℕ
total_from k choice [] = 0
total_from k choice (c ∷ contexts) = (if choice k then saving c else 0) + total_from (k + 1) choice contexts

-- what a choice saves: the sum of its savings
abbrev pub total : List Context → Choice → ℕ
total contexts choice = total_from 0 choice contexts
