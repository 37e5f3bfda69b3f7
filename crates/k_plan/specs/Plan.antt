-- Believed with the theorem on the top call.
-- *Plan*: the one choice of loops that saves the most.
use Rattle.std.specs.Prelude.{ℕ, ◌+◌, ◌≡◌, ◌≤◌, IsTrue, List, [], ◌∷◌, Some, slice_get, if◌then◌else◌}
use Rattle.k_plan.specs.declared.advice.Advice.{Advice}
use Rattle.k_plan.specs.declared.advice.Pick.{Pick}
use Rattle.k_selfpar.specs.declared.context.Context.{Context}
use Rattle.k_plan.specs.declared.limits.Limits.{Limits}
use Rattle.k_plan.specs.Choices.{Choice, IsAbove, IsChoice, total}
use Rattle.k_selfpar.specs.Contexts.{root_work}
use Rattle.k_plan.specs.Saving.{is_doall, passes, saving}
pub use Rattle.k_selfpar.specs.Nested.{CanPlan, ParentsComeFirst, StandBehindParents, behind_root, works_under}

-- a plan is a choice than which none saves more; and where a passing loop has no pick above it, and no choice below it saves
-- more than it does, then it is a pick
pub record IsPlan (limits : Limits) (contexts : List Context) (plan : Choice) : Type 0 where
  pub choice : IsChoice limits contexts plan
  pub greatest : (other : Choice) → IsChoice limits contexts other → total contexts other ≤ total contexts plan
  pub tie : (k : ℕ) (c : Context) → slice_get contexts k ≡ Some c → IsTrue (passes limits (root_work contexts) c)
      → ((a : ℕ) → IsTrue (plan a) → ¬ IsAbove contexts a k)
      → ((below : Choice) → IsChoice limits contexts below → ((b : ℕ) → IsTrue (below b) → IsAbove contexts k b) → total contexts below ≤ saving c)
      → IsTrue (plan k)

-- the pick of a context
abbrev pub pick_of : ℕ → Context → Pick
pick_of k c = record { context = k; doall = is_doall c; saves = saving c }

-- the picks of the chosen ones of contexts that are numbered from k on, in their order
abbrev pub picks_from : ℕ → Choice → List Context → List Pick
picks_from k choice [] = []
picks_from k choice (c ∷ contexts) = if choice k then pick_of k c ∷ picks_from (k + 1) choice contexts else picks_from (k + 1) choice contexts

-- the advice tells a plan of these contexts: its picks in order of context, and what they save together
pub record IsAdvice (limits : Limits) (contexts : List Context) (advice : Advice) : Type 0 where
  pub plan : Choice
  pub is_plan : IsPlan limits contexts plan
  pub picks : advice.picks ≡ picks_from 0 plan contexts
  pub total : advice.total ≡ total contexts plan
