-- Believed with a public law.
-- *Threaded plan*: the one choice of loops that saves the most with a team of threads.
use Rattle.std.specs.Prelude.{ℕ, ◌+◌, ◌-◌, ◌≡◌, ◌≤◌, Bool, IsTrue, List, [], ◌∷◌, Some, slice_get, if◌then◌else◌}
use Rattle.k_selfpar.specs.Contexts.{root_work}
use Rattle.k_selfpar.specs.Ratio.{IsRatio}
use Rattle.k_selfpar.specs.declared.context.Context.{Context}
use Rattle.k_plan.specs.Choices.{Choice, IsAbove}
use Rattle.k_advise_plan.specs.declared.plan.ThreadedPick.{ThreadedPick}
use Rattle.k_advise_plan.specs.declared.plan.ThreadedPlan.{ThreadedPlan}
use Rattle.k_advise_plan.specs.declared.team.Team.{Team}
use Rattle.k_advise_plan.specs.Saving.{passes, threaded_saving}

-- this number is that of a loop that passes
abbrev pub IsPassing : Team → (ℕ → Bool) → List Context → ℕ → Type 0
IsPassing team carries contexts k = (c : Context) × (slice_get contexts k ≡ Some c) × IsTrue (passes team carries (root_work contexts) c)

-- a choice is a set of passing loops none of which is above another
pub record IsThreadedChoice (team : Team) (carries : ℕ → Bool) (contexts : List Context) (choice : Choice) : Type 0 where
  pub passing : (k : ℕ) → IsTrue (choice k) → IsPassing team carries contexts k
  pub apart : (a k : ℕ) → IsTrue (choice a) → IsTrue (choice k) → ¬ IsAbove contexts a k

-- what the chosen ones of contexts save together that are numbered from k on, where each saves so much
abbrev pub total_from : (Context → ℕ) → ℕ → Choice → List Context → ℕ
total_from saves k choice [] = 0
total_from saves k choice (c ∷ contexts) = (if choice k then saves c else 0) + total_from saves (k + 1) choice contexts

-- what a choice saves: the sum of its savings
abbrev pub total : Team → List Context → Choice → ℕ
total team contexts choice = total_from (threaded_saving team) 0 choice contexts

-- a plan is a choice than which none saves more; and where a passing loop has no pick above it, and no choice below it saves
-- more than it does, then it is a pick
pub record IsThreadedPlan (team : Team) (carries : ℕ → Bool) (contexts : List Context) (plan : Choice) : Type 0 where
  pub choice : IsThreadedChoice team carries contexts plan
  pub greatest : (other : Choice) → IsThreadedChoice team carries contexts other → total team contexts other ≤ total team contexts plan
  pub tie : (k : ℕ) (c : Context) → slice_get contexts k ≡ Some c → IsTrue (passes team carries (root_work contexts) c)
      → ((a : ℕ) → IsTrue (plan a) → ¬ IsAbove contexts a k)
      → ((below : Choice) → IsThreadedChoice team carries contexts below → ((b : ℕ) → IsTrue (below b) → IsAbove contexts k b)
      → total team contexts below ≤ threaded_saving team c)
      → IsTrue (plan k)

-- a pick of this context that saves so much
abbrev pub threaded_pick : ℕ → ℕ → ThreadedPick
threaded_pick k saves = record { context = k; saves = saves }

-- the pick of a context
abbrev pub pick_with : Team → ℕ → Context → ThreadedPick
pick_with team k c = threaded_pick k (threaded_saving team c)

-- the picks of the chosen ones of contexts that are numbered from k on, in their order
abbrev pub picks_from : Team → ℕ → Choice → List Context → List ThreadedPick
picks_from team k choice [] = []
picks_from team k choice (c ∷ contexts) = if choice k then pick_with team k c ∷ picks_from team (k + 1) choice contexts else picks_from team (k + 1) choice contexts

-- a plan is told: its picks in order of context, and what they save together
pub record TellsPlan (team : Team) (carries : ℕ → Bool) (contexts : List Context) (told : ThreadedPlan) : Type 0 where
  pub plan : Choice
  pub is_plan : IsThreadedPlan team carries contexts plan
  pub picks : told.picks ≡ picks_from team 0 plan contexts
  pub total : told.total ≡ total team contexts plan

-- what a plan gains: the total work over what is left of it, in lowest terms; 1/1 where nothing is left
abbrev pub IsGain : ℕ → ℕ → ℕ × ℕ → Type 0
IsGain work saved gain = IsRatio work (work - saved) gain.0 gain.1
