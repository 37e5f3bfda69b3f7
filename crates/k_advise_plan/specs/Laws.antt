-- Believed with a public law.
-- What holds of plans for a team of threads: the statements of the laws.
use Rattle.std.specs.Prelude.{ℕ, ◌*◌, ◌≡◌, ◌<◌, ◌≤◌, Bool, List}
use Rattle.k_selfpar.specs.Contexts.{root_work}
use Rattle.k_selfpar.specs.declared.context.Context.{Context}
use Rattle.k_plan.specs.Choices.{Choice}
use Rattle.k_plan.specs.Plan.{CanPlan}
use Rattle.k_plan.specs.Saving.{saving}
use Rattle.k_advise_plan.specs.declared.team.Team.{Team}
use Rattle.k_advise_plan.specs.Plan.{IsThreadedChoice, IsThreadedPlan, total}
use Rattle.k_advise_plan.specs.Saving.{threaded_saving}

-- so many threads, and a start of this price
abbrev pub team_of : ℕ → ℕ → Team
team_of threads start = record { threads = threads; start = start }

-- contexts that have a plan have one for each team
abbrev pub PlanExists : Type 0
PlanExists = (team : Team) (carries : ℕ → Bool) (contexts : List Context) → CanPlan contexts → (plan : Choice) × IsThreadedPlan team carries contexts plan

-- and no other
abbrev pub PlanIsUnique : Type 0
PlanIsUnique = (team : Team) (carries : ℕ → Bool) (contexts : List Context) (one other : Choice) → CanPlan contexts
    → IsThreadedPlan team carries contexts one → IsThreadedPlan team carries contexts other → (k : ℕ) → one k ≡ other k

-- with more threads than its self-parallelism, and starts that are free, a context saves what it saves by its self-parallelism
abbrev pub AboveIsTodays : Type 0
AboveIsTodays = (threads : ℕ) (c : Context) → c.sp.0 < threads * c.sp.1 → threaded_saving (team_of threads 0) c ≡ saving c

-- where a start has a higher price no context saves more
abbrev pub MoreStartSavesNoMore : Type 0
MoreStartSavesNoMore = (threads less more : ℕ) (c : Context) → less ≤ more
    → threaded_saving (team_of threads more) c ≤ threaded_saving (team_of threads less) c

-- with more threads no context saves less
abbrev pub MoreThreadsSaveNoLess : Type 0
MoreThreadsSaveNoLess = (fewer more start : ℕ) (c : Context) → fewer ≤ more
    → threaded_saving (team_of fewer start) c ≤ threaded_saving (team_of more start) c

-- an outer loop and an inner one of the same self-parallelism: the inner one has no more work, and is begun no more seldom
pub record IsOuter (outer inner : Context) : Type 0 where
  pub sp : inner.sp ≡ outer.sp
  pub work : inner.work ≤ outer.work
  pub instances : outer.instances ≤ inner.instances

-- the outer one saves no less
abbrev pub OuterSavesNoLess : Type 0
OuterSavesNoLess = (team : Team) (outer inner : Context) → IsOuter outer inner → threaded_saving team inner ≤ threaded_saving team outer

-- and where starts have a price, the outer one is begun more seldom, and saves something, it saves more
abbrev pub OuterWins : Type 0
OuterWins = (team : Team) (outer inner : Context) → IsOuter outer inner → 0 < team.start → outer.instances < inner.instances
    → 0 < threaded_saving team outer → threaded_saving team inner < threaded_saving team outer

-- in a run with work each choice saves less than the work
abbrev pub SavesLessThanTheWork : Type 0
SavesLessThanTheWork = (team : Team) (carries : ℕ → Bool) (contexts : List Context) (choice : Choice) → CanPlan contexts
    → IsThreadedChoice team carries contexts choice → 0 < root_work contexts → total team contexts choice < root_work contexts
