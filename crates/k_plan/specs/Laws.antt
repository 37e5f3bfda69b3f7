-- Believed with a public law.
-- What holds of plans: the statements of the laws.
use Rattle.std.specs.Prelude.{ℕ, ◌*◌, ◌≡◌, ◌<◌, ◌≤◌, List, sum_by}
use Rattle.std.specs.Int.{div_ceil}
use Rattle.k_plan.specs.declared.advice.Advice.{Advice}
use Rattle.k_selfpar.specs.declared.context.Context.{Context}
use Rattle.k_plan.specs.declared.limits.Limits.{Limits}
use Rattle.k_plan.specs.Choices.{Choice, IsChoice, total}
use Rattle.k_selfpar.specs.Contexts.{root_work}
use Rattle.k_plan.specs.Plan.{CanPlan, IsAdvice, IsPlan}

-- contexts that have a plan have one
abbrev pub PlanExists : Type 0
PlanExists = (limits : Limits) (contexts : List Context) → CanPlan contexts → (plan : Choice) × IsPlan limits contexts plan

-- and no other
abbrev pub PlanIsUnique : Type 0
PlanIsUnique = (limits : Limits) (contexts : List Context) (one other : Choice) → CanPlan contexts → IsPlan limits contexts one → IsPlan limits contexts other
    → (k : ℕ) → one k ≡ other k

-- so there is one advice
abbrev pub AdviceIsUnique : Type 0
AdviceIsUnique = (limits : Limits) (contexts : List Context) (one other : Advice) → CanPlan contexts → IsAdvice limits contexts one → IsAdvice limits contexts other
    → one ≡ other

-- its total is what its picks save together
abbrev pub AdviceAddsUp : Type 0
AdviceAddsUp = (limits : Limits) (contexts : List Context) (advice : Advice) → IsAdvice limits contexts advice
    → advice.total ≡ sum_by (λ pick. pick.saves) advice.picks

-- no choice saves more than the root's work
abbrev pub ChoicesSaveAtMostTheWork : Type 0
ChoicesSaveAtMostTheWork = (limits : Limits) (contexts : List Context) (choice : Choice) → CanPlan contexts → IsChoice limits contexts choice
    → total contexts choice ≤ root_work contexts

-- a number divided by another, rounded up, is the least whole number that is no less than the quotient
abbrev pub RoundsUp : Type 0
RoundsUp = (a b n : ℕ) → 0 < b → (div_ceil a b ≤ n → a ≤ n * b) × (a ≤ n * b → div_ceil a b ≤ n)
