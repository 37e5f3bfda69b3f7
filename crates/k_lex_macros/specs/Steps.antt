-- For contracts between crates: nobody has to believe it.
-- How the code keeps what a macro is replaced by.
use Rattle.std.specs.Prelude.{ℕ, ◌+◌, ◌-◌, ◌^◌, min, List, [], ◌∷◌, ◌++◌, Option, Some, None}
use Rattle.k_lex_macros.specs.declared.plans.Step.{Step}
use Rattle.k_lex_macros.specs.declared.plans.Step.TheVariants as s
use Rattle.k_lex_macros.specs.declared.plans.Plan.{Plan}

-- the greatest number that a count holds
abbrev pub greatest : ℕ
greatest = 2 ^ 64 - 1

-- the step that stands for a macro of these steps: its only step, or all that it is replaced by
abbrev pub step_of : ℕ → List Step → Option Step
step_of number [] = None
step_of number (step ∷ []) = Some step
step_of number (a ∷ b ∷ steps) = Some (s.Whole number)

-- the list with one step more, if there is one
abbrev pub with_step : List Step → Option Step → List Step
with_step steps None = steps
with_step steps (Some step) = steps ++ step ∷ []

-- the plan with a token of a body more
abbrev pub with_token : Plan → ℕ → ℕ → ℕ → Plan
with_token plan number at size = record {
  steps = plan.steps ++ s.Token number at ∷ [];
  count = min (plan.count + 1) greatest;
  bytes = min (plan.bytes + size) greatest;
}

-- the plan with a macro more
abbrev pub with_macro : Plan → ℕ → Plan → Plan
with_macro plan number other = record {
  steps = with_step plan.steps (step_of number other.steps);
  count = min (plan.count + other.count) greatest;
  bytes = min (plan.bytes + other.bytes) greatest;
}
