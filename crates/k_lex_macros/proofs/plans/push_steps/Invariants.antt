use Rattle.std.proofs.Common.{◌≡◌, ◌++◌, length, reverse}
use Rattle.k_lex_macros.proofs.plans.push_steps.Given as goal

abbrev pub invariant-loop-step : goal.invariant-loop-step
invariant-loop-step l = l.stack.items ++ reverse l.rest ≡ l.fn.stack.items ++ reverse l.steps

abbrev pub decreases-loop-step : goal.decreases-loop-step
decreases-loop-step l = length l.rest
