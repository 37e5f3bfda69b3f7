use Rattle.std.proofs.Common.{◌≡◌, ◌++◌, length}
use Rattle.k_lex_expansion.proofs.calls.stack_of.Given as goal

abbrev pub invariant-loop-argument : goal.invariant-loop-argument
invariant-loop-argument l = l.arguments ++ l.stack ≡ l.fn.arguments

abbrev pub decreases-loop-argument : goal.decreases-loop-argument
decreases-loop-argument l = length l.arguments
