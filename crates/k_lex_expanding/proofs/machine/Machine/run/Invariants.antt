use Rattle.std.proofs.Common.{◌≤◌, Result, length}
use Rattle.k_lex_expansion.specs.declared.failure.Failure.{Failure}
use Rattle.k_lex_expansion.specs.Expansion.{Done}
use Rattle.k_lex_expanding.specs.Machine.{ComesTo, weight}
use Rattle.k_lex_expanding.proofs.machine.Machine.run.Given as goal

abbrev pub invariant-loop-failure : goal.invariant-loop-failure
invariant-loop-failure l = record {
  leads : (all : Result Done Failure) → ComesTo l.macros l.limit l.source l.ends l.self all → ComesTo l.macros l.limit l.source l.ends l.fn.self all;
  within : l.self.taken ≤ length l.source;
}

abbrev pub decreases-loop-failure : goal.decreases-loop-failure
decreases-loop-failure l = weight l.limit l.source l.self
