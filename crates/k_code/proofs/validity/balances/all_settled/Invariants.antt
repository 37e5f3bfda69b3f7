use Rattle.k_code.specs.Decides.{Knows}
use Rattle.k_code.proofs.validity.balances.all_settled.Given as goal

abbrev pub invariant-loop-k : goal.invariant-loop-k
invariant-loop-k l = Knows l.entry l.instrs l.k l.before
