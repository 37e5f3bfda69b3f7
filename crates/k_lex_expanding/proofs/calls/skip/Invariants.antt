use Rattle.std.proofs.Common.{◌≤◌, length}
use Rattle.k_lex_expanding.specs.Arguments.{Passes}
use Rattle.k_lex_expanding.proofs.calls.skip.Given as goal

abbrev pub invariant-loop-written : goal.invariant-loop-written
invariant-loop-written l = record {
  passes : Passes l.body l.fn.complete l.fn.waiting l.complete l.waiting;
  short : length l.waiting ≤ length l.fn.waiting;
}

abbrev pub decreases-loop-written : goal.decreases-loop-written
decreases-loop-written l = length l.waiting
