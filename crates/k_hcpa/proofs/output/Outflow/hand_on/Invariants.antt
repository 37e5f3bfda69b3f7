use Rattle.std.proofs.Common.{◌+◌, length}
use Rattle.k_hcpa.proofs.Moving.{IsPassing}
use Rattle.k_hcpa.proofs.output.Outflow.hand_on.Given as goal

-- what was taken off the bytes so far was handed on
abbrev pub invariant-loop-rest : goal.invariant-loop-rest
invariant-loop-rest g l =
    let seen = g.K.Sink.seen in
    IsPassing l.fn.self l.bytes l.rest l.self (seen l.fn.out) (seen l.out)

abbrev pub decreases-loop-rest : goal.decreases-loop-rest
decreases-loop-rest g l = length l.rest + length l.self.held.items
