use Rattle.std.proofs.Common.{◌≡◌, [], length}
use Rattle.k_top_lemmas.proofs.Growing.{IsOnTheWay}
use Rattle.k_top.proofs.output.put_all.Given as goal

-- no fault so far, and what is left to put makes the whole
abbrev pub invariant-loop-rest : goal.invariant-loop-rest
invariant-loop-rest g l =
    let seen = g.K.Sink.seen in
    record {
      way : IsOnTheWay (seen l.fn.out).written l.bytes (seen l.out).written l.rest;
      faultless : (seen l.out).faults ≡ (seen l.fn.out).faults;
      some : l.bytes ≡ [] → l.rest ≡ [];
    }

abbrev pub decreases-loop-rest : goal.decreases-loop-rest
decreases-loop-rest g l = length l.rest
