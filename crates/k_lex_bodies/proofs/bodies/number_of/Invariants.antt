use Rattle.std.proofs.Common.{◌≡◌, ◌+◌, length}
use Rattle.k_lex_bodies.specs.Bodies.{number_from}
use Rattle.k_lex_bodies.proofs.bodies.number_of.Given as goal

abbrev pub invariant-loop-one : goal.invariant-loop-one
invariant-loop-one l = record {
  counted : l.count + length l.rest ≡ length l.names;
  left : number_from l.count l.rest l.name ≡ number_from 0 l.names l.name;
}

abbrev pub decreases-loop-one : goal.decreases-loop-one
decreases-loop-one l = length l.rest
