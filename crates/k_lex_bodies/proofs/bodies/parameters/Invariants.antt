use Rattle.std.proofs.Common.{◌≡◌, true, [], length}
use Rattle.k_lex_bodies.specs.Bodies.{parameters}
use Rattle.k_lex_bodies.proofs.bodies.parameters.Given as goal

abbrev pub invariant-loop-cut : goal.invariant-loop-cut
invariant-loop-cut l = parameters l.hash l.end l.named l.names l.rest ≡ parameters l.hash l.end true [] l.cuts

abbrev pub decreases-loop-cut : goal.decreases-loop-cut
decreases-loop-cut l = length l.rest
