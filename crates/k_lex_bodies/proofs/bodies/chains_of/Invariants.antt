use Rattle.std.proofs.Common.{◌≡◌, ◌++◌, length}
use Rattle.k_lex_bodies.specs.Bodies.{chains}
use Rattle.k_lex_bodies.proofs.bodies.chains_of.Given as goal

abbrev pub invariant-loop-part : goal.invariant-loop-part
invariant-loop-part l = l.chains ++ chains l.rest ≡ chains l.parts

abbrev pub decreases-loop-part : goal.decreases-loop-part
decreases-loop-part l = length l.rest
