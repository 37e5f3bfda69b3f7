use Rattle.std.proofs.Common.{◌≡◌, length}
use Rattle.k_lex_bodies.specs.declared.bodies.Glue.TheVariants as g
use Rattle.k_lex_bodies.specs.Bodies.{parts_from}
use Rattle.k_lex_bodies.specs.Taking.{prepended}
use Rattle.k_lex_bodies.proofs.bodies.parts_of.Given as goal

abbrev pub invariant-loop-cut : goal.invariant-loop-cut
invariant-loop-cut l = prepended l.parts (parts_from l.it l.names l.stand.0 l.stand.1 l.rest) ≡ parts_from l.it l.names g.First 0 l.cuts

abbrev pub decreases-loop-cut : goal.decreases-loop-cut
decreases-loop-cut l = length l.rest
