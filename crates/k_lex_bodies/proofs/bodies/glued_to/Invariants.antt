use Rattle.std.proofs.Common.{◌≡◌, ◌++◌, drop}
use Rattle.k_lex_bodies.specs.Bodies.{glued_to}
use Rattle.k_lex_bodies.proofs.bodies.glued_to.Given as goal

abbrev pub invariant-loop-part : goal.invariant-loop-part
invariant-loop-part l = l.more ++ glued_to (drop l.part-index l.parts) ≡ glued_to l.parts
