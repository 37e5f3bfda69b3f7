use Rattle.std.proofs.Common.{◌≡◌, length}
use Rattle.k_lex_macros.specs.Macros.{same_body}
use Rattle.k_lex_macros.proofs.macros.same_body.Given as goal

abbrev pub invariant-loop-x : goal.invariant-loop-x
invariant-loop-x l = same_body l.left l.right ≡ same_body l.a l.b

abbrev pub decreases-loop-x : goal.decreases-loop-x
decreases-loop-x l = length l.left
