use Rattle.std.proofs.Common.{◌≡◌, length}
use Rattle.k_lex_pieces.specs.Numbers.{first_kind}
use Rattle.k_lex_pieces.proofs.numbers.first_of.Given as goal

abbrev pub invariant-loop-kind : goal.invariant-loop-kind
invariant-loop-kind l = first_kind l.rest l.value ≡ first_kind l.kinds l.value

abbrev pub decreases-loop-kind : goal.decreases-loop-kind
decreases-loop-kind l = length l.rest
