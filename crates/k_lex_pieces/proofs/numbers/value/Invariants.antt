use Rattle.std.proofs.Common.{◌≡◌, length}
use Rattle.k_lex_pieces.specs.Numbers.{value}
use Rattle.k_lex_pieces.proofs.numbers.value.Given as goal

abbrev pub invariant-loop-digit : goal.invariant-loop-digit
invariant-loop-digit l = value l.base l.so_far l.rest ≡ value l.base 0 l.digits

abbrev pub decreases-loop-digit : goal.decreases-loop-digit
decreases-loop-digit l = length l.rest
