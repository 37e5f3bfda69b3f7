use Rattle.std.proofs.Common.{◌≡◌, length}
use Rattle.k_hexadecimal.specs.Hexadecimal.{are_digits}
use Rattle.k_hexadecimal.proofs.hexadecimal.all_digits.Given as goal

abbrev pub invariant-loop-b : goal.invariant-loop-b
invariant-loop-b l = are_digits l.rest ≡ are_digits l.fn.text

abbrev pub decreases-loop-b : goal.decreases-loop-b
decreases-loop-b l = length l.rest
