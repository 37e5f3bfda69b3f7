use Rattle.std.proofs.Common.{◌≡◌, length}
use Rattle.k_scan.specs.Numbers.{digits_at}
use Rattle.k_scan.proofs.numbers.digits.Given as goal

abbrev pub invariant-loop-byte : goal.invariant-loop-byte
invariant-loop-byte l = digits_at l.value l.rest ≡ digits_at l.first l.text

abbrev pub decreases-loop-byte : goal.decreases-loop-byte
decreases-loop-byte l = length l.rest
