use Rattle.std.proofs.Common.{◌≡◌, length}
use Rattle.k_scan.specs.Names.{are_in_name}
use Rattle.k_scan.proofs.names.are_in_name.Given as goal

abbrev pub invariant-loop-byte : goal.invariant-loop-byte
invariant-loop-byte l = are_in_name l.rest ≡ are_in_name l.text

abbrev pub decreases-loop-byte : goal.decreases-loop-byte
decreases-loop-byte l = length l.rest
