use Rattle.std.proofs.Common.{◌≡◌, ◌+◌, length}
use Rattle.k_scan.specs.Names.{name_span}
use Rattle.k_scan.proofs.names.name_span.Given as goal

abbrev pub invariant-loop-byte : goal.invariant-loop-byte
invariant-loop-byte l = record {
  counted : l.count + length l.rest ≡ length l.text;
  left : l.count + name_span l.rest ≡ name_span l.text;
}

abbrev pub decreases-loop-byte : goal.decreases-loop-byte
decreases-loop-byte l = length l.rest
