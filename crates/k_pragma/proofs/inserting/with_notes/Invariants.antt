use Rattle.std.proofs.Common.{◌≡◌, ◌≤◌, ◌+◌, ◌++◌, length}
use Rattle.k_pragma.specs.Insertions.{beginning, with_notes}
use Rattle.k_pragma.proofs.inserting.with_notes.Given as goal

abbrev pub invariant-loop-byte : goal.invariant-loop-byte
invariant-loop-byte l = record {
  line : l.place.line + length l.rest ≤ 1048577;
  column : l.place.column + length l.rest ≤ 1048577;
  left : l.text.items ++ with_notes l.notes l.place l.before l.rest ≡ with_notes l.notes beginning 0 l.source;
}

abbrev pub decreases-loop-byte : goal.decreases-loop-byte
decreases-loop-byte l = length l.rest
