use Rattle.std.proofs.Common.{◌≡◌, ◌+◌, ◌≤◌, length}
use Rattle.k_lex_pieces.specs.Bytes.{behind}
use Rattle.k_lex_pieces.proofs.bytes.behind.Given as goal

abbrev pub invariant-loop-b : goal.invariant-loop-b
invariant-loop-b l = record {
  left : behind l.place l.rest ≡ behind l.fn.place l.bytes;
  shorter : length l.rest ≤ length l.bytes;
  line : l.place.line + length l.rest ≤ l.fn.place.line + length l.bytes;
  column : l.place.column + length l.rest ≤ l.fn.place.column + length l.bytes;
}

abbrev pub decreases-loop-b : goal.decreases-loop-b
decreases-loop-b l = length l.rest
