use Rattle.std.proofs.Common.{◌≡◌, ◌+◌, length}
use Rattle.k_lex_pieces.specs.Scans.{header_at}
use Rattle.k_lex_pieces.proofs.scan.header_end.Given as goal

abbrev pub invariant-loop-b : goal.invariant-loop-b
invariant-loop-b l = record {
  counted : l.count + length l.rest ≡ length l.text;
  left : header_at l.count l.rest ≡ header_at 0 l.text;
}

abbrev pub decreases-loop-b : goal.decreases-loop-b
decreases-loop-b l = length l.rest
