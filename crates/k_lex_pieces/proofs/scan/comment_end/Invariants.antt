use Rattle.std.proofs.Common.{◌≡◌, ◌+◌, false, length}
use Rattle.k_lex_pieces.specs.Scans.{comment_at}
use Rattle.k_lex_pieces.proofs.scan.comment_end.Given as goal

abbrev pub invariant-loop-b : goal.invariant-loop-b
invariant-loop-b l = record {
  counted : l.count + length l.rest ≡ length l.text;
  left : comment_at l.star l.count l.rest ≡ comment_at false 0 l.text;
}

abbrev pub decreases-loop-b : goal.decreases-loop-b
decreases-loop-b l = length l.rest
