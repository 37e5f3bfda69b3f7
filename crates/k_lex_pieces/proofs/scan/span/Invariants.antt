use Rattle.std.proofs.Common.{◌≡◌, ◌+◌, length}
use Rattle.k_lex_pieces.specs.Bytes.{span}
use Rattle.k_lex_pieces.specs.Scans.{is_in}
use Rattle.k_lex_pieces.proofs.scan.span.Given as goal

abbrev pub invariant-loop-b : goal.invariant-loop-b
invariant-loop-b l = record {
  counted : l.count + length l.rest ≡ length l.text;
  left : l.count + span (is_in l.class) l.rest ≡ span (is_in l.class) l.text;
}

abbrev pub decreases-loop-b : goal.decreases-loop-b
decreases-loop-b l = length l.rest
