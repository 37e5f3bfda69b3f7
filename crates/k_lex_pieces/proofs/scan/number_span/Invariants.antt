use Rattle.std.proofs.Common.{◌≡◌, ◌+◌, length}
use Rattle.k_lex_pieces.specs.Scans.{number_span}
use Rattle.k_lex_pieces.proofs.scan.number_span.Given as goal

abbrev pub invariant-loop-b : goal.invariant-loop-b
invariant-loop-b l = record {
  counted : l.count + length l.rest ≡ length l.text;
  left : l.count + number_span l.before l.rest ≡ number_span l.first l.text;
}

abbrev pub decreases-loop-b : goal.decreases-loop-b
decreases-loop-b l = length l.rest
