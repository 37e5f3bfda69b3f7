use Rattle.std.proofs.Common.{◌≡◌, ◌+◌, false, length}
use Rattle.k_lex_pieces.specs.Scans.{close_at}
use Rattle.k_lex_pieces.proofs.scan.closing_quote.Given as goal

abbrev pub invariant-loop-b : goal.invariant-loop-b
invariant-loop-b l = record {
  counted : l.count + length l.rest ≡ length l.text;
  left : close_at l.quote l.escaped l.count l.rest ≡ close_at l.quote false 0 l.text;
}

abbrev pub decreases-loop-b : goal.decreases-loop-b
decreases-loop-b l = length l.rest
