use Rattle.std.proofs.Common.{◌≡◌, ◌+◌, ◌≤◌, length}
use Rattle.k_lex_pieces.specs.Splices.{splice_in}
use Rattle.k_lex_pieces.proofs.splices.splice_in.Given as goal

abbrev pub invariant-loop-b : goal.invariant-loop-b
invariant-loop-b l = record {
  found : splice_in l.place l.left l.rest ≡ splice_in l.fn.place l.count l.text;
  fewer : l.left ≤ l.count;
  line : l.place.line + l.left ≤ l.fn.place.line + l.count;
  column : l.place.column + l.left ≤ l.fn.place.column + l.count;
}

abbrev pub decreases-loop-b : goal.decreases-loop-b
decreases-loop-b l = length l.rest
