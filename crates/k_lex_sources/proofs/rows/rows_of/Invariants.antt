use Rattle.std.proofs.Common.{◌≡◌, ◌≤◌, ◌++◌, false, [], length}
use Rattle.k_lex_sources.specs.Rows.{rows_from}
use Rattle.k_lex_sources.proofs.rows.rows_of.Given as goal

abbrev pub invariant-loop-rest : goal.invariant-loop-rest
invariant-loop-rest l = record {
  left : l.reading.rows ++ rows_from l.unread 0 l.reading.cuts l.reading.spaced l.rest l.there ≡ rows_from l.unread 0 [] false l.text l.places;
  short : length l.rest ≤ length l.text;
}

abbrev pub decreases-loop-rest : goal.decreases-loop-rest
decreases-loop-rest l = length l.rest
