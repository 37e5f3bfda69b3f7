use Rattle.std.proofs.Common.{◌≡◌, ◌+◌, ◌≤◌, ◌++◌, length}
use Rattle.k_lex_sources.specs.Splicing.{spliced, texts, places, source_of}
use Rattle.k_lex_sources.specs.Taking.{skip_of}
use Rattle.k_lex_sources.proofs.splicing.spliced.Given as goal

abbrev pub invariant-loop-b : goal.invariant-loop-b
invariant-loop-b l = record {
  text : l.made.text ++ texts (spliced (skip_of l.joined) l.place l.rest) ≡ texts (source_of l.source);
  places : l.made.places ++ places (spliced (skip_of l.joined) l.place l.rest) ≡ places (source_of l.source);
  short : length l.made.text + length l.rest ≤ length l.source;
  line : l.place.line + length l.rest ≤ 1 + length l.source;
  column : l.place.column + length l.rest ≤ 1 + length l.source;
}

abbrev pub decreases-loop-b : goal.decreases-loop-b
decreases-loop-b l = length l.rest
