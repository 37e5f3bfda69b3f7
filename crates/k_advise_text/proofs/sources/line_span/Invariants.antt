use Rattle.std.proofs.Common.{◌≡◌, ◌+◌, length}
use Rattle.k_advise_text.specs.Sources.{line_span}
use Rattle.k_advise_text.proofs.sources.line_span.Given as goal

abbrev pub invariant-loop-byte : goal.invariant-loop-byte
invariant-loop-byte l = record {
  counted : l.count + length l.rest ≡ length l.text;
  left : l.count + line_span l.rest ≡ line_span l.text;
}

abbrev pub decreases-loop-byte : goal.decreases-loop-byte
decreases-loop-byte l = length l.rest
