use Rattle.std.proofs.Common.{◌≡◌, ◌+◌, ◌++◌, length}
use Rattle.k_advise_text.specs.Sources.{marks}
use Rattle.k_advise_text.proofs.sources.push_marks.Given as goal

abbrev pub invariant-loop-byte : goal.invariant-loop-byte
invariant-loop-byte l = record {
  counted : l.at + length l.rest ≡ 1 + length l.line;
  left : l.text.items ++ marks l.from l.to l.at l.rest ≡ l.fn.text.items ++ marks l.from l.to 1 l.line;
}

abbrev pub decreases-loop-byte : goal.decreases-loop-byte
decreases-loop-byte l = length l.rest
