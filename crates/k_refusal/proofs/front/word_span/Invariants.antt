use Rattle.std.proofs.Common.{◌≡◌, ◌+◌, length}
use Rattle.k_refusal.specs.Fronts.{in_word, span}
use Rattle.k_refusal.proofs.front.word_span.Given as goal

abbrev pub invariant-loop-byte : goal.invariant-loop-byte
invariant-loop-byte l = record {
  counted : l.count + length l.rest ≡ length l.text;
  left : l.count + span in_word l.rest ≡ span in_word l.text;
}

abbrev pub decreases-loop-byte : goal.decreases-loop-byte
decreases-loop-byte l = length l.rest
