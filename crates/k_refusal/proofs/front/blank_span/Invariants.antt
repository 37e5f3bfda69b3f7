use Rattle.std.proofs.Common.{◌≡◌, ◌+◌, length}
use Rattle.k_refusal.specs.Fronts.{is_blank, span}
use Rattle.k_refusal.proofs.front.blank_span.Given as goal

abbrev pub invariant-loop-byte : goal.invariant-loop-byte
invariant-loop-byte l = record {
  counted : l.count + length l.rest ≡ length l.text;
  left : l.count + span is_blank l.rest ≡ span is_blank l.text;
}

abbrev pub decreases-loop-byte : goal.decreases-loop-byte
decreases-loop-byte l = length l.rest
