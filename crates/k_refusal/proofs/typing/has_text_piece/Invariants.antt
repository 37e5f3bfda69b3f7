use Rattle.std.proofs.Common.{◌≡◌, length}
use Rattle.k_refusal.specs.Typing.{has_text_piece}
use Rattle.k_refusal.proofs.typing.has_text_piece.Given as goal

abbrev pub invariant-loop-byte : goal.invariant-loop-byte
invariant-loop-byte l = has_text_piece l.rest ≡ has_text_piece l.text

abbrev pub decreases-loop-byte : goal.decreases-loop-byte
decreases-loop-byte l = length l.rest
