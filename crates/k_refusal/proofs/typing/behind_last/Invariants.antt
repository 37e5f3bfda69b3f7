use Rattle.std.proofs.Common.{◌≡◌, length}
use Rattle.k_refusal.specs.Typing.{behind_last}
use Rattle.k_refusal.proofs.typing.behind_last.Given as goal

abbrev pub invariant-loop-byte : goal.invariant-loop-byte
invariant-loop-byte l = behind_last l.found l.rest ≡ behind_last l.text l.text

abbrev pub decreases-loop-byte : goal.decreases-loop-byte
decreases-loop-byte l = length l.rest
