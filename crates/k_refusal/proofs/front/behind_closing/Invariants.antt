use Rattle.std.proofs.Common.{◌≡◌, length}
use Rattle.k_refusal.specs.Fronts.{behind_closing}
use Rattle.k_refusal.proofs.front.behind_closing.Given as goal

abbrev pub invariant-loop-byte : goal.invariant-loop-byte
invariant-loop-byte l = behind_closing l.rest ≡ behind_closing l.text

abbrev pub decreases-loop-byte : goal.decreases-loop-byte
decreases-loop-byte l = length l.rest
