use Rattle.std.proofs.Common.{◌≡◌, length}
use Rattle.k_refusal.specs.Typing.{stars_at_end}
use Rattle.k_refusal.proofs.typing.stars_at_end.Given as goal

abbrev pub invariant-loop-byte : goal.invariant-loop-byte
invariant-loop-byte l = stars_at_end l.stars l.rest ≡ stars_at_end 0 l.text

abbrev pub decreases-loop-byte : goal.decreases-loop-byte
decreases-loop-byte l = length l.rest
