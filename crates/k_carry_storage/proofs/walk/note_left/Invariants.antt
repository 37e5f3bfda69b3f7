use Rattle.std.proofs.Common.{◌≡◌}
use Rattle.k_carry_storage.specs.Noting.{all_left}
use Rattle.k_carry_storage.proofs.walk.note_left.Given as goal

-- to leave the rest comes to what leaving all comes to
abbrev pub invariant-loop-rest : goal.invariant-loop-rest
invariant-loop-rest l = all_left l.fn.made l.rest l.gathering ≡ all_left l.fn.made l.fn.left l.initial.gathering

abbrev pub decreases-loop-rest : goal.decreases-loop-rest
decreases-loop-rest l = l.rest
