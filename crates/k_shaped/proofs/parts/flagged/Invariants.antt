use Rattle.std.proofs.Common.{◌≡◌, length}
use Rattle.k_shaped.specs.Spelling.{has, is_flag}
use Rattle.k_shaped.specs.Reading.{front}
use Rattle.k_shaped.proofs.parts.flagged.Given as goal

abbrev pub invariant-loop-b : goal.invariant-loop-b
invariant-loop-b l = has l.flag (front is_flag l.rest) ≡ has l.flag (front is_flag l.text)

abbrev pub decreases-loop-b : goal.decreases-loop-b
decreases-loop-b l = length l.rest
