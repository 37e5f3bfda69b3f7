use Rattle.std.proofs.Common.{◌≡◌, length}
use Rattle.k_shaped.specs.Spelling.{is_flag}
use Rattle.k_shaped.specs.Reading.{behind}
use Rattle.k_shaped.proofs.parts.behind_flags.Given as goal

abbrev pub invariant-loop-b : goal.invariant-loop-b
invariant-loop-b l = behind is_flag l.rest ≡ behind is_flag l.text

abbrev pub decreases-loop-b : goal.decreases-loop-b
decreases-loop-b l = length l.rest
