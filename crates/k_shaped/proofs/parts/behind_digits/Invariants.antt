use Rattle.std.proofs.Common.{◌≡◌, length}
use Rattle.std.specs.Char.{is_ascii_digit}
use Rattle.k_shaped.specs.Reading.{behind}
use Rattle.k_shaped.proofs.parts.behind_digits.Given as goal

abbrev pub invariant-loop-b : goal.invariant-loop-b
invariant-loop-b l = behind is_ascii_digit l.rest ≡ behind is_ascii_digit l.text

abbrev pub decreases-loop-b : goal.decreases-loop-b
decreases-loop-b l = length l.rest
