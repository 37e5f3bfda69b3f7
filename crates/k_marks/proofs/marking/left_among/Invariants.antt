use Rattle.std.proofs.Common.{◌≡◌, ◌++◌, drop}
use Rattle.k_marks_meaning.specs.Marking.{left_among}
use Rattle.k_marks.proofs.marking.left_among.Given as goal

abbrev pub invariant-loop-statement : goal.invariant-loop-statement
invariant-loop-statement l = l.numbers.items ++ left_among (drop l.statement-index l.statements) ≡ left_among l.statements
