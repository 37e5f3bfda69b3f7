use Rattle.std.proofs.Common.{◌≡◌, drop}
use Rattle.k_marks.specs.Flags.{raised}
use Rattle.k_marks.proofs.flags.raise.Given as goal

abbrev pub invariant-loop-number : goal.invariant-loop-number
invariant-loop-number l = raised (drop l.number-index l.numbers) l.list ≡ raised l.numbers l.fn.list
