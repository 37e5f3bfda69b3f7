use Rattle.std.proofs.Common.{◌≡◌, length}
use Rattle.k_lex_conditions.specs.Reading.{values, reduced}
use Rattle.k_lex_conditions.proofs.reading.reduced.Given as goal

abbrev pub invariant-loop-around : goal.invariant-loop-around
invariant-loop-around l = reduced values l.least l.opens l.value ≡ reduced values l.least l.fn.opens l.fn.operand

abbrev pub decreases-loop-around : goal.decreases-loop-around
decreases-loop-around l = length l.opens
