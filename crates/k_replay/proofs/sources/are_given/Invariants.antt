use Rattle.std.proofs.Common.{◌≡◌, drop}
use Rattle.k_replay.specs.Plays.{are_given}
use Rattle.k_replay.proofs.sources.are_given.Given as goal

abbrev pub invariant-loop-operand : goal.invariant-loop-operand
invariant-loop-operand l = are_given l.values (drop l.operand-index l.operands) ≡ are_given l.values l.operands
