use Rattle.std.proofs.Common.{take}
use Rattle.k_replay.specs.Kept.{Notes}
use Rattle.k_replay.proofs.users.note.Given as goal

abbrev pub invariant-loop-operand : goal.invariant-loop-operand
invariant-loop-operand l = Notes l.fn.users.items l.users.items (take l.operand-index l.operands) l.k
