use Rattle.std.proofs.Common.{◌≡◌, map, take}
use Rattle.std.specs.Prelude.{slice_get}
use Rattle.k_replay_record.specs.Serial.{operand_value}
use Rattle.k_replay_record.proofs.recorder.read.Given as goal

abbrev pub invariant-loop-from : goal.invariant-loop-from
invariant-loop-from l = l.read.items ≡ map (operand_value (slice_get l.values)) (take l.from-index l.operands)
