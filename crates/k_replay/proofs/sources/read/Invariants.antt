use Rattle.std.proofs.Common.{◌≡◌, map, take}
use Rattle.k_replay_record.specs.Serial.{operand_value}
use Rattle.k_replay.specs.Plays.{given_in}
use Rattle.k_replay.proofs.sources.read.Given as goal

abbrev pub invariant-loop-from : goal.invariant-loop-from
invariant-loop-from l = l.read.items ≡ map (operand_value (given_in l.values)) (take l.from-index l.operands)
