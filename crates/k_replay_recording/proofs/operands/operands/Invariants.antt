use Rattle.std.proofs.Common.{◌≡◌, map, take}
use Rattle.k_world.specs.declared.value.Read.{Read}
use Rattle.k_replay_recording.specs.Steps.{operand_of}
use Rattle.k_replay_recording.proofs.operands.operands.Given as goal

abbrev pub invariant-loop-read : goal.invariant-loop-read
invariant-loop-read l = l.list ≡ map (λ (r : Read). operand_of r.slot) (take l.read-index l.reads)
