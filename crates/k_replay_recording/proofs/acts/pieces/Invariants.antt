use Rattle.std.proofs.Common.{◌≡◌, ◌++◌, drop}
use Rattle.k_replay_recording.specs.Steps.{pieces}
use Rattle.k_replay_recording.proofs.acts.pieces.Given as goal

abbrev pub invariant-loop-chunk : goal.invariant-loop-chunk
invariant-loop-chunk l = l.list ++ pieces l.next (drop l.chunk-index l.chunks) ≡ pieces 0 l.chunks
