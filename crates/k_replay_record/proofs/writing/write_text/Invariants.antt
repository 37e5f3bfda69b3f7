use Rattle.std.proofs.Common.{◌≡◌, ◌++◌, drop}
use Rattle.k_replay_record.specs.Acts.{text_of}
use Rattle.k_replay_record.proofs.writing.write_text.Given as goal

abbrev pub invariant-loop-piece : goal.invariant-loop-piece
invariant-loop-piece l = l.bytes.items ++ text_of (drop l.piece-index l.pieces) l.values ≡ l.fn.bytes.items ++ text_of l.pieces l.values
