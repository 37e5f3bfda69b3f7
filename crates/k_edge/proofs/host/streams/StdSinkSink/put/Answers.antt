use Rattle.k_edge.proofs.Handed.{handed_whole}
use Rattle.k_edge.proofs.host.streams.StdSinkSink.put.Goals as goal
use Rattle.k_edge.proofs.host.streams.StdSinkSink.put.Goals.{else-write_whole-via-then-write_whole+else-is_ok, else-write_whole-via-else-write_whole}

-- the flush failed, or the writing
pub returns-clause-hands_inner : goal.returns-clause-hands_inner
returns-clause-hands_inner g c = elim c.else-write_whole.branch [
  | else-write_whole-via-then-write_whole+else-is_ok w ↦
      let whole = rw w.if-write_whole.true at c.write_whole.ensures in
      rw w.self-is (handed_whole _ _ _ _ whole w.flush.ensures.bytes)
  | else-write_whole-via-else-write_whole w ↦
      let part = rw w.if-write_whole.false at c.write_whole.ensures in
      rw w.self-is part
]
