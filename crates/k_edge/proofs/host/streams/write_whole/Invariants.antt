use Rattle.k_edge.proofs.Handed.{HandedSoFar}
use Rattle.k_edge.proofs.host.streams.write_whole.Given as goal

-- what was written so far and what is left are the piece
abbrev pub invariant-tries : goal.invariant-tries
invariant-tries g l = HandedSoFar l.piece l.rest (g.W.Write.contents l.fn.writer) (g.W.Write.contents l.writer)
