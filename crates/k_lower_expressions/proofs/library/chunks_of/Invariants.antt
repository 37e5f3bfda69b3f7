use Rattle.std.proofs.Common.{◌≡◌, ◌++◌, drop, map}
use Rattle.k_evaluation.specs.Library.{chunk_of}
use Rattle.k_lower_expressions.proofs.library.chunks_of.Given as goal

abbrev pub invariant-loop-piece : goal.invariant-loop-piece
invariant-loop-piece l = l.chunks ++ map chunk_of (drop l.piece-index l.piece-items) ≡ map chunk_of l.format
