use Rattle.k_types_declarations.proofs.SizesLaws.{Judges}
use Rattle.k_types_declarations.proofs.dimension.dimensions.Given as goal

abbrev pub invariant-loop-dim : goal.invariant-loop-dim
invariant-loop-dim l = Judges l.names l.dim-items l.dim-index l.list l.fn.taken l.taken
