use Rattle.std.proofs.Common.{◌≡◌, length}
use Rattle.k_graph.specs.Listings.{EachHasParent}
use Rattle.k_graph.proofs.parents.with_parents.Given as goal

abbrev pub invariant-loop-index : goal.invariant-loop-index
invariant-loop-index l = record { count : length l.tree ≡ l.index; parents : EachHasParent l.list l.tree }
