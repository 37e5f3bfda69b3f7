use Rattle.std.proofs.Common.{◌≡◌, ◌<◌, map, slice_get, Some}
use Rattle.std.specs.Option.{ForSome}
use Rattle.k_graph.specs.declared.level.Measured.{Measured}
use Rattle.k_graph.specs.Listings.{closed_of}
use Rattle.k_graph.proofs.Outwards.{IsAround, place_of}
use Rattle.k_graph.proofs.parents.parent_of.Given as goal

abbrev pub invariant-loop-outer : goal.invariant-loop-outer
invariant-loop-outer l = record {
  around : (m : Measured) → slice_get l.list l.index ≡ Some m → IsAround (map closed_of l.list) (closed_of m) l.outer;
  below : ForSome l.outer (λ q. q < l.index);
}

abbrev pub decreases-loop-outer : goal.decreases-loop-outer
decreases-loop-outer l = place_of l.outer
