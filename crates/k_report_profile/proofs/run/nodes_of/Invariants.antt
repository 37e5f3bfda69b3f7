use Rattle.std.proofs.Common.{◌≡◌, map, take}
use Rattle.k_graph.specs.Listings.{node_of}
use Rattle.k_report_profile.proofs.run.nodes_of.Given as goal

abbrev pub invariant-loop-instance : goal.invariant-loop-instance
invariant-loop-instance l = l.nodes ≡ map node_of (take l.instance-index l.instances)
