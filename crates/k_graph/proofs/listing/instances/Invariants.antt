use Rattle.std.proofs.Common.{drop}
use Rattle.k_graph.specs.Passes.{state}
use Rattle.k_graph.proofs.Progress.{IsBefore}
use Rattle.k_graph.proofs.listing.instances.Given as goal

abbrev pub invariant-loop-event : goal.invariant-loop-event
invariant-loop-event l = IsBefore l.depth l.events (drop l.event-index l.events) (state l.pass)
