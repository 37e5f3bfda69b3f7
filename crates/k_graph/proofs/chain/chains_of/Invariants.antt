use Rattle.k_optab.specs.Events.{operations}
use Rattle.k_graph.proofs.Chaining.{IsChainedTo}
use Rattle.k_graph.proofs.chain.chains_of.Given as goal

abbrev pub invariant-loop-event : goal.invariant-loop-event
invariant-loop-event l = IsChainedTo (operations l.events) l.rest l.start l.end l.event-index l.made l.chains
