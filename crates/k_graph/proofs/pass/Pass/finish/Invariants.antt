use Rattle.std.proofs.Common.{◌≡◌, drop}
use Rattle.k_graph.specs.Passes.{listed}
use Rattle.k_graph.proofs.pass.Pass.finish.Given as goal

abbrev pub invariant-loop-level : goal.invariant-loop-level
invariant-loop-level l = listed l.done (drop l.level-index l.level-items) ≡ listed l.initial.done l.level-items
