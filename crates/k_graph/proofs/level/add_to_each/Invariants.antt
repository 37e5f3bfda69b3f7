use Rattle.std.proofs.Common.{◌≡◌, ◌++◌, take, drop, map}
use Rattle.k_graph.specs.Levels.{added}
use Rattle.k_graph.proofs.level.add_to_each.Given as goal

abbrev pub invariant-loop-level : goal.invariant-loop-level
invariant-loop-level l =
    l.levels ≡ map (added l.latency l.sources) (take l.level-index l.initial.levels) ++ drop l.level-index l.initial.levels
