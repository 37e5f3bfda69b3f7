use Rattle.std.proofs.Common.{◌≡◌, ◌++◌, drop}
use Rattle.k_regions.specs.Regions.{regions_of_loops}
use Rattle.k_regions.proofs.source.push_loops.Given as goal

abbrev pub invariant-loop-at : goal.invariant-loop-at
invariant-loop-at l =
    l.regions ++ regions_of_loops l.name (drop l.at-index l.loops) ≡ l.fn.regions ++ regions_of_loops l.name l.loops
