use Rattle.std.proofs.Common.{◌≡◌, ◌++◌, drop}
use Rattle.k_regions.specs.Regions.{regions_in}
use Rattle.k_regions.proofs.source.regions.Given as goal

abbrev pub invariant-loop-function : goal.invariant-loop-function
invariant-loop-function l =
    l.regions ++ regions_in (drop l.function-index l.function-items) ≡ regions_in l.unit.functions
