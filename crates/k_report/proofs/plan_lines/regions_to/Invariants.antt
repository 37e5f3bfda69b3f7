use Rattle.std.proofs.Common.{◌≡◌, ◌<◌, ◌++◌, length, reverse}
use Rattle.k_report.specs.PlanLines.{regions_to}
use Rattle.k_report.proofs.plan_lines.regions_to.Given as goal

abbrev pub invariant-loop-at : goal.invariant-loop-at
invariant-loop-at l = record {
  within : l.at < length l.contexts;
  so_far : regions_to l.contexts l.at ++ reverse l.regions.items ≡ regions_to l.contexts l.number;
}

abbrev pub decreases-loop-at : goal.decreases-loop-at
decreases-loop-at l = l.at
