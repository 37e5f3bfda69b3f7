use Rattle.std.proofs.Common.{◌≡◌, ◌++◌, codes, drop}
use Rattle.std.specs.List.{flat_map}
use Rattle.std.specs.Fmt.{decimal}
use Rattle.k_report.specs.PlanLines.{regions_text}
use Rattle.k_report.proofs.plan_lines.push_regions.Given as goal

abbrev pub invariant-loop-region : goal.invariant-loop-region
invariant-loop-region l = l.text.items ++ flat_map (λ r. codes "/" ++ decimal r) (drop l.region-index l.rest) ≡ l.fn.text.items ++ regions_text l.fn.regions
