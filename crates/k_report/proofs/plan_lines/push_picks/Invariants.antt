use Rattle.std.proofs.Common.{◌≡◌, ◌++◌, drop}
use Rattle.std.specs.List.{flat_map}
use Rattle.k_report.specs.PlanLines.{pick_line}
use Rattle.k_report.proofs.plan_lines.push_picks.Given as goal

abbrev pub invariant-loop-pick : goal.invariant-loop-pick
invariant-loop-pick l = l.text.items ++ flat_map (pick_line l.regions l.contexts) (drop l.pick-index l.picks) ≡ l.fn.text.items ++ flat_map (pick_line l.regions l.contexts) l.fn.picks
