use Rattle.std.proofs.Common.{◌≡◌, ◌++◌, drop}
use Rattle.std.specs.List.{flat_map}
use Rattle.k_page.specs.Lists.{pick_line}
use Rattle.k_page.proofs.lists.push_pick_lines.Given as goal

abbrev pub invariant-loop-pick : goal.invariant-loop-pick
invariant-loop-pick l = l.text.items ++ flat_map (pick_line l.regions l.contexts l.whole) (drop l.pick-index l.picks) ≡ l.fn.text.items ++ flat_map (pick_line l.regions l.contexts l.whole) l.fn.picks
