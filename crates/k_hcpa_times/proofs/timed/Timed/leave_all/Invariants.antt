use Rattle.std.proofs.Common.{◌≡◌, ◌-◌, min}
use Rattle.k_hcpa_meaning.specs.Timings.{all_left_below}
use Rattle.k_hcpa_times.specs.Seen.{made, levels}
use Rattle.k_hcpa_times.proofs.timed.Timed.leave_all.Given as goal

-- what is left from here is what is left from the start
abbrev pub invariant-loop-left : goal.invariant-loop-left
invariant-loop-left g l = let seen = g.Self.Timed.seen in record {
  live : levels (seen l.self) ≡ min l.depth (l.count - l.left);
  same : made (all_left_below l.depth (l.count - l.left) (l.regions - l.left)) (seen l.self) ≡ made (all_left_below l.depth l.count l.regions) (seen l.initial.self);
}
