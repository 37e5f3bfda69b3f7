use Rattle.std.proofs.Common.{ℕ, ◌≡◌, ◌+◌, ◌*◌, ◌≤◌, length}
use Rattle.k_shadow.specs.Content.{Content, depth}
use Rattle.k_hcpa_times.specs.Lanes.{Holds}
use Rattle.k_hcpa_times.specs.Seen.{AreBelow}
use Rattle.k_hcpa_times.proofs.LanesHanded.{LeavesToHand}
use Rattle.k_hcpa_times.proofs.lane_times.hand_all_lanes.Given as goal

-- what the rest makes from here is what all made from the start
abbrev pub invariant-loop-arg : goal.invariant-loop-arg
invariant-loop-arg g l =
    let content = g.S.Shadow.content in
    let old : Content = content l.initial.registers in
    let now : Content = content l.registers in
    record {
      below : AreBelow l.first now.limit l.rest;
      holds : Holds g.V.TimeLanes.count now;
      count : l.given + length l.rest ≡ length l.args;
      entries : now.entries ≡ old.entries;
      limit : now.limit ≡ old.limit;
      live : depth now ≡ depth old;
      room : (at most : ℕ) → g.S.Shadow.room l.initial.registers at most → g.S.Shadow.room l.registers at most;
      handed : LeavesToHand l.first l.to l.given l.count l.args l.rest old (g.V.TimeLanes.time l.initial.waits) now (g.V.TimeLanes.time l.waits);
      least : l.initial.steps ≤ l.steps;
      most : l.steps + length l.rest * depth now ≤ l.initial.steps + length l.args * depth now;
    }

abbrev pub decreases-loop-arg : goal.decreases-loop-arg
decreases-loop-arg g l = length l.rest
