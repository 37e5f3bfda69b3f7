use Rattle.std.proofs.Common.{refl, ap, arith}
use Rattle.k_shadow.specs.Content.{Content}
use Rattle.k_hcpa_times.proofs.location_times.in_lanes.LocationTimesLaned.admit_call.Goals as goal

pub returns-in-Ok-clause-enters : goal.returns-in-Ok-clause-enters
returns-in-Ok-clause-enters g c went lt =
    let may = c.if-not-may_enter.ensures refl lt in
    let low = may.0 in
    let few = may.1 in
    let levels = c.len-levels.ensures.count in
    let lanes = c.lane_count.ensures in
    let told = c.entries-entries.ensures in
    let kept = c.args.self.now.control_entries in
    let same = ap (λ (x : Content). x.entries) c.admit.ensures.content in
    (omega (arith, low, levels, lanes), omega (arith, few, told, kept, same))
