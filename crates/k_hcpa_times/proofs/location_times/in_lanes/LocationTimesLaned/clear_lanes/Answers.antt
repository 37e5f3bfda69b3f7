use Rattle.k_hcpa_times.proofs.Within.{none_cleared, within_registers}
use Rattle.k_hcpa_times.proofs.location_times.in_lanes.LocationTimesLaned.clear_lanes.Goals as goal

pub invariant_of-self-clause-within : goal.invariant_of-self-clause-within
invariant_of-self-clause-within g c =
    let s = c.args.self.now in
    within_registers (none_cleared s.reach c.args.to 1 (g.R.Shadow.content s.registers) _ c.clear.ensures.content s.within.registers) s.within.row s.within
