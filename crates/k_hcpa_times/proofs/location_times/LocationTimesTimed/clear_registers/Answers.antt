use Rattle.k_hcpa_times.proofs.Within.{none_cleared, within_registers}
use Rattle.k_hcpa_times.proofs.location_times.LocationTimesTimed.clear_registers.Goals as goal

pub invariant_of-self-clause-within : goal.invariant_of-self-clause-within
invariant_of-self-clause-within g c =
    let s = c.args.self.now in
    within_registers (none_cleared s.reach c.args.first c.args.count (g.R.Shadow.content s.registers) _ c.clear.ensures.content s.within.registers) s.within.row s.within
