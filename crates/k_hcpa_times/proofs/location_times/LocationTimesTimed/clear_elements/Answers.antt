use Rattle.k_hcpa_times.proofs.Within.{none_cleared, within_elements}
use Rattle.k_hcpa_times.proofs.location_times.LocationTimesTimed.clear_elements.Goals as goal

pub invariant_of-self-clause-within : goal.invariant_of-self-clause-within
invariant_of-self-clause-within g c =
    let s = c.args.self.now in
    within_elements (none_cleared s.reach c.args.first c.args.count (g.P.Shadow.content s.elements) _ c.clear.ensures.content s.within.elements) s.within
