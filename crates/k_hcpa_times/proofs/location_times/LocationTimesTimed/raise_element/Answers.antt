use Rattle.k_hcpa_times.proofs.Within.{none_later, none_same, none_there, within_registers}
use Rattle.k_hcpa_times.proofs.location_times.LocationTimesTimed.raise_element.Goals as goal

pub invariant_of-self-clause-within : goal.invariant_of-self-clause-within
invariant_of-self-clause-within g c =
    let s = c.args.self.now in
    within_registers s.within.registers (none_same s.reach _ _ c.raise_by.ensures.raised (none_later s.reach s.row _ s.within.row (none_there s.reach c.args.element (g.P.Shadow.content s.elements).levels s.within.elements))) s.within
