use Rattle.k_hcpa_times.proofs.Within.{none_same, none_written, within_elements}
use Rattle.k_hcpa_times.proofs.location_times.LocationTimesTimed.give_element.Goals as goal

pub invariant_of-self-clause-within : goal.invariant_of-self-clause-within
invariant_of-self-clause-within g c =
    let s = c.args.self.now in
    let times = none_same s.reach _ _ c.as_slice.ensures.times s.within.row in
    within_elements (none_written s.reach c.args.element _ (g.P.Shadow.content s.elements) _ c.put.ensures.content times s.within.elements) s.within
