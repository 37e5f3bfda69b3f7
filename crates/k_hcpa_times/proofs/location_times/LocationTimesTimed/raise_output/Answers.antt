use Rattle.std.proofs.Common.{◌∙◌, ap}
use Rattle.k_hcpa_meaning.specs.Timings.{later}
use Rattle.k_hcpa_times.proofs.Within.{none_later, none_same, within_registers}
use Rattle.k_hcpa_times.proofs.location_times.LocationTimesTimed.raise_output.Goals as goal

pub invariant_of-self-clause-within : goal.invariant_of-self-clause-within
invariant_of-self-clause-within g c =
    let s = c.args.self.now in
    within_registers s.within.registers (none_same s.reach _ _ (c.raise_times.ensures ∙ ap (λ ts. later s.row ts) c.times.ensures.times) (none_later s.reach s.row _ s.within.row s.within.out_cell)) s.within
