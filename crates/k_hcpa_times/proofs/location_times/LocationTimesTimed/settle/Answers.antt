use Rattle.std.proofs.Common.{◌∙◌, ap, arith, length}
use Rattle.std.proofs.lemmas.List.{length-map}
use Rattle.k_hcpa_times.proofs.HaveLevels.{row_and_paths}
use Rattle.k_hcpa_times.proofs.Lists.{later_length}
use Rattle.k_hcpa_times.proofs.Within.{none_after, none_same, within_more, within_registers}
use Rattle.k_hcpa_times.proofs.location_times.LocationTimesTimed.settle.Goals as goal

pub invariant_of-self-clause-levels : goal.invariant_of-self-clause-levels
invariant_of-self-clause-levels g c =
    row_and_paths (ap (λ xs. length xs) c.settle_times.ensures.row ∙ length-map c.args.self.now.row _) (ap (λ xs. length xs) c.settle_times.ensures.paths ∙ later_length _ _) c.args.self.now.levels

pub invariant_of-self-clause-within : goal.invariant_of-self-clause-within
invariant_of-self-clause-within g c =
    let s = c.args.self.now in
    let n = c.saturating_add-self.result in
    let more = within_more {n = n} (omega arith) s.within in
    within_registers more.registers (none_same n _ _ c.settle_times.ensures.row (none_after s.reach c.args.latency n s.row c.saturating_add-self.ensures s.within.row)) more
