use Rattle.std.proofs.Common.{◌∙◌, ap, arith, length, sym}
use Rattle.k_shadow.specs.Content.{Content}
use Rattle.k_shadow.proofs.Laws.{depth_written}
use Rattle.k_hcpa_times.proofs.HaveLevels.{registers_and_paths}
use Rattle.k_hcpa_times.proofs.Lists.{later_length}
use Rattle.k_hcpa_times.proofs.Within.{none_after, none_later, none_there, none_written, within_more, within_registers}
use Rattle.k_hcpa_times.proofs.location_times.LocationTimesTimed.give_after_one.Goals as goal

pub invariant_of-self-clause-levels : goal.invariant_of-self-clause-levels
invariant_of-self-clause-levels g c =
    let s = c.args.self.now in
    registers_and_paths (ap (λ x. length x.levels) c.write_one.ensures.written ∙ depth_written c.args.to _ (g.R.Shadow.content s.registers))
    (ap (λ xs. length xs) c.write_one.ensures.paths ∙ later_length _ _) s.levels

pub invariant_of-self-clause-handed_levels : goal.invariant_of-self-clause-handed_levels
invariant_of-self-clause-handed_levels g c = c.args.self.now.handed_levels ∙ sym (ap (λ xs. length xs) c.write_one.ensures.paths ∙ later_length _ _)

pub invariant_of-self-clause-within : goal.invariant_of-self-clause-within
invariant_of-self-clause-within g c =
    let s = c.args.self.now in
    let content : Content = g.R.Shadow.content s.registers in
    let n = c.saturating_add-self.result in
    let more = within_more {n = n} (omega arith) s.within in
    let times = none_after s.reach c.args.latency n _ c.saturating_add-self.ensures
    (none_later s.reach s.control.current _ s.within.control (none_there s.reach c.args.from content.levels s.within.registers)) in
    within_registers (none_written n c.args.to _ content _ c.write_one.ensures.written times more.registers) more.row more
