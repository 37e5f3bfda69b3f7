use Rattle.std.proofs.Common.{◌∙◌, ap, length}
use Rattle.std.proofs.lemmas.List.{length-map}
use Rattle.k_shadow.specs.Content.{Content}
use Rattle.k_shadow.proofs.Laws.{depth_written}
use Rattle.k_hcpa_times.proofs.HaveLevels.{registers_and_row}
use Rattle.k_hcpa_times.proofs.Lists.{length_unless}
use Rattle.k_hcpa_times.proofs.Within.{none_same, none_there, none_unless, none_written, row_room, within_registers}
use Rattle.k_hcpa_times.proofs.location_times.LocationTimesTimed.hand.Goals as goal

pub put-requires-clause-room : goal.put-requires-clause-room
put-requires-clause-room g c =
    let s = c.args.self.now in
    let content : Content = g.R.Shadow.content s.registers in
    row_room c.read_by.new.times c.requires.room s.admits c.as_slice.ensures.times
    (none_same s.reach _ _ c.read_by.ensures.read (none_there s.reach c.args.from content.levels s.within.registers))

pub invariant_of-self-clause-levels : goal.invariant_of-self-clause-levels
invariant_of-self-clause-levels g c =
    let s = c.args.self.now in
    registers_and_row
    (ap (λ x. length x.levels) c.put.ensures.content ∙ depth_written c.args.to c.as_slice.result.now (g.R.Shadow.content s.registers))
    (ap (λ xs. length xs) c.raise_unless.ensures ∙ length_unless c.args.broken s.row c.read_by.new.times) s.levels

pub invariant_of-self-clause-handed_levels : goal.invariant_of-self-clause-handed_levels
invariant_of-self-clause-handed_levels g c =
    let s = c.args.self.now in
    ap (λ xs. length xs) c.read_by.ensures.read ∙ length-map (g.R.Shadow.content s.registers).levels (λ level. level c.args.from) ∙ s.levels.registers

pub invariant_of-self-clause-within : goal.invariant_of-self-clause-within
invariant_of-self-clause-within g c =
    let s = c.args.self.now in
    let content : Content = g.R.Shadow.content s.registers in
    let handed = none_same s.reach c.read_by.new.times _ c.read_by.ensures.read (none_there s.reach c.args.from content.levels s.within.registers) in
    within_registers
    (none_written s.reach c.args.to c.as_slice.result.now content _ c.put.ensures.content (none_same s.reach _ _ c.as_slice.ensures.times handed) s.within.registers)
    (none_same s.reach _ _ c.raise_unless.ensures (none_unless s.reach c.args.broken s.row c.read_by.new.times s.within.row handed)) s.within
