use Rattle.k_report.proofs.Lines.{entry_added}
use Rattle.k_report.proofs.dict_lines.push_entries.Goals as goal

pub loop-number-preserved : goal.loop-number-preserved
loop-number-preserved c =
    entry_added c.args.dict.now c.loop-number.number c.entry.result.now c.loop-number.text.items c.push_entry.new.text.items _ c.entry.ensures.value c.in_ok-push_entry.ensures
    c.loop-number.invariant
