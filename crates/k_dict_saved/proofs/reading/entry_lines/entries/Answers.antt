use Rattle.std.proofs.Common.{Err, subst, refl, arith}
use Rattle.k_dict_saved.specs.Reading.{NextEntry}
use Rattle.k_dict_saved.specs.declared.reading.stop.Stop.{Stop}
use Rattle.k_dict_saved.proofs.EntrySteps.{entries_done, entries_more, entries_start, wrong_entry}
use Rattle.k_dict_saved.proofs.reading.entry_lines.entries.Goals as goal

pub lines-init : goal.lines-init
lines-init c =
    entries_start c.args.format c.args.regions c.args.count c.args.text.now c.new-table.result c.new-extents.result c.new-table.ensures c.new-extents.ensures

pub lines-preserved : goal.lines-preserved
lines-preserved c =
    entries_more c.args.format c.args.regions c.args.count c.args.text.now c.lines.rest.now c.in-Ok.behind.now c.lines.table c.next_entry.new.table c.lines.extents c.next_entry.new.extents
    c.lines.invariant (omega (arith, c.lines-test.true, c.len.ensures.count)) c.in-Ok.ensures.answer c.in-Ok.ensures.each

pub returns-in-Err-Wrong : goal.returns-in-Err-Wrong
returns-in-Err-Wrong c = λ list same.
    let Q : Stop → Type 0 = λ stop. NextEntry c.args.format c.args.regions c.lines.table c.next_entry.new.table c.lines.rest.now (Err stop) in
    wrong_entry c.args.format c.args.regions c.args.count c.args.text.now c.lines.rest.now c.lines.table c.next_entry.new.table c.lines.extents _ c.lines.invariant
    (omega (arith, c.lines-test.true, c.len.ensures.count)) refl (subst Q c.in-Err-Wrong.field-0-is c.in-Err-Wrong.ensures.answer) list same

pub returns : goal.returns
returns c = λ list same.
    entries_done c.args.format c.args.regions c.args.count c.args.text.now c.lines.rest.now c.lines.table c.lines.extents c.lines.invariant
    (omega (arith, c.lines-test.false, c.len.ensures.count)) c.len.ensures.distinct list same
