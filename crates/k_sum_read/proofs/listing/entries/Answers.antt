use Rattle.std.proofs.Common.{List, Err, subst, sym, refl, arith, ◌∙◌}
use Rattle.std.proofs.lemmas.Bool.{false≢true}
use Rattle.k_dict_entries.specs.declared.entry.Entry.{Entry}
use Rattle.k_dict_saved.specs.Reading.{NextEntry}
use Rattle.k_dict_saved.specs.declared.format.Format.TheVariants.{Two}
use Rattle.k_dict_saved.specs.declared.reading.stop.Stop.{Stop}
use Rattle.k_dict_saved.proofs.EntrySteps.{entries_done, entries_more, entries_start}
use Rattle.k_sum_order.specs.Order.{AreInOrder}
use Rattle.k_sum_read.specs.Reading.{LastIsBehind}
use Rattle.k_sum_read.proofs.ListSteps.{entry_out_of_order, no_order, order_more, wrong_entry}
use Rattle.k_sum_read.proofs.listing.entries.Goals as goal

pub lines-init : goal.lines-init
lines-init c = record {
  at = entries_start Two c.args.regions c.args.count c.args.text.now c.new-table.result c.new-extents.result c.new-table.ensures c.new-extents.ensures;
  order = no_order c.new-table.result c.new-table.ensures;
}

pub lines-preserved : goal.lines-preserved
lines-preserved c =
    let next = c.in-Ok.ensures.answer in
    let P : List Entry → Type 0 = LastIsBehind in
    let last : LastIsBehind c.next_entry.new.table = subst P c.entries.ensures.value (c.ends_in_order.ensures.0 c.if-not-ends_in_order.false) in
    let Q : List Entry → Type 0 = AreInOrder in
    record {
      at = entries_more Two c.args.regions c.args.count c.args.text.now c.lines.rest.now c.in-Ok.behind.now c.lines.table c.next_entry.new.table c.lines.extents c.next_entry.new.extents
          c.lines.invariant.at (omega (arith, c.lines-test.true, c.len.ensures.count)) c.in-Ok.ensures.answer c.in-Ok.ensures.each;
      order = subst Q (sym next.3) (order_more c.lines.table next.0 c.lines.invariant.order (subst P next.3 last));
    }

pub returns-in-Err-Wrong : goal.returns-in-Err-Wrong
returns-in-Err-Wrong c = λ list same head.
    let Q : Stop → Type 0 = λ stop. NextEntry Two c.args.regions c.lines.table c.next_entry.new.table c.lines.rest.now (Err stop) in
    wrong_entry c.args.regions c.args.count c.args.text.now c.lines.rest.now c.lines.table c.lines.extents c.lines.invariant.at c.lines.invariant.order
    (omega (arith, c.lines-test.true, c.len.ensures.count)) list same head c.next_entry.new.table _ refl (subst Q c.in-Err-Wrong.field-0-is c.in-Err-Wrong.ensures.answer)

pub returns-then-not-ends_in_order : goal.returns-then-not-ends_in_order
returns-then-not-ends_in_order c = λ list same head.
    let P : List Entry → Type 0 = LastIsBehind in
    entry_out_of_order c.args.regions c.args.count c.args.text.now c.lines.rest.now c.lines.table c.lines.extents c.lines.invariant.at c.lines.invariant.order
    (omega (arith, c.lines-test.true, c.len.ensures.count)) list same head c.next_entry.new.table c.in-Ok.behind.now _ refl (omega arith) c.len.ensures.distinct.few c.in-Ok.ensures.answer
    (λ last. false≢true (sym c.if-not-ends_in_order.true ∙ c.ends_in_order.ensures.1 (subst P (sym c.entries.ensures.value) last)))

pub returns : goal.returns
returns c = λ list same. (
  entries_done Two c.args.regions c.args.count c.args.text.now c.lines.rest.now c.lines.table c.lines.extents c.lines.invariant.at
      (omega (arith, c.lines-test.false, c.len.ensures.count)) c.len.ensures.distinct list same,
  c.lines.invariant.order,
  c.lines.invariant.at.extents_are,
)
