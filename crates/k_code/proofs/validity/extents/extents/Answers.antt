use Rattle.std.proofs.Common.{◌+◌, subst, sym}
use Rattle.k_code.specs.Decides.{AreExtentsOf}
use Rattle.k_code.proofs.Marking.{extents_all, extents_more, no_extents}
use Rattle.k_code.proofs.validity.extents.extents.Goals as goal

pub loop-entry-init : goal.loop-entry-init
loop-entry-init c = no_extents c.args.code.now c.new-list.result.items c.new-list.ensures.items

pub loop-entry-preserved : goal.loop-entry-preserved
loop-entry-preserved c =
    subst (λ l. AreExtentsOf c.args.code.now (c.loop-entry.entry + 1) l) (sym c.in_ok-push.ensures.items) (extents_more c.args.code.now c.loop-entry.entry c.loop-entry.list.items c.extent_at.result c.loop-entry.invariant c.extent_at.ensures)

pub returns : goal.returns
returns c = extents_all c.args.code.now c.loop-entry.entry c.len-entry-end.result c.loop-entry.list.items c.loop-entry.auto.entry-end c.loop-entry-test.false c.len-entry-end.ensures c.loop-entry.invariant
