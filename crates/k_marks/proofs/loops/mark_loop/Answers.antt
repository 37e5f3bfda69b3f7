use Rattle.std.proofs.Common.{◌≡◌, ◌∙◌}
use Rattle.k_marks_meaning.specs.Loops.{loop_uses, is_counted}
use Rattle.k_marks.specs.Found.{seen}
use Rattle.k_marks.proofs.LoopLaws.{if_fresh, if_sized, counted_is, if_counted, if_broken}
use Rattle.k_marks.proofs.loops.mark_loop.Goals as goal

pub returns-clause-fresh : goal.returns-clause-fresh
returns-clause-fresh c =
    if_fresh c.break_loop.result c.args.turn (loop_uses (seen c.args.turns)) c.args.table.now.items c.note_all.new.table.items
    c.in_ok-uses.ensures.table c.requires.fresh

pub returns-clause-sized : goal.returns-clause-sized
returns-clause-sized c =
    if_sized c.break_loop.result c.args.turn _ (loop_uses (seen c.args.turns)) c.args.table.now.items c.note_all.new.table.items
    c.in_ok-uses.ensures.table c.requires.sized

pub returns-clause-counted : goal.returns-clause-counted
returns-clause-counted c =
    let same : c.in_ok-counts.counts ≡ is_counted c.args.variables.now (seen c.args.turns) =
    counted_is c.args.variables.now c.args.turn (seen c.args.turns) c.args.table.now.items _ _ c.in_ok-counts.counts
    (c.as_slice-known.ensures.value ∙ c.in_ok-uses.ensures.table) (c.as_slice.ensures.value ∙ c.in_ok-uses.ensures.uses)
    c.requires.sized c.requires.fresh c.in_ok-counts.ensures in
    if_counted c.break_loop.result c.args.counted.now.items _ c.in_ok-counts.counts _ c.in_ok-push.ensures.items same

pub returns-clause-broken : goal.returns-clause-broken
returns-clause-broken c =
    let same : c.in_ok-counts.counts ≡ is_counted c.args.variables.now (seen c.args.turns) =
    counted_is c.args.variables.now c.args.turn (seen c.args.turns) c.args.table.now.items _ _ c.in_ok-counts.counts
    (c.as_slice-known.ensures.value ∙ c.in_ok-uses.ensures.table) (c.as_slice.ensures.value ∙ c.in_ok-uses.ensures.uses)
    c.requires.sized c.requires.fresh c.in_ok-counts.ensures in
    if_broken c.break_loop.result c.args.broken.now.items _ c.args.variables.now c.args.turn (seen c.args.turns) c.args.table.now.items _ _
    c.in_ok-counts.counts
    (c.as_slice-known.ensures.value ∙ c.in_ok-uses.ensures.table) (c.as_slice-2.ensures.value ∙ c.in_ok-uses.ensures.uses)
    c.requires.sized c.requires.fresh same c.break_loop.ensures
