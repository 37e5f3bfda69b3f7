use Rattle.k_lower_extents.proofs.Tables.{all_set, one_more}
use Rattle.k_lower_extents.proofs.table.note_all.Goals as goal

pub loop-it-preserved : goal.loop-it-preserved
loop-it-preserved c =
    one_more c.loop-it.table c.note.new.table c.args.found.now c.loop-it.it-index _ c.loop-it-test.true c.in_ok-note.ensures c.loop-it.invariant

pub returns : goal.returns
returns c = all_set c.loop-it.table c.args.found.now c.loop-it.it-index c.loop-it-test.false c.loop-it.invariant
