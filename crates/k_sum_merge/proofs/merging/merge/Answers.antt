use Rattle.k_sum_merge.proofs.Kept.{merged_have_bounds, merged_stays}
use Rattle.k_sum_merge.proofs.merging.merge.Goals as goal

pub add-requires-clause-bounds : goal.add-requires-clause-bounds
add-requires-clause-bounds c = merged_have_bounds c.args.all.now c.requires.all

pub add-requires-clause-more : goal.add-requires-clause-more
add-requires-clause-more c = merged_have_bounds c.args.more.now c.requires.more

pub returns-clause-merged : goal.returns-clause-merged
returns-clause-merged c = merged_stays c.args.all.now c.args.more.now c.add.new.self c.requires.all c.requires.more c.add.result c.add.ensures.adds
