use Rattle.k_top_lemmas.proofs.Merging.{adds_once}
use Rattle.k_top_merge.proofs.adding.add.Goals as goal

pub returns-clause-adds : goal.returns-clause-adds
returns-clause-adds c = adds_once c.args.sum.now c.args.other.now c.merge.new.all c.merge.result c.merge.ensures.adds c.merge.ensures.interned
