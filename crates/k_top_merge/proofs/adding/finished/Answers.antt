use Rattle.k_top_lemmas.proofs.Merging.{finishes_not, finishes_sum}
use Rattle.k_top_merge.proofs.adding.finished.Goals as goal

pub returns-in-Ok : goal.returns-in-Ok
returns-in-Ok c = finishes_sum c.args.name.now c.args.sum c.in-Ok.ordered c.in-Ok.ensures

pub returns-in-Err : goal.returns-in-Err
returns-in-Err c = finishes_not c.args.name.now c.args.sum c.in-Err.fault c.not_finished.result c.in-Err.ensures c.not_finished.ensures
