use Rattle.k_top_lemmas.proofs.Merging.{read_refused}
use Rattle.k_top_merge.proofs.adding.read_runs.Goals as goal

pub returns-in-Err-clause-reads : goal.returns-in-Err-clause-reads
returns-in-Err-clause-reads c = read_refused c.args.name.now c.args.bytes.now c.in-Err.fault c.refused.result c.in-Err.ensures.sum c.refused.ensures
