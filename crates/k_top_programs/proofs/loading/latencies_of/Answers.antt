use Rattle.k_top_lemmas.proofs.LatencyLemmas.{standard_bounded}
use Rattle.k_top_programs.proofs.loading.latencies_of.Goals as goal

pub returns-in-None-clause-bounded : goal.returns-in-None-clause-bounded
returns-in-None-clause-bounded g c = standard_bounded c.standard.result c.standard.ensures
