use Rattle.k_hcpa_summaries.proofs.Opens.{counts_fit, can_intern}
use Rattle.k_hcpa_summaries.proofs.closing.intern_level.Goals as goal

pub entry-requires : goal.entry-requires
entry-requires c = counts_fit c.args.level.now c.requires.level.1

pub intern-requires : goal.intern-requires
intern-requires c = can_intern c.args.dict.now c.args.last c.args.level.now c.args.work c.args.path c.in-Ok.entry c.requires.last c.requires.level.0 c.in-Ok.ensures
