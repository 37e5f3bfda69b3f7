use Rattle.std.proofs.Common.{length}
use Rattle.k_hcpa_summaries.proofs.Opens.{open_within, few_around}
use Rattle.k_hcpa_summaries.proofs.closing.close_behind.Goals as goal

pub close_inner-requires-clause-inner : goal.close_inner-requires-clause-inner
close_inner-requires-clause-inner c =
    let parts = c.split_at_mut-outer.result in
    open_within (length c.args.dict.now) c.args.levels.now parts.0.now parts.1.now c.split_at_mut-outer.ensures.value c.requires.open

pub close_inner-requires-clause-outer : goal.close_inner-requires-clause-outer
close_inner-requires-clause-outer c =
    let parts = c.split_at_mut-outer.result in
    few_around (length c.args.dict.now) c.args.levels.now parts.0.now parts.1.now c.split_at_mut-outer.ensures.value c.requires.open
