use Rattle.k_sum_report.proofs.parts.parts_of.Goals as goal

pub planned-requires-clause-contexts : goal.planned-requires-clause-contexts
planned-requires-clause-contexts c = c.in-Ok.ensures.contexts.0
