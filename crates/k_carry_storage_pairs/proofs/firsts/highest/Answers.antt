use Rattle.k_carry_storage_pairs.proofs.Firsting.{higher_on, none_left}
use Rattle.k_carry_storage_pairs.proofs.firsts.highest.Goals as goal

pub loop-start-preserved : goal.loop-start-preserved
loop-start-preserved c = λ start is.
    higher_on start c.loop-start.high c.in-Some.start.now c.higher-high.result c.loop-start.rest.now c.in-Some.later.now c.in-Some.ensures.cases.0 c.higher-high.ensures.one
    c.higher-high.ensures.other (c.loop-start.invariant start is)

pub returns : goal.returns
returns c = λ start is. none_left start c.loop-start.high c.loop-start.rest.now c.in_default.ensures.cases (c.loop-start.invariant start is)
