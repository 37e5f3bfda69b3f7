use Rattle.k_math.proofs.SeriesLaws.{by_two}
use Rattle.k_math.proofs.series.by_twos.Goals as goal

pub loop-skipped-preserved : goal.loop-skipped-preserved
loop-skipped-preserved c = by_two _ _ _ c.in-Some._skipped.now c.in-Some-split_first.c.now _ _ c.in-Some.behind.now _ c.in-Some.ensures.cases.0 c.in-Some-split_first.ensures.cases.0 c.next-p.ensures c.loop-skipped.invariant
