use Rattle.k_sum_read.proofs.AnyFiles.{any_merged, any_one, any_sum}
use Rattle.k_sum_read.proofs.any.read_any.Goals as goal

pub returns-in-Some-clause-sum : goal.returns-in-Some-clause-sum
returns-in-Some-clause-sum c = any_sum c.args.bytes.now c.in-Some.field-0.now c.in-Some.ensures c.read_sum.result c.read_sum.ensures.sum

pub returns-in-None-clause-sum : goal.returns-in-None-clause-sum
returns-in-None-clause-sum c = any_one c.args.bytes.now c.in-None.ensures c.read_one.result c.read_one.ensures.one

pub returns-in-Some-clause-merged : goal.returns-in-Some-clause-merged
returns-in-Some-clause-merged c =
    any_merged c.args.bytes.now c.read_sum.result (any_sum c.args.bytes.now c.in-Some.field-0.now c.in-Some.ensures c.read_sum.result c.read_sum.ensures.sum)

pub returns-in-None-clause-merged : goal.returns-in-None-clause-merged
returns-in-None-clause-merged c = any_merged c.args.bytes.now c.read_one.result (any_one c.args.bytes.now c.in-None.ensures c.read_one.result c.read_one.ensures.one)
