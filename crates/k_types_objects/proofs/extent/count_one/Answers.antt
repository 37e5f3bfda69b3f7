use Rattle.k_types_objects.proofs.Extents.{by_left_out, by_size, by_wrong}
use Rattle.k_types_objects.proofs.extent.count_one.Goals as goal

pub returns-in-LeftOut-clause-value : goal.returns-in-LeftOut-clause-value
returns-in-LeftOut-clause-value c = λ sizes. by_left_out c.args.count c.args.size.now sizes c.in-LeftOut.is

pub returns-in-Is-clause-value : goal.returns-in-Is-clause-value
returns-in-Is-clause-value c = λ sizes. by_size c.args.count c.in-Is.size c.times.result c.args.size.now sizes c.in-Is.is c.times.ensures.product

pub returns-in-NoSize-clause-value : goal.returns-in-NoSize-clause-value
returns-in-NoSize-clause-value c = λ sizes. by_wrong c.args.count c.args.size.now sizes c.in-NoSize.is
