use Rattle.std.proofs.Common.{sym, ◌∙◌}
use Rattle.std.proofs.lemmas.Bool.{both_ways, false≢true}
use Rattle.k_sum_merge.proofs.Finished.{of_main}
use Rattle.k_sum_merge.proofs.Kept.{kept}
use Rattle.k_sum_merge.proofs.finishing.finish.Goals as goal

pub returns-then-not-is_of_one : goal.returns-then-not-is_of_one
returns-then-not-is_of_one c = λ main. both_ways c.is_of_one.result c.if-not-is_of_one.true (c.is_of_one.ensures.1 (main.region, main.each))

pub order-requires-clause-one : goal.order-requires-clause-one
order-requires-clause-one c = c.is_of_one.ensures.0 c.if-not-is_of_one.false

pub order-requires-clause-within : goal.order-requires-clause-within
order-requires-clause-within c = λ past. false≢true (sym c.in-Ok-false.field-0-test ∙ c.in-Ok-false.ensures.1 past)

pub returns-in-Ok-true : goal.returns-in-Ok-true
returns-in-Ok-true c = (
  of_main c.args.sum (kept c.args.sum c.requires) (c.is_of_one.ensures.0 c.if-not-is_of_one.false),
  c.in-Ok-true.ensures.0 c.in-Ok-true.field-0-test,
)
