use Rattle.k_code.proofs.Balanced.{balanced_at_last, unbalanced}
use Rattle.k_code.proofs.validity.balances.all_settled.Goals as goal

pub returns-then-not-settle : goal.returns-then-not-settle
returns-then-not-settle c = unbalanced c.args.entry c.args.instrs.now c.loop-k.k c.settle.new.before c.if-not-settle.ensures

pub returns : goal.returns
returns c = balanced_at_last c.args.entry c.args.instrs.now c.loop-k.k c.loop-k.before c.loop-k.auto.k-end c.loop-k-test.false c.loop-k.invariant
