use Rattle.std.proofs.Common.{arith, ◌∙◌}
use Rattle.k_real.proofs.DigitLaws.{digit_is}
use Rattle.k_real.proofs.digits.digit_at.Goals as goal

pub returns-clause-below : goal.returns-clause-below
returns-clause-below c = let is = c.item_at.ensures ∙ digit_is c.args.xs.now c.args.at c.requires in omega (arith, is)

pub returns-clause-value : goal.returns-clause-value
returns-clause-value c = c.item_at.ensures ∙ digit_is c.args.xs.now c.args.at c.requires
