use Rattle.std.proofs.Common.{sym, ap, ◌∙◌}
use Rattle.std.specs.Float.Ieee.{le, lt}
use Rattle.k_real.proofs.WholeParts.{middle_is, high_is, both, neither}
use Rattle.k_real.proofs.conversions.is_above_signed.Goals as goal

pub returns-then-x : goal.returns-then-x
returns-then-x c = both _ _ _ (ap (λ v. le v c.args.x) (sym middle_is) ∙ c.if-x.true) (ap (lt c.args.x) high_is)

pub returns-else-x : goal.returns-else-x
returns-else-x c = neither _ _ _ (ap (λ v. le v c.args.x) middle_is) c.if-x.false
