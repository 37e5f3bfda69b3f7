use Rattle.std.proofs.Common.{sym, ap, ◌∙◌}
use Rattle.std.specs.Float.Ieee.{le, lt}
use Rattle.k_real.proofs.WholeParts.{low_is, middle_is, both, neither}
use Rattle.k_real.proofs.conversions.is_signed.Goals as goal

pub returns-then-x : goal.returns-then-x
returns-then-x c = both _ _ _ (ap (λ v. le v c.args.x) (sym low_is) ∙ c.if-x.true) (ap (lt c.args.x) middle_is)

pub returns-else-x : goal.returns-else-x
returns-else-x c = neither _ _ _ (ap (λ v. le v c.args.x) low_is) c.if-x.false
