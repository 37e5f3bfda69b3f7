use Rattle.k_selfpar.proofs.Lowest.{unit_ratio}
use Rattle.k_selfpar.proofs.fraction.Frac.ratio.Goals as goal

pub returns-then-den-eq0 : goal.returns-then-den-eq0
returns-then-den-eq0 c = unit_ratio c.args.num c.args.den _ _ c.if-den-eq0.true c.new.ensures
