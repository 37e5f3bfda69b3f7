use Rattle.k_selfpar.proofs.Lowest.{quotients_ratio, quotients_fraction}
use Rattle.k_selfpar.proofs.fraction.Frac.new.Goals as goal

pub invariant_of-result : goal.invariant_of-result
invariant_of-result c =
    quotients_fraction _ _ _ c.requires.divisible c.requires.num_fits c.requires.den_fits c.gcd-divisor.ensures.greatest

pub returns : goal.returns
returns c = quotients_ratio _ _ _ c.requires.divisible c.gcd-divisor.ensures.greatest
