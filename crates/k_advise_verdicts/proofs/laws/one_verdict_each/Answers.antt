use Rattle.k_advise_verdicts.proofs.Among.{has_one, none_has_two}
use Rattle.k_advise_verdicts.proofs.laws.one_verdict_each.Goals as goal

pub returns-clause-some : goal.returns-clause-some
returns-clause-some c = λ start facts standings carried shared rows row f is known. has_one start facts standings carried shared rows row f is known

pub returns-clause-one : goal.returns-clause-one
returns-clause-one c = λ start facts standings carried shared rows sorted. none_has_two start facts standings carried shared rows sorted
