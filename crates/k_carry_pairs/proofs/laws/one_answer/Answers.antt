use Rattle.k_carry_pairs.proofs.Answer as all
use Rattle.k_carry_pairs.proofs.laws.one_answer.Goals as goal

pub returns : goal.returns
returns c = all.one_answer
