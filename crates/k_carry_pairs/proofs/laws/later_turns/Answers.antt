use Rattle.k_carry_pairs.proofs.Answer as all
use Rattle.k_carry_pairs.proofs.laws.later_turns.Goals as goal

pub returns : goal.returns
returns c = all.later_turns
