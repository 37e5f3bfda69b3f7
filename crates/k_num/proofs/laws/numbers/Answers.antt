use Rattle.k_num.proofs.ArithmeticLaws.{held_value, value_converted, held_negated, negated_converted, held_complement}
use Rattle.k_num.proofs.laws.numbers.Goals as goal

pub returns-clause-held : goal.returns-clause-held
returns-clause-held c = held_value

pub returns-clause-converted : goal.returns-clause-converted
returns-clause-converted c = value_converted

pub returns-clause-negated : goal.returns-clause-negated
returns-clause-negated c = held_negated

pub returns-clause-negated_converted : goal.returns-clause-negated_converted
returns-clause-negated_converted c = negated_converted

pub returns-clause-complement : goal.returns-clause-complement
returns-clause-complement c = held_complement
