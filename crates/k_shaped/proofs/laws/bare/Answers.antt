use Rattle.k_shaped.proofs.PlainLaws.{plain_numbers, plain_strings, plain_reals}
use Rattle.k_shaped.proofs.laws.bare.Goals as goal

pub returns-clause-numbers : goal.returns-clause-numbers
returns-clause-numbers c = plain_numbers

pub returns-clause-strings : goal.returns-clause-strings
returns-clause-strings c = plain_strings

pub returns-clause-reals : goal.returns-clause-reals
returns-clause-reals c = plain_reals
