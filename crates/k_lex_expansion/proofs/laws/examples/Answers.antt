use Rattle.k_lex_expansion.proofs.Examples as examples
use Rattle.k_lex_expansion.proofs.laws.examples.Goals as goal

pub returns-clause-nested : goal.returns-clause-nested
returns-clause-nested c = examples.nested

pub returns-clause-own : goal.returns-clause-own
returns-clause-own c = examples.own

pub returns-clause-pasting : goal.returns-clause-pasting
returns-clause-pasting c = examples.pastes

pub returns-clause-nothing : goal.returns-clause-nothing
returns-clause-nothing c = examples.nothing

pub returns-clause-paste : goal.returns-clause-paste
returns-clause-paste c = examples.bad

pub returns-clause-arguments : goal.returns-clause-arguments
returns-clause-arguments c = examples.two
