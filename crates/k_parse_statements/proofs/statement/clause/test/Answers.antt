use Rattle.std.proofs.Common.{rules}
use Rattle.k_parse_statements.proofs.statement.clause.test.Goals as goal

pub returns-in-Goes : goal.returns-in-Goes
unfolding Rattle.k_parse_steps.specs.Statements.test
returns-in-Goes c = search rules

pub returns-in-Done : goal.returns-in-Done
unfolding Rattle.k_parse_steps.specs.Statements.test
returns-in-Done c = search rules

pub returns-in-Refused : goal.returns-in-Refused
unfolding Rattle.k_parse_steps.specs.Statements.test
returns-in-Refused c = search rules
