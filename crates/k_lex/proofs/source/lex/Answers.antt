use Rattle.std.proofs.Common.{ap}
use Rattle.k_lex.specs.Tokens.{answer}
use Rattle.k_lex.proofs.TokenLaws
use Rattle.k_lex.proofs.source.lex.Goals as goal

pub returns-in-Ok-clause-ends : goal.returns-in-Ok-clause-ends
returns-in-Ok-clause-ends c = TokenLaws.ends_once c.args.bytes.now c.in-Ok.list (ap answer c.in-Ok.ensures)

pub returns-in-Ok-clause-held : goal.returns-in-Ok-clause-held
returns-in-Ok-clause-held c = TokenLaws.numbers_held c.args.bytes.now c.in-Ok.list (ap answer c.in-Ok.ensures)

pub returns-in-Ok-clause-strings : goal.returns-in-Ok-clause-strings
returns-in-Ok-clause-strings c = TokenLaws.strings_fit c.args.bytes.now c.in-Ok.list (ap answer c.in-Ok.ensures)
