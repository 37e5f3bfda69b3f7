use Rattle.std.proofs.Common.{◌∙◌, arith}
use Rattle.k_lex_macros.proofs.MacroLaws
use Rattle.k_lex_macros.proofs.macros.Macros.body_at.Goals as goal

pub returns-then-number-len : goal.returns-then-number-len
returns-then-number-len c = c.as_slice.ensures ∙ MacroLaws.body_there c.args.self.now.list.items c.args.number c.index.result.now (omega arith) c.index.ensures

pub returns-else-number-len : goal.returns-else-number-len
returns-else-number-len c = MacroLaws.body_past c.args.self.now.list.items c.args.number (omega arith)
