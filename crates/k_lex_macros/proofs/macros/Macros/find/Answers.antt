use Rattle.std.proofs.Common.{◌∙◌}
use Rattle.k_lex_macros.proofs.IndexLaws
use Rattle.k_lex_macros.proofs.macros.Macros.find.Goals as goal

pub returns-clause-within : goal.returns-clause-within
returns-clause-within c = IndexLaws.within c.args.self.now c.args.name.now _ (c.copied.ensures ∙ c.get.ensures.value ∙ c.requires.numbers c.args.name.now)
