use Rattle.std.proofs.Common.{◌≡◌, get_or, sym, ap, ◌∙◌}
use Rattle.k_lex_macros.specs.declared.macros.Lexeme.{Lexeme}
use Rattle.k_lex_macros.specs.Macros.{same_kind}
use Rattle.k_lex_macros.proofs.MacroLaws
use Rattle.k_lex.proofs.lines.definitions.stands_at.Goals as goal

pub returns-then-at-body-clause-found : goal.returns-then-at-body-clause-found
returns-then-at-body-clause-found c =
    let test : c.eq.result ≡ same_kind (get_or c.args.body.now c.args.at c.index-body-at.result).what c.args.what.now = c.eq.ensures in
    test ∙ ap (λ (x : Lexeme). same_kind x.what c.args.what.now) (sym c.index-body-at.is)
    ∙ MacroLaws.stands_there c.args.body.now c.args.at c.index-body-at.result c.args.what.now c.if-at-body.true c.index-body-at.is

pub returns-else-at-body-clause-found : goal.returns-else-at-body-clause-found
returns-else-at-body-clause-found c = MacroLaws.stands_past c.args.body.now c.args.at c.args.what.now c.if-at-body.false
