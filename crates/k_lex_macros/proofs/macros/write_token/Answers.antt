use Rattle.std.proofs.Common.{◌++◌, [], ◌∷◌, map, ap, sym, ◌∙◌}
use Rattle.k_lex_macros.specs.declared.macros.Lexeme.{Lexeme}
use Rattle.k_lex_macros.specs.Macros.{placed}
use Rattle.k_lex_macros.proofs.PlanLaws
use Rattle.k_lex_macros.proofs.macros.write_token.Goals as goal

pub returns : goal.returns
returns c =
    let old = c.args.tokens.now in
    let x = c.index-body-at.result in
    c.in_ok-push.ensures.ok
    ∙ ap (λ w. old ++ record { what = w; place = c.args.place } ∷ []) (c.in_ok-what.ensures ∙ ap (λ (y : Lexeme). y.what) (sym c.index-body-at.is))
    ∙ ap (λ t. old ++ map (placed c.args.place) t) (sym (PlanLaws.token_there c.args.body.now c.args.at x c.requires c.index-body-at.is))
