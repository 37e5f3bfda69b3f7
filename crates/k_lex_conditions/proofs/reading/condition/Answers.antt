use Rattle.std.proofs.Common.{map, sym, subst, ap, ◌∙◌}
use Rattle.k_lex_conditions.specs.Conditions.{IsDecided}
use Rattle.k_lex_conditions.specs.Reading.{answer}
use Rattle.k_lex_conditions.proofs.Decided.{decided}
use Rattle.k_lex_conditions.proofs.reading.condition.Goals as goal

pub returns : goal.returns
returns c =
    subst (λ o. IsDecided c.args.names.now (map (λ t. t.what) c.args.tokens.now) o) (sym (c.answer.ensures ∙ ap answer c.in_ok-value_of.ensures))
    (decided c.args.names.now (map (λ t. t.what) c.args.tokens.now))
