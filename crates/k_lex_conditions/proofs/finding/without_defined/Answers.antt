use Rattle.k_lex_conditions.proofs.Found.{is_replaced}
use Rattle.k_lex_conditions.proofs.finding.without_defined.Goals as goal

pub returns : goal.returns
returns g c = is_replaced (g.N.Names.finds c.args.names.now) c.args.tokens.now c.in_ok-replaced_from.field-0 c.in_ok-replaced_from.ensures
