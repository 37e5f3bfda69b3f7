use Rattle.k_lower_expressions.specs.Arounds.{inside_of}
use Rattle.k_lower_statements.specs.Sites.{site_of}
use Rattle.k_lower_statements.proofs.Sited.{declaration_emitted}
use Rattle.k_lower_statements.proofs.statement.declare.Goals as goal

pub returns : goal.returns
returns c =
    declaration_emitted (inside_of c.args.around.now) c.args.spot.now (site_of c.args.site) c.args.list.now c.declare_all.result _ _ (c.declare_all.ensures c.args.spot.now.place)
