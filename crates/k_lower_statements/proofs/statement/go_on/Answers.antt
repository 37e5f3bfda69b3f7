use Rattle.k_lower_expressions.specs.Arounds.{inside_of}
use Rattle.k_lower_statements.specs.Sites.{site_of}
use Rattle.k_lower_statements.proofs.Sited.{continue_emitted}
use Rattle.k_lower_statements.proofs.statement.go_on.Goals as goal

pub returns : goal.returns
returns c =
    continue_emitted (inside_of c.args.around.now) c.args.spot.now (site_of c.args.site) c.does.result _ _ c.does.ensures
