use Rattle.std.proofs.Common.{subst}
use Rattle.k_types_meaning.specs.declared.tree.expression.TExpr.{TExpr}
use Rattle.k_lower_code.specs.Declarations.{drops}
use Rattle.k_lower_expressions.specs.Arounds.{inside_of}
use Rattle.k_lower_expressions.proofs.Emitted.{Emits}
use Rattle.k_lower_statements.specs.Sites.{site_of}
use Rattle.k_lower_statements.proofs.Sited.{expression_emitted}
use Rattle.k_lower_statements.proofs.statement.evaluate.Goals as goal

pub returns : goal.returns
returns c =
    let w = inside_of c.args.around.now in
    expression_emitted w c.args.spot.now (site_of c.args.site) c.drop_value.result _ _ c.args.e.now
    (subst (λ (e : TExpr). Emits {A = Unit {0}} c.drop_value.result (drops w e) c.args.out.now.items c.drop_value.new.out.items) c.get.ensures c.drop_value.ensures)
