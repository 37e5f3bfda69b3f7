use Rattle.std.proofs.Common.{Option, sym, subst}
use Rattle.k_types_meaning.specs.declared.tree.expression.TExpr.{TExpr}
use Rattle.k_lower_code.specs.Statements.{returns_value}
use Rattle.k_lower_expressions.specs.Arounds.{inside_of}
use Rattle.k_lower_expressions.proofs.Emitted.{Emits}
use Rattle.k_lower_statements.specs.Sites.{site_of}
use Rattle.k_lower_statements.proofs.Sited.{return_emitted}
use Rattle.k_lower_statements.proofs.statement.leave.Goals as goal

pub returns-in-None : goal.returns-in-None
returns-in-None c =
    let w = inside_of c.args.around.now in
    return_emitted w c.args.spot.now (site_of c.args.site) c.does.result _ _ c.args.of.now
    (subst (λ (value : Option TExpr). Emits {A = Unit {0}} c.does.result (returns_value w c.args.spot.now.place value) c.args.out.now.items c.does.new.out.items) (sym c.in-None.is) c.does.ensures)

pub returns-in-Some : goal.returns-in-Some
returns-in-Some c =
    let w = inside_of c.args.around.now in
    return_emitted w c.args.spot.now (site_of c.args.site) c.leave_with.result _ _ c.args.of.now
    (subst (λ (value : Option TExpr). Emits {A = Unit {0}} c.leave_with.result (returns_value w c.args.spot.now.place value) c.args.out.now.items c.leave_with.new.out.items) (sym c.in-Some.is) c.leave_with.ensures)
