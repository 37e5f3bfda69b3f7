use Rattle.k_lower_expressions.specs.Arounds.{inside_of}
use Rattle.k_lower_statements.specs.Sites.{site_of}
use Rattle.k_lower_statements.proofs.Sited.{object_emitted, register_emitted}
use Rattle.k_lower_statements.proofs.declaration.declare.Goals as goal

pub returns-then-elements-eq0 : goal.returns-then-elements-eq0
returns-then-elements-eq0 c =
    register_emitted (inside_of c.args.around.now) c.args.d.now (site_of c.args.site) c.elements_of-elements.result _ _ c.elements_of-elements.ensures c.if-elements-eq0.true c.in_ok-begin_register.ensures

pub returns : goal.returns
returns c =
    object_emitted (inside_of c.args.around.now) c.args.d.now (site_of c.args.site) c.elements_of-elements.result c.above.result _ _ c.elements_of-elements.ensures c.if-elements-eq0.false c.above.ensures c.in_ok-make_variable.ensures
