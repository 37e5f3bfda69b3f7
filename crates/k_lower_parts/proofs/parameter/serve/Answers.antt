use Rattle.k_lower_expressions.specs.Arounds.{program_of}
use Rattle.k_lower_parts.proofs.Served.{none_served, one_served}
use Rattle.k_lower_parts.proofs.parameter.serve.Goals as goal

pub returns-then-variable-eq0 : goal.returns-then-variable-eq0
returns-then-variable-eq0 c =
    let v = c.args.variable.now in
    none_served (program_of c.args.around.now) c.args.r v.place c.args.number v.elements c.args.objects _ c.if-variable-eq0.true

pub returns : goal.returns
returns c =
    let v = c.args.variable.now in
    one_served (program_of c.args.around.now) c.args.r v.place c.args.number v.elements c.args.objects c.above.result _ _ c.if-variable-eq0.false c.above.ensures
    c.in_ok-make_parameter.ensures
