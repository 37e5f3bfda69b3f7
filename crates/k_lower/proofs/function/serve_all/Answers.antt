use Rattle.k_lower_expressions.specs.Arounds.{program_of}
use Rattle.k_lower.proofs.Parts.{served_all, served_each, served_more}
use Rattle.k_lower.proofs.function.serve_all.Goals as goal

pub returns-then-left-eq0 : goal.returns-then-left-eq0
returns-then-left-eq0 c =
    let a = c.args.around.now in
    served_all (program_of a) c.args.r c.args.f.now.close c.loop-variable.number c.loop-variable.left _ c.loop-variable.objects _ _ c.loop-variable.out.items
    c.if-left-eq0.true c.loop-variable.invariant

pub loop-variable-preserved : goal.loop-variable-preserved
loop-variable-preserved c =
    let a = c.args.around.now in
    served_more (program_of a) c.args.r c.args.f.now.close c.loop-variable.number c.in_ok-number.number c.loop-variable.left c.loop-variable.variable-index
    a.variables.now _ c.loop-variable.objects c.in_ok-objects.objects _ _ c.loop-variable.out.items c.serve.new.out.items
    c.in_ok-number.ensures c.if-left-eq0.false c.loop-variable-test.true c.loop-variable.invariant c.in_ok-objects.ensures

pub returns : goal.returns
returns c =
    let a = c.args.around.now in
    served_each (program_of a) c.args.r c.args.f.now.close c.loop-variable.number c.loop-variable.left c.loop-variable.variable-index a.variables.now
    c.loop-variable.objects _ _ c.loop-variable.out.items c.loop-variable-test.false c.loop-variable.invariant
