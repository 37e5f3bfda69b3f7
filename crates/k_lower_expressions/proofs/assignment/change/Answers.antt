use Rattle.k_lower_code.specs.Assignments.{writes}
use Rattle.k_lower_expressions.specs.Arounds.{designates, program_of}
use Rattle.k_lower_expressions.proofs.Emitted.{behind}
use Rattle.k_lower_expressions.proofs.assignment.change.Goals as goal

pub returns : goal.returns
returns c =
    let p = program_of c.args.around.now in
    behind (writes p c.args.node.now.place c.args.used c.args.r (designates c.args.target)) c.write.result _ _ _ _ _ c.in_ok-v.ensures c.write.ensures
