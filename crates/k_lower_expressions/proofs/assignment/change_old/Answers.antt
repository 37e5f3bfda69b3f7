use Rattle.k_lower_code.specs.Assignments.{changes}
use Rattle.k_lower_expressions.specs.Arounds.{designates, program_of}
use Rattle.k_lower_expressions.proofs.Emitted.{behind}
use Rattle.k_lower_expressions.proofs.assignment.change_old.Goals as goal

pub returns : goal.returns
returns c =
    let p = program_of c.args.around.now in
    behind (changes p c.args.node.now c.args.how c.args.by_of c.args.used c.args.r (designates c.args.target) c.args.by) c.change.result _ _ _ _ _ c.in_ok-old.ensures c.change.ensures
