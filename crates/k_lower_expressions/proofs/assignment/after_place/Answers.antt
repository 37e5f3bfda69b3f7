use Rattle.k_lower_code.specs.Assignments.{after_old}
use Rattle.k_lower_expressions.specs.Arounds.{designates, program_of}
use Rattle.k_lower_expressions.proofs.Emitted.{behind}
use Rattle.k_lower_expressions.proofs.assignment.after_place.Goals as goal

pub returns : goal.returns
returns c =
    let p = program_of c.args.around.now in
    behind (after_old p c.args.node.now c.args.how c.args.used c.args.r (designates c.args.target)) c.after_old.result _ _ _ _ _ c.in_ok-old.ensures c.after_old.ensures
