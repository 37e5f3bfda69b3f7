use Rattle.k_lower_expressions.specs.Arounds.{program_of}
use Rattle.k_lower.proofs.Parts.{function_emitted}
use Rattle.k_lower.proofs.function.emit_function.Goals as goal

pub returns : goal.returns
returns c =
    let a = c.args.around.now in
    let f = c.args.f.now in
    function_emitted (program_of a) a.function f c.in_ok-r.r a.variables.now c.in_ok-objects.objects c.end_function.result _ _ _ c.end_function.new.out.items
    c.requires.variables c.in_ok-r.ensures c.in_ok-objects.ensures (c.in_ok-statements.ensures c.requires.known) c.end_function.ensures
