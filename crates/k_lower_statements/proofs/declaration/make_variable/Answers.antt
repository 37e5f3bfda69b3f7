use Rattle.k_code.specs.declared.instruction.Do.TheVariants.{Address}
use Rattle.k_code.specs.declared.instruction.Home.TheVariants.{Local}
use Rattle.k_lower_code.specs.Declarations.{begins_object}
use Rattle.k_lower_code.specs.Pieces.{◌>>>◌, does}
use Rattle.k_lower_expressions.specs.Arounds.{inside_of, program_of}
use Rattle.k_lower_expressions.proofs.Emitted.{behind}
use Rattle.k_lower_statements.proofs.declaration.make_variable.Goals as goal

pub returns : goal.returns
returns c =
    let a = c.args.around.now in
    let p = program_of a in
    let d = c.args.d.now in
    let begins = begins_object (inside_of a) d c.args.object d.init in
    behind {A = Unit {0}} {B = Unit {0}} (λ made. does p d.place (Address (Local c.args.object) 0 d.variable) >>> λ set_. begins) c.begin_object.result _ tt _ _ c.begin_object.new.out.items c.in_ok-does.ensures
    (behind {A = Unit {0}} {B = Unit {0}} (λ set_. begins) c.begin_object.result _ tt _ _ c.begin_object.new.out.items c.in_ok-does-2.ensures c.begin_object.ensures)
