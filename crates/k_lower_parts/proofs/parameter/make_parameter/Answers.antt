use Rattle.std.proofs.Common.{false, None}
use Rattle.k_code.specs.declared.instruction.Arg.TheVariants.{Reg}
use Rattle.k_code.specs.declared.instruction.Do.TheVariants.{Address, Store}
use Rattle.k_code.specs.declared.instruction.Home.TheVariants.{Local}
use Rattle.k_lower_code.specs.Pieces.{◌>>>◌, does, sets}
use Rattle.k_lower_expressions.specs.Arounds.{program_of}
use Rattle.k_lower_expressions.proofs.Emitted.{behind}
use Rattle.k_lower_parts.proofs.parameter.make_parameter.Goals as goal

pub returns : goal.returns
returns c =
    let p = program_of c.args.around.now in
    let place = c.args.variable.now.place in
    let n = c.args.number in
    let r = c.args.r in
    let home = Local c.args.object in
    let address = does p place (Address home 0 n) in
    behind {A = Unit {0}} {B = Unit {0}} (λ made. sets p place (Address home 0) r >>> λ at. does p place (Store at (Reg n false) None) >>> λ stored. address) c.does-3.result _ tt _ _ c.does-3.new.out.items c.in_ok-does.ensures
    (behind {B = Unit {0}} (λ at. does p place (Store at (Reg n false) None) >>> λ stored. address) c.does-3.result _ _ _ _ c.does-3.new.out.items c.in_ok-at.ensures
    (behind {A = Unit {0}} {B = Unit {0}} (λ stored. address) c.does-3.result _ tt _ _ c.does-3.new.out.items c.in_ok-does-2.ensures c.does-3.ensures))
