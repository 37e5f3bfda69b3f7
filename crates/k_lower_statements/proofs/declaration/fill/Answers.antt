use Rattle.std.proofs.Common.{List, subst}
use Rattle.k_num.specs.declared.initial.Initial.{Initial}
use Rattle.k_code.specs.declared.instruction.Do.TheVariants.{Fill}
use Rattle.k_lower_code.specs.Declarations.{stores_items}
use Rattle.k_lower_code.specs.Pieces.{◌>>>◌, does}
use Rattle.k_lower_expressions.specs.Arounds.{inside_of, program_of}
use Rattle.k_lower_expressions.proofs.Emitted.{Emits, behind}
use Rattle.k_lower_statements.proofs.declaration.fill.Goals as goal

pub returns : goal.returns
returns c =
    let a = c.args.around.now in
    let p = program_of a in
    let items = stores_items (inside_of a) c.args.object c.args.items.now in
    subst (λ (values : List Initial). Emits {A = Unit {0}} c.store_items.result (does p c.args.place (Fill c.args.object values) >>> λ filled. items) c.args.out.now.items c.store_items.new.out.items) c.in_ok-values.ensures
    (behind {A = Unit {0}} {B = Unit {0}} (λ filled. items) c.store_items.result _ tt _ _ c.store_items.new.out.items c.in_ok-does.ensures c.store_items.ensures)
