use Rattle.std.proofs.Common.{ℕ, ◌+◌, true, None, subst}
use Rattle.k_code.specs.declared.instruction.Do.TheVariants.{Address, Store}
use Rattle.k_code.specs.declared.instruction.Home.TheVariants.{Local}
use Rattle.k_lower_code.specs.Pieces.{◌>>>◌, does, sets}
use Rattle.k_lower_expressions.specs.Arounds.{lowered_in, program_of}
use Rattle.k_lower_expressions.proofs.Emitted.{Emits, behind}
use Rattle.k_lower_statements.proofs.declaration.store.Goals as goal

pub returns : goal.returns
returns c =
    let a = c.args.around.now in
    let p = program_of a in
    let at = c.args.place in
    let e = lowered_in a c.args.e.now in
    let r = c.in_ok-r.r in
    let address = Address (Local c.args.object) c.args.element in
    subst (λ (n : ℕ). Emits {A = Unit {0}} c.does.result (e.value true n >>> λ x. sets p at address (n + 1) >>> λ y. does p at (Store y x None)) c.args.out.now.items c.does.new.out.items) c.in_ok-r.ensures
    (subst (λ (m : ℕ). Emits {A = Unit {0}} c.does.result (e.value true r >>> λ x. sets p at address m >>> λ y. does p at (Store y x None)) c.args.out.now.items c.does.new.out.items) c.in_ok-next.ensures
    (behind {B = Unit {0}} (λ x. sets p at address c.in_ok-next.next >>> λ y. does p at (Store y x None)) c.does.result _ _ _ _ c.does.new.out.items c.in_ok-a.ensures
    (behind {B = Unit {0}} (λ y. does p at (Store y c.in_ok-a.a None)) c.does.result _ _ _ _ c.does.new.out.items c.in_ok-at.ensures c.does.ensures)))
