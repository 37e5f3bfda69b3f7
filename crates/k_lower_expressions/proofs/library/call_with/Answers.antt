use Rattle.std.proofs.Common.{ℕ, Option, subst, sym}
use Rattle.k_code.specs.declared.instruction.Arg.{Arg}
use Rattle.k_code.specs.declared.instruction.Do.TheVariants.{Call}
use Rattle.k_lower_code.specs.Library.{returned_to, value_returned}
use Rattle.k_lower_code.specs.Pieces.{◌>>>◌, does, only, settled}
use Rattle.k_lower_expressions.specs.Arounds.{program_of}
use Rattle.k_lower_expressions.proofs.Emitted.{Emitted, ends, settled_emitted}
use Rattle.k_lower_expressions.proofs.library.call_with.Goals as goal

pub returns : goal.returns
returns c =
    let p = program_of c.args.around.now in
    let n = c.args.node.now in
    let given = value_returned n.of c.args.r in
    let called : Option ℕ → Arg → Type 0 = λ to a. Emitted a (settled p n.place (does p n.place (Call c.args.function c.args.args to) >>> λ done. only given)) c.args.out.now.items c.does-3.new.out.items in
    subst (λ (a : Arg). called (returned_to n.of c.args.used c.args.r) a) (sym c.value_returned.ensures)
    (subst (λ (to : Option ℕ). called to given) c.returned_to-to.ensures
    (settled_emitted p n.place _ _ _ _ _ _ c.in_ok-does.ensures (ends {A = Unit {0}} (λ done. given) _ tt _ _ c.in_ok-does-2.ensures) c.in_ok-does-3.ensures))
