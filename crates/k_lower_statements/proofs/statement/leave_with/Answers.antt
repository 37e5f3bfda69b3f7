use Rattle.std.proofs.Common.{ℕ, Some, true, subst}
use Rattle.k_types_meaning.specs.declared.tree.expression.TExpr.{TExpr}
use Rattle.k_code.specs.declared.instruction.Do.TheVariants.{Return}
use Rattle.k_lower_code.specs.Declarations.{temporary}
use Rattle.k_lower_code.specs.Pieces.{◌>>>◌, does}
use Rattle.k_lower_expressions.specs.Arounds.{inside_of, lowered_in, program_of}
use Rattle.k_lower_expressions.proofs.Emitted.{Emits, behind}
use Rattle.k_lower_statements.proofs.statement.leave_with.Goals as goal

pub returns : goal.returns
returns c =
    let a = c.args.around.now in
    let p = program_of a in
    let given : TExpr → ℕ → Type 0 = λ e n. Emits {A = Unit {0}} c.does.result ((lowered_in a e).value true n >>> λ x. does p c.args.place (Return (Some x))) c.args.out.now.items c.does.new.out.items in
    subst (λ (e : TExpr). given e (temporary (inside_of a))) c.get.ensures (subst (λ (n : ℕ). given c.get.result.now n) c.in_ok-r.ensures
    (behind {B = Unit {0}} (λ x. does p c.args.place (Return (Some x))) c.does.result _ _ _ _ c.does.new.out.items c.in_ok-a.ensures c.does.ensures))
