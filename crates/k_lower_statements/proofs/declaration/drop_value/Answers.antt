use Rattle.std.proofs.Common.{ℕ, false, subst}
use Rattle.k_lower_code.specs.Pieces.{◌>>>◌, only}
use Rattle.k_lower_expressions.specs.Arounds.{lowered_in}
use Rattle.k_lower_expressions.proofs.Emitted.{Emitted, ends}
use Rattle.k_lower_statements.proofs.declaration.drop_value.Goals as goal

pub returns : goal.returns
returns c =
    let a = c.args.around.now in
    subst (λ (n : ℕ). Emitted {A = Unit {0}} tt ((lowered_in a c.args.e.now).value false n >>> λ x. only tt) c.args.out.now.items c.value.new.out.items) c.in_ok-r.ensures
    (ends {B = Unit {0}} (λ x. tt) _ _ _ _ c.in_ok-value.ensures)
