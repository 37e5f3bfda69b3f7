use Rattle.std.proofs.Common.{ℕ, true, false, subst}
use Rattle.k_lower_code.specs.Assignments.{writes}
use Rattle.k_lower_code.specs.Pieces.{◌>>>◌, only}
use Rattle.k_lower_expressions.specs.Arounds.{designates, lowered_in, program_of}
use Rattle.k_lower_expressions.proofs.Emitted.{Emitted, emitted_behind, ends}
use Rattle.k_lower_statements.proofs.declaration.initialise.Goals as goal

pub returns : goal.returns
returns c =
    let a = c.args.around.now in
    let p = program_of a in
    let target = designates c.args.target in
    subst (λ (n : ℕ). Emitted {A = Unit {0}} tt ((lowered_in a c.args.e.now).value true n >>> λ x. writes p c.args.d.now.place false n target x >>> λ v. only tt) c.args.out.now.items c.write.new.out.items) c.in_ok-r.ensures
    (emitted_behind {B = Unit {0}} _ (λ x. writes p c.args.d.now.place false c.in_ok-r.r target x >>> λ v. only tt) _ tt _ _ _ c.in_ok-a.ensures
    (ends {B = Unit {0}} (λ v. tt) _ _ _ _ c.in_ok-write.ensures))
