use Rattle.std.proofs.Common.{◌+◌, Bool, false, None, sym, subst}
use Rattle.k_lower_code.specs.Assignments.{after_old, changes, one}
use Rattle.k_lower_code.specs.Pieces.{◌>>>◌, only}
use Rattle.k_lower_expressions.specs.Arounds.{designates, program_of}
use Rattle.k_lower_expressions.proofs.Emitted.{Emitted, emitted_behind, ends}
use Rattle.k_lower_expressions.proofs.assignment.after_old.Goals as goal

pub returns : goal.returns
returns c =
    let p = program_of c.args.around.now in
    let n = c.args.node.now in
    let target = designates c.args.target in
    subst (λ (used : Bool). Emitted c.in_ok-kept.kept (after_old p n c.args.how used c.args.r target c.args.old) c.args.out.now.items c.change-2.new.out.items) (sym c.if-not-used.false)
    (emitted_behind _ (λ kept. changes p n c.args.how None false (c.args.r + 1) target one c.args.old >>> λ v. only kept) _ c.in_ok-kept.kept _ _ _ c.in_ok-kept.ensures
    (ends (λ v. c.in_ok-kept.kept) _ _ _ _ c.in_ok-change.ensures))
