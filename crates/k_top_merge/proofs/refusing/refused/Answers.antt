use Rattle.std.proofs.Common.{◌∙◌, ap, inl, inr, refl}
use Rattle.k_top_answers.specs.Failures.{failure_of_saved_in}
use Rattle.k_top_merge.proofs.refusing.refused.Goals as goal

pub returns-in-Ok : goal.returns-in-Ok
returns-in-Ok c = inl (c.of_saved.ensures ∙ ap (λ n. failure_of_saved_in n c.args.fault) c.in-Ok.ensures)

pub returns-in-Err : goal.returns-in-Err
returns-in-Err c = inr refl
