use Rattle.std.proofs.Common.{◌∙◌, ap, inl, inr, refl}
use Rattle.k_top_answers.specs.Failures.{failure_of_sum}
use Rattle.k_top_merge.proofs.refusing.not_added.Goals as goal

pub returns-in-Ok : goal.returns-in-Ok
returns-in-Ok c = inl (c.of_sum.ensures ∙ ap (λ n. failure_of_sum n c.args.fault) c.in-Ok.ensures)

pub returns-in-Err : goal.returns-in-Err
returns-in-Err c = inr refl
