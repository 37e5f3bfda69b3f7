use Rattle.std.proofs.Common.{◌≡◌, ◌≤◌, Result, Err, arith, sym, subst, rules}
use Rattle.k_sum.specs.declared.sum.Sum.{Sum}
use Rattle.k_top_answers.specs.declared.failure.Failure.{Failure}
use Rattle.k_top_lemmas.specs.Merges.{GivesRuns, first_runs_of}
use Rattle.k_top_lemmas.proofs.Merging.{first_once, not_read}
use Rattle.k_top_merge.proofs.adding.first_runs.Goals as goal

pub returns-in_err-sum-clause-gives : goal.returns-in_err-sum-clause-gives
returns-in_err-sum-clause-gives c =
    let same : c.from_residual.result ≡ Err c.in_err-sum.field-0.0 = first_of (search rules, grind arith, cc) in
    subst (λ (r : Result Sum Failure). GivesRuns (first_runs_of c.args.part.now) r c.args.part.now.file c.args.bytes.now) (sym same)
    (not_read (first_runs_of c.args.part.now) c.in_err-sum.field-0.0 c.args.part.now.file c.as_str.result.now c.args.bytes.now c.as_str.ensures c.in_err-sum.ensures.reads)

pub returns-else-part-gt1-clause-gives : goal.returns-else-part-gt1-clause-gives
returns-else-part-gt1-clause-gives c =
    let few : c.args.part.now.times ≤ 1 = omega (arith, c.if-part-gt1.false) in
    first_once c.args.part.now c.args.bytes.now c.in_ok-sum.sum c.in_ok-sum.ensures.reads few
