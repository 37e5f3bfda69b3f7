use Rattle.std.proofs.Common.{◌≡◌, Result, Err, arith, sym, subst, rules}
use Rattle.k_sum.specs.declared.sum.Sum.{Sum}
use Rattle.k_top_answers.specs.declared.failure.Failure.{Failure}
use Rattle.k_top_lemmas.specs.Merges.{GivesRuns, added_to}
use Rattle.k_top_lemmas.proofs.Merging.{next_added, next_not_added, not_read}
use Rattle.k_top_merge.proofs.adding.next_runs.Goals as goal

pub returns-in_err-other-clause-gives : goal.returns-in_err-other-clause-gives
returns-in_err-other-clause-gives c =
    let same : c.from_residual.result ≡ Err c.in_err-other.field-0.0 = first_of (search rules, grind arith, cc) in
    subst (λ (r : Result Sum Failure). GivesRuns (added_to c.args.sum c.args.part.now) r c.args.part.now.file c.args.bytes.now) (sym same)
    (not_read (added_to c.args.sum c.args.part.now) c.in_err-other.field-0.0 c.args.part.now.file c.as_str-name.result.now c.args.bytes.now c.as_str-name.ensures c.in_err-other.ensures.reads)

pub returns-in_err-add_times-clause-gives : goal.returns-in_err-add_times-clause-gives
returns-in_err-add_times-clause-gives c =
    let same : c.from_residual-in_err-add_times.result ≡ Err c.in_err-add_times.field-0.0 = first_of (search rules, grind arith, cc) in
    subst (λ (r : Result Sum Failure). GivesRuns (added_to c.args.sum c.args.part.now) r c.args.part.now.file c.args.bytes.now) (sym same)
    (next_not_added c.args.part.now c.args.bytes.now c.as_str-name.result.now c.as_str-name.ensures c.args.sum c.in_ok-other.other c.add_times.new.sum c.in_ok-other.ensures.reads c.in_err-add_times.field-0.0
    c.in_err-add_times.ensures.adds)

pub returns-clause-gives : goal.returns-clause-gives
returns-clause-gives c =
    next_added c.args.part.now c.args.bytes.now c.as_str-name.result.now c.as_str-name.ensures c.args.sum c.in_ok-other.other c.add_times.new.sum c.in_ok-other.ensures.reads c.in_ok-add_times.ensures.adds
