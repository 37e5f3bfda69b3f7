use Rattle.std.proofs.Common.{◌≡◌, ◌-◌, suc, Result, Err, arith, sym, subst, rules}
use Rattle.k_sum.specs.declared.sum.Sum.{Sum}
use Rattle.k_top_answers.specs.declared.failure.Failure.{Failure}
use Rattle.k_top_lemmas.specs.Merges.{GivesRuns, first_runs_of}
use Rattle.k_top_lemmas.proofs.Merging.{first_again, first_not_again, not_read}
use Rattle.k_top_merge.proofs.adding.with_again.Goals as goal

pub returns-in_err-again-clause-gives : goal.returns-in_err-again-clause-gives
returns-in_err-again-clause-gives c =
    let same : c.from_residual.result ≡ Err c.in_err-again.field-0.0 = first_of (search rules, grind arith, cc) in
    subst (λ (r : Result Sum Failure). GivesRuns (first_runs_of c.args.part.now) r c.args.part.now.file c.args.bytes.now) (sym same)
    (not_read (first_runs_of c.args.part.now) c.in_err-again.field-0.0 c.args.part.now.file c.as_str-name.result.now c.args.bytes.now c.as_str-name.ensures c.in_err-again.ensures.reads)

pub returns-in_err-add_times-clause-gives : goal.returns-in_err-add_times-clause-gives
returns-in_err-add_times-clause-gives c =
    let same : c.from_residual-in_err-add_times.result ≡ Err c.in_err-add_times.field-0.0 = first_of (search rules, grind arith, cc) in
    let again = c.requires.again in
    let more : c.args.part.now.times ≡ suc (c.args.part.now.times - 1) = omega (arith, again) in
    subst (λ (r : Result Sum Failure). GivesRuns (first_runs_of c.args.part.now) r c.args.part.now.file c.args.bytes.now) (sym same)
    (first_not_again c.args.part.now c.args.bytes.now c.as_str-name.result.now c.as_str-name.ensures c.args.sum c.in_ok-again.again c.add_times.new.sum c.requires.reads c.in_ok-again.ensures.reads
    (c.args.part.now.times - 1) more c.in_err-add_times.field-0.0 c.in_err-add_times.ensures.adds)

pub returns-clause-gives : goal.returns-clause-gives
returns-clause-gives c =
    let again = c.requires.again in
    let more : c.args.part.now.times ≡ suc (c.args.part.now.times - 1) = omega (arith, again) in
    first_again c.args.part.now c.args.bytes.now c.as_str-name.result.now c.as_str-name.ensures c.args.sum c.in_ok-again.again c.add_times.new.sum c.requires.reads c.in_ok-again.ensures.reads
    (c.args.part.now.times - 1) more c.in_ok-add_times.ensures.adds
