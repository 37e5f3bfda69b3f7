use Rattle.std.proofs.Common.{◌≡◌, Result, Err, inl, map, refl, sym, subst, rules, arith}
use Rattle.std.specs.Prelude.{string_bytes}
use Rattle.k_words.proofs.Within.{jobs_are_within}
use Rattle.k_top_answers.specs.declared.answer.Answer.{Answer}
use Rattle.k_top_answers.specs.declared.failure.Failure.{Failure}
use Rattle.k_top_answers.specs.Failures.{failure_of_usage}
use Rattle.k_top_lemmas.specs.Phases.{Around}
use Rattle.k_top_lemmas.specs.Streams.{StreamsAnswer}
use Rattle.k_top_lemmas.proofs.AskedLemmas.{usage_found}
use Rattle.k_top_lemmas.proofs.Streaming.{job_streamed}
use Rattle.k_top.proofs.asked.words_answer.Goals as goal

pub job_answer-requires-clause-within : goal.job_answer-requires-clause-within
job_answer-requires-clause-within g c = jobs_are_within (map string_bytes c.args.list.now) c.in_ok-job.job c.in_ok-job.ensures

pub returns-in_err-job : goal.returns-in_err-job
returns-in_err-job g c =
    let old : Around = record { files = g.F.Files.seen c.args.files.now; input = g.S.Source.seen c.args.input.now } in
    let same : c.from_residual.result ≡ Err (failure_of_usage c.in_err-job.field-0.0) = first_of (search rules, grind arith, cc) in
    let out = g.K.Sink.seen c.args.out.now in
    subst (λ (r : Result Answer Failure). StreamsAnswer r (map string_bytes c.args.list.now) old old out out) (sym same)
    (inl (usage_found (map string_bytes c.args.list.now) c.requires.none old old refl c.in_err-job.field-0.0 c.in_err-job.ensures, refl))

pub returns : goal.returns
returns g c =
    job_streamed (map string_bytes c.args.list.now) c.in_ok-job.job c.requires.none c.in_ok-job.ensures c.job_answer.result _ _ _ _ c.job_answer.ensures
