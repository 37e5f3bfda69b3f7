use Rattle.std.proofs.Common.{◌≡◌, ◌∙◌, ◌≤◌, Result, Err, List, ℕ, sym, subst, rules, arith}
use Rattle.k_words.specs.declared.job.Job.TheVariants as job
use Rattle.k_top_answers.specs.declared.answer.Answer.{Answer}
use Rattle.k_top_answers.specs.declared.failure.Failure.{Failure}
use Rattle.k_top_answers.specs.declared.failure.Failure.TheVariants as why
use Rattle.k_top_answers.specs.Answers.{AnswersPage}
use Rattle.k_top_answers.specs.Steps.{run_of}
use Rattle.k_top_lemmas.specs.Parts.{running_of}
use Rattle.k_top_lemmas.specs.Phases.{Around, FindsJob}
use Rattle.k_top_lemmas.proofs.AskedLemmas.{page_failed, page_found, page_short, unasked}
use Rattle.k_top.proofs.asked.page_job.Goals as goal

pub page_answer-requires-clause-fit : goal.page_answer-requires-clause-fit
page_answer-requires-clause-fit g c = record {
  program = c.in_ok-ready.ensures.can_run;
  least = subst (λ n. 1 ≤ n) (sym c.in_ok-ready.ensures.steps) c.requires.within.steps.at_least;
  steps = subst (λ n. n ≤ 1000000000) (sym c.in_ok-ready.ensures.steps) c.requires.within.steps.at_most;
  some = c.requires.within.depth.at_least;
  tracked = c.requires.within.depth.at_most;
}

pub returns-in_err-name : goal.returns-in_err-name
returns-in_err-name g c =
    let old : Around = record { files = g.F.Files.seen c.args.files.now; input = g.S.Source.seen c.args.input.now } in
    let same : c.from_residual.result ≡ Err why.NoMemory = first_of (search rules, grind arith, cc) in
    subst (λ (r : Result Answer Failure). FindsJob r (job.Page c.args.file c.args.steps c.args.depth c.args.latency c.args.dict) old old) (sym same)
    (unasked (job.Page c.args.file c.args.steps c.args.depth c.args.latency c.args.dict) old)

pub returns-in_err-ready : goal.returns-in_err-ready
returns-in_err-ready g c =
    let old : Around = record { files = g.F.Files.seen c.args.files.now; input = g.S.Source.seen c.args.input.now } in
    let new : Around = record { files = g.F.Files.seen c.make_ready.new.files; input = g.S.Source.seen c.make_ready.new.input } in
    let same : c.from_residual-in_err-ready.result ≡ Err c.in_err-ready.field-0.0 = first_of (search rules, grind arith, cc) in
    subst (λ (r : Result Answer Failure). FindsJob r (job.Page c.args.file c.args.steps c.args.depth c.args.latency c.args.dict) old new) (sym same)
    (page_failed c.args.file c.args.latency c.args.steps c.args.depth old new c.args.dict c.in_err-ready.field-0.0 c.in_err-ready.ensures.ready)

pub returns-in_err-answer : goal.returns-in_err-answer
returns-in_err-answer g c =
    let old : Around = record { files = g.F.Files.seen c.args.files.now; input = g.S.Source.seen c.args.input.now } in
    let new : Around = record { files = g.F.Files.seen c.make_ready.new.files; input = g.S.Source.seen c.make_ready.new.input } in
    let same : c.from_residual-in_err-answer.result ≡ Err why.NoMemory = first_of (search rules, grind arith, cc) in
    subst (λ (r : Result Answer Failure). FindsJob r (job.Page c.args.file c.args.steps c.args.depth c.args.latency c.args.dict) old new) (sym same)
    (page_short c.args.file c.args.latency c.args.steps c.args.depth old new c.args.dict c.in_ok-ready.ready c.in_ok-ready.ensures.ready)

pub returns : goal.returns
returns g c =
    let old : Around = record { files = g.F.Files.seen c.args.files.now; input = g.S.Source.seen c.args.input.now } in
    let new : Around = record { files = g.F.Files.seen c.make_ready.new.files; input = g.S.Source.seen c.make_ready.new.input } in
    let ready = c.in_ok-ready.ready in
    let name : c.as_str-2.result.now ≡ c.args.file = c.as_str-2.ensures ∙ c.in_ok-name.ensures ∙ c.as_str.ensures in
    page_found c.args.file c.args.latency c.args.steps c.args.depth old new c.args.dict ready c.in_ok-answer.answer c.in_ok-ready.ensures.ready
    (subst (λ (n : List ℕ). AnswersPage n ready.program.source c.args.depth c.args.dict c.in_ok-answer.answer (running_of ready) (run_of (running_of ready)).end) name
    c.in_ok-answer.ensures)
