use Rattle.std.proofs.Common.{◌≡◌, ◌≤◌, Result, Err, sym, subst, rules, arith}
use Rattle.k_words.specs.declared.job.Job.TheVariants as job
use Rattle.k_top_answers.specs.declared.answer.Answer.{Answer}
use Rattle.k_top_answers.specs.declared.failure.Failure.{Failure}
use Rattle.k_top_answers.specs.declared.failure.Failure.TheVariants as why
use Rattle.k_top_lemmas.specs.Phases.{Around, FindsJob}
use Rattle.k_top_lemmas.proofs.AskedLemmas.{carried_failed, carried_found, carried_short}
use Rattle.k_top.proofs.asked.carried_job.Goals as goal

pub carried_answer-requires : goal.carried_answer-requires
carried_answer-requires g c = record {
  program = c.in_ok-ready.ensures.can_run;
  least = subst (λ n. 1 ≤ n) (sym c.in_ok-ready.ensures.steps) c.requires.steps.at_least;
  steps = subst (λ n. n ≤ 1000000000) (sym c.in_ok-ready.ensures.steps) c.requires.steps.at_most;
  some = c.requires.depth.at_least;
  tracked = c.requires.depth.at_most;
}

pub returns-in_err-ready : goal.returns-in_err-ready
returns-in_err-ready g c =
    let old : Around = record { files = g.F.Files.seen c.args.files.now; input = g.S.Source.seen c.args.input.now } in
    let new : Around = record { files = g.F.Files.seen c.make_ready.new.files; input = g.S.Source.seen c.make_ready.new.input } in
    let same : c.from_residual.result ≡ Err c.in_err-ready.field-0.0 = first_of (search rules, grind arith, cc) in
    subst (λ (r : Result Answer Failure). FindsJob r (job.Carried c.args.file c.args.steps c.args.depth c.args.latency c.args.storage) old new) (sym same)
    (carried_failed c.args.file c.args.latency c.args.steps c.args.depth old new c.args.storage c.in_err-ready.field-0.0 c.in_err-ready.ensures.ready)

pub returns-in_err-answer : goal.returns-in_err-answer
returns-in_err-answer g c =
    let old : Around = record { files = g.F.Files.seen c.args.files.now; input = g.S.Source.seen c.args.input.now } in
    let new : Around = record { files = g.F.Files.seen c.make_ready.new.files; input = g.S.Source.seen c.make_ready.new.input } in
    let same : c.from_residual-in_err-answer.result ≡ Err why.NoMemory = first_of (search rules, grind arith, cc) in
    subst (λ (r : Result Answer Failure). FindsJob r (job.Carried c.args.file c.args.steps c.args.depth c.args.latency c.args.storage) old new) (sym same)
    (carried_short c.args.file c.args.latency c.args.steps c.args.depth old new c.args.storage c.in_ok-ready.ready c.in_ok-ready.ensures.ready)

pub returns : goal.returns
returns g c =
    let old : Around = record { files = g.F.Files.seen c.args.files.now; input = g.S.Source.seen c.args.input.now } in
    let new : Around = record { files = g.F.Files.seen c.make_ready.new.files; input = g.S.Source.seen c.make_ready.new.input } in
    carried_found c.args.file c.args.latency c.args.steps c.args.depth old new c.args.storage c.in_ok-ready.ready c.in_ok-answer.answer c.in_ok-ready.ensures.ready c.in_ok-answer.ensures
