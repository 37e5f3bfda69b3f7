use Rattle.std.proofs.Common.{◌≡◌, Result, Err, sym, subst, rules, arith}
use Rattle.k_words.specs.declared.job.Job.TheVariants as job
use Rattle.k_top_answers.specs.declared.answer.Answer.{Answer}
use Rattle.k_top_answers.specs.declared.failure.Failure.{Failure}
use Rattle.k_top_answers.specs.declared.failure.Failure.TheVariants as why
use Rattle.k_top_lemmas.specs.Phases.{Around, FindsJob}
use Rattle.k_top_lemmas.proofs.ReplayLemmas.{replay_failed, replay_found, replay_short}
use Rattle.k_top.proofs.asked.replay_job.Goals as goal

pub replay_answer-requires-clause-fit : goal.replay_answer-requires-clause-fit
replay_answer-requires-clause-fit g c = c.in_ok-ready.ensures.can_run

pub replay_answer-requires-clause-some : goal.replay_answer-requires-clause-some
replay_answer-requires-clause-some g c = c.requires.workers.at_least

pub replay_answer-requires-clause-few : goal.replay_answer-requires-clause-few
replay_answer-requires-clause-few g c = c.requires.workers.at_most

pub returns-in_err-ready : goal.returns-in_err-ready
returns-in_err-ready g c =
    let old : Around = record { files = g.F.Files.seen c.args.files.now; input = g.S.Source.seen c.args.input.now } in
    let new : Around = record { files = g.F.Files.seen c.make_ready.new.files; input = g.S.Source.seen c.make_ready.new.input } in
    let same : c.from_residual.result ≡ Err c.in_err-ready.field-0.0 = first_of (search rules, grind arith, cc) in
    subst (λ (r : Result Answer Failure). FindsJob r (job.Replay c.args.file c.args.steps c.args.depth c.args.latency c.args.workers c.args.seed) old new) (sym same)
    (replay_failed c.args.workers c.args.seed c.args.file c.args.latency c.args.steps c.args.depth old new c.in_err-ready.field-0.0 c.in_err-ready.ensures.ready)

pub returns-in_err-answer : goal.returns-in_err-answer
returns-in_err-answer g c =
    let old : Around = record { files = g.F.Files.seen c.args.files.now; input = g.S.Source.seen c.args.input.now } in
    let new : Around = record { files = g.F.Files.seen c.make_ready.new.files; input = g.S.Source.seen c.make_ready.new.input } in
    let same : c.from_residual-in_err-answer.result ≡ Err why.NoMemory = first_of (search rules, grind arith, cc) in
    subst (λ (r : Result Answer Failure). FindsJob r (job.Replay c.args.file c.args.steps c.args.depth c.args.latency c.args.workers c.args.seed) old new) (sym same)
    (replay_short c.args.workers c.args.seed c.args.file c.args.latency c.args.steps c.args.depth old new c.in_ok-ready.ready c.in_ok-ready.ensures.ready)

pub returns : goal.returns
returns g c =
    let old : Around = record { files = g.F.Files.seen c.args.files.now; input = g.S.Source.seen c.args.input.now } in
    let new : Around = record { files = g.F.Files.seen c.make_ready.new.files; input = g.S.Source.seen c.make_ready.new.input } in
    replay_found c.args.workers c.args.seed c.args.file c.args.latency c.args.steps c.args.depth old new c.in_ok-ready.ready c.in_ok-answer.answer c.in_ok-ready.ensures.ready c.in_ok-answer.ensures
