use Rattle.std.proofs.Common.{◌≡◌, ◌≤◌, Result, Err, inl, refl, sym, subst, rules, arith}
use Rattle.k_words.specs.declared.job.Job.TheVariants as job
use Rattle.k_top_answers.specs.declared.answer.Answer.{Answer}
use Rattle.k_top_answers.specs.declared.failure.Failure.{Failure}
use Rattle.k_top_lemmas.specs.Phases.{Around}
use Rattle.k_top_lemmas.specs.Streams.{StreamsJob}
use Rattle.k_top_lemmas.proofs.AskedLemmas.{run_failed}
use Rattle.k_top_lemmas.proofs.Streaming.{run_streamed}
use Rattle.k_top.proofs.asked.run_job.Goals as goal

pub run_answer-requires-clause-fit : goal.run_answer-requires-clause-fit
run_answer-requires-clause-fit g c = record {
  program = c.in_ok-ready.ensures.can_run;
  least = subst (λ n. 1 ≤ n) (sym c.in_ok-ready.ensures.steps) c.requires.within.steps.at_least;
  steps = subst (λ n. n ≤ 1000000000) (sym c.in_ok-ready.ensures.steps) c.requires.within.steps.at_most;
  some = c.requires.within.depth.at_least;
  tracked = c.requires.within.depth.at_most;
}

pub returns-in_err-ready : goal.returns-in_err-ready
returns-in_err-ready g c =
    let old : Around = record { files = g.F.Files.seen c.args.files.now; input = g.S.Source.seen c.args.input.now } in
    let new : Around = record { files = g.F.Files.seen c.make_ready.new.files; input = g.S.Source.seen c.make_ready.new.input } in
    let out = g.K.Sink.seen c.args.out.now in
    let same : c.from_residual.result ≡ Err c.in_err-ready.field-0.0 = first_of (search rules, grind arith, cc) in
    subst (λ (r : Result Answer Failure). StreamsJob r (job.Run c.args.file c.args.steps c.args.depth c.args.latency c.args.dict c.args.save) old new out out) (sym same)
    (inl (run_failed c.args.file c.args.latency c.args.steps c.args.depth old new c.args.dict c.args.save c.in_err-ready.field-0.0 c.in_err-ready.ensures.ready, refl))

pub returns : goal.returns
returns g c =
    let old : Around = record { files = g.F.Files.seen c.args.files.now; input = g.S.Source.seen c.args.input.now } in
    let new : Around = record { files = g.F.Files.seen c.make_ready.new.files; input = g.S.Source.seen c.make_ready.new.input } in
    run_streamed c.args.file c.args.latency c.args.steps c.args.depth c.args.dict c.args.save old new c.in_ok-ready.ready c.in_ok-ready.ensures.ready
    c.run_answer.result (g.K.Sink.seen c.args.out.now) (g.K.Sink.seen c.run_answer.new.out) c.run_answer.ensures
