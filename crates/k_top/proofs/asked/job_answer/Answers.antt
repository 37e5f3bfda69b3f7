use Rattle.std.proofs.Common.{refl, sym, subst}
use Rattle.k_words.specs.Within.{IsJobWithin}
use Rattle.k_words.specs.declared.job.Job.{Job}
use Rattle.k_words.specs.declared.job.Job.TheVariants as job
use Rattle.k_top_lemmas.specs.Phases.{Around}
use Rattle.k_top_lemmas.specs.Streams.{StreamsJob}
use Rattle.k_top_lemmas.proofs.AskedLemmas.{demo_found}
use Rattle.k_top_lemmas.proofs.Streaming.{nothing_first}
use Rattle.k_top.proofs.Jobs.{untimed_left}
use Rattle.k_top.proofs.asked.job_answer.Goals as goal

pub run_job-requires-clause-within : goal.run_job-requires-clause-within
run_job-requires-clause-within g c = subst IsJobWithin c.in-Run.is c.requires.within

pub page_job-requires-clause-within : goal.page_job-requires-clause-within
page_job-requires-clause-within g c = subst IsJobWithin c.in-Page.is c.requires.within

pub annotate_job-requires-clause-within : goal.annotate_job-requires-clause-within
annotate_job-requires-clause-within g c = subst IsJobWithin c.in-Annotate.is c.requires.within

pub returns-in-Page : goal.returns-in-Page
returns-in-Page g c =
    let old : Around = record { files = g.F.Files.seen c.args.files.now; input = g.S.Source.seen c.args.input.now } in
    let new : Around = record { files = g.F.Files.seen c.page_job.new.files; input = g.S.Source.seen c.page_job.new.input } in
    let out = g.K.Sink.seen c.args.out.now in
    subst (λ (j : Job). StreamsJob c.page_job.result j old new out out) (sym c.in-Page.is)
    (nothing_first c.page_job.result (job.Page c.in-Page.file c.in-Page.steps c.in-Page.depth c.in-Page.latency c.in-Page.dict) old new out out refl c.page_job.ensures)

pub returns-in-Annotate : goal.returns-in-Annotate
returns-in-Annotate g c =
    let old : Around = record { files = g.F.Files.seen c.args.files.now; input = g.S.Source.seen c.args.input.now } in
    let new : Around = record { files = g.F.Files.seen c.annotate_job.new.files; input = g.S.Source.seen c.annotate_job.new.input } in
    let out = g.K.Sink.seen c.args.out.now in
    subst (λ (j : Job). StreamsJob c.annotate_job.result j old new out out) (sym c.in-Annotate.is)
    (nothing_first c.annotate_job.result (job.Annotate c.in-Annotate.file c.in-Annotate.steps c.in-Annotate.depth c.in-Annotate.latency c.in-Annotate.strict) old new out out refl c.annotate_job.ensures)

pub returns-in-Demo : goal.returns-in-Demo
returns-in-Demo g c =
    let old : Around = record { files = g.F.Files.seen c.args.files.now; input = g.S.Source.seen c.args.input.now } in
    let out = g.K.Sink.seen c.args.out.now in
    subst (λ (j : Job). StreamsJob c.demo_answer.result j old old out out) (sym c.in-Demo.is)
    (nothing_first c.demo_answer.result (job.Demo c.in-Demo.number c.in-Demo.loops) old old out out refl
    (demo_found c.demo_answer.result c.in-Demo.number c.in-Demo.loops old old refl c.demo_answer.ensures))

pub untimed_answer-requires-clause-untimed : goal.untimed_answer-requires-clause-untimed
untimed_answer-requires-clause-untimed g c = untimed_left c.args.job c.in_default.not-Run c.in_default.not-Page c.in_default.not-Annotate c.in_default.not-Demo

pub returns-in_default : goal.returns-in_default
returns-in_default g c =
    let old : Around = record { files = g.F.Files.seen c.args.files.now; input = g.S.Source.seen c.args.input.now } in
    let new : Around = record { files = g.F.Files.seen c.untimed_answer.new.files; input = g.S.Source.seen c.untimed_answer.new.input } in
    let out = g.K.Sink.seen c.args.out.now in
    nothing_first c.untimed_answer.result c.args.job old new out out refl c.untimed_answer.ensures
