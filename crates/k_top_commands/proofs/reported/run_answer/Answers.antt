use Rattle.std.proofs.Common.{◌≡◌, Result, Err, sym, subst, rules, arith}
use Rattle.k_top_answers.specs.declared.answer.Answer.{Answer}
use Rattle.k_top_answers.specs.declared.failure.Failure.{Failure}
use Rattle.k_top_answers.specs.declared.failure.Failure.TheVariants as why
use Rattle.k_top_lemmas.specs.Parts.{running_of}
use Rattle.k_top_lemmas.specs.Streams.{StreamsRun}
use Rattle.k_top_lemmas.proofs.Streaming.{report_short}
use Rattle.k_top_commands.proofs.reported.run_answer.Goals as goal

pub returns-in_err-answer : goal.returns-in_err-answer
returns-in_err-answer g c =
    let r = running_of c.args.ready.now in
    let old = g.K.Sink.seen c.args.out.now in
    let new = g.K.Sink.seen c.run_program.new.out in
    let (first, puts, is) = c.in_ok-profile.ensures in
    let same : c.from_residual-in_err-answer.result ≡ Err why.NoMemory = first_of (search rules, grind arith, cc) in
    subst (λ (result : Result Answer Failure). StreamsRun result c.args.depth c.args.dict c.args.save r old new) (sym same)
    (report_short r c.args.depth c.args.dict c.args.save first c.in_ok-profile.profile is old new puts)
