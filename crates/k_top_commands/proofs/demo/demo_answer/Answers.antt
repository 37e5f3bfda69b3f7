use Rattle.std.proofs.Common.{◌≡◌, ◌≤◌, ◌∙◌, Result, Err, sym, subst, arith, rules}
use Rattle.k_top_answers.specs.declared.answer.Answer.{Answer}
use Rattle.k_top_answers.specs.declared.failure.Failure.{Failure}
use Rattle.k_top_answers.specs.declared.failure.Failure.TheVariants as why
use Rattle.k_top_lemmas.specs.Phases.{MakesDemo}
use Rattle.k_top_lemmas.proofs.DemoLemmas.{made, refused}
use Rattle.k_top_lemmas.proofs.LatencyLemmas.{standard_bounded}
use Rattle.k_top_commands.proofs.demo.demo_answer.Goals as goal

pub accept-requires : goal.accept-requires
accept-requires g c = standard_bounded c.standard.result c.standard.ensures

pub made_answer-requires-clause-fit : goal.made_answer-requires-clause-fit
made_answer-requires-clause-fit g c = record { program = c.in_ok-program.ensures.can_run; least = (let low : 1 ≤ 100000000 = omega arith in low); steps = omega arith; some = (let low : 1 ≤ 24 = omega arith in low); tracked = (let high : 24 ≤ 32 = omega arith in high) }

pub returns-in_err-source : goal.returns-in_err-source
returns-in_err-source g c =
    let same : c.from_residual.result ≡ Err why.NoMemory = first_of (search rules, grind arith, cc) in
    subst (λ (r : Result Answer Failure). MakesDemo r c.args.number c.args.loops) (sym same) (tt, tt)

pub returns-in_err-program : goal.returns-in_err-program
returns-in_err-program g c =
    let same : c.from_residual-in_err-program.result ≡ Err c.in_err-program.field-0.0 = first_of (search rules, grind arith, cc) in
    subst (λ (r : Result Answer Failure). MakesDemo r c.args.number c.args.loops) (sym same)
    (refused c.args.number c.args.loops c.in_err-program.field-0.0 c.in_ok-source.source.items c.in_ok-source.ensures (rw (← c.as_slice.ensures.value) c.in_err-program.ensures.source))

pub returns-in_err-answer : goal.returns-in_err-answer
returns-in_err-answer g c =
    let same : c.from_residual-in_err-answer.result ≡ Err why.NoMemory = first_of (search rules, grind arith, cc) in
    subst (λ (r : Result Answer Failure). MakesDemo r c.args.number c.args.loops) (sym same) (tt, tt)

pub returns : goal.returns
returns g c =
    made c.args.number c.args.loops c.in_ok-answer.answer c.in_ok-program.program c.in_ok-source.source.items c.in_ok-source.ensures
    (rw (← c.as_slice.ensures.value) c.in_ok-program.ensures.source) (c.in_ok-program.ensures.latencies ∙ c.standard.ensures) c.new.result c.new.ensures c.in_ok-answer.ensures
