use Rattle.std.proofs.Common.{◌≡◌, Result, Err, refl, sym, subst, rules, arith}
use Rattle.k_top_answers.specs.declared.answer.Answer.{Answer}
use Rattle.k_top_answers.specs.declared.failure.Failure.{Failure}
use Rattle.k_top_answers.specs.declared.failure.Failure.TheVariants as why
use Rattle.k_top_lemmas.specs.Parts.{GivesText}
use Rattle.k_top.proofs.asked.text_answer.Goals as goal

pub returns-in_err-answer : goal.returns-in_err-answer
returns-in_err-answer c =
    let same : c.from_residual.result ≡ Err why.NoMemory = first_of (search rules, grind arith, cc) in
    subst (λ (r : Result Answer Failure). GivesText r c.args.text.now) (sym same) refl
