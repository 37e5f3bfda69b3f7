use Rattle.std.proofs.Common.{◌≡◌, Result, Ok, Err, refl, sym, subst, ap, inl, rules, arith}
use Rattle.k_top_answers.specs.declared.answer.Answer.{Answer}
use Rattle.k_top_answers.specs.declared.failure.Failure.{Failure}
use Rattle.k_top_answers.specs.declared.failure.Failure.TheVariants as why
use Rattle.k_top_answers.specs.Failures.{failure_of_saved}
use Rattle.k_top_lemmas.specs.Parts.{ShowsBytes}
use Rattle.k_top_lemmas.proofs.FileLemmas.{sum_refused}
use Rattle.k_top_commands.proofs.shown.sum_answer.Goals as goal

pub sum_text_of-requires : goal.sum_text_of-requires
sum_text_of-requires c = c.in_ok-sum.ensures.sum.0

pub returns-in_err-sum : goal.returns-in_err-sum
returns-in_err-sum c =
    let same : c.from_residual.result ≡ Err (failure_of_saved c.in_err-sum.field-0.0) = first_of (search rules, grind arith, cc) in
    subst (λ (r : Result Answer Failure). ShowsBytes r c.args.bytes.now c.args.form) (sym same)
    (sum_refused c.args.form c.args.bytes.now c.in_err-sum.field-0.0 c.requires c.in_err-sum.ensures.sum)

-- the report found no memory
pub returns-in_err-text : goal.returns-in_err-text
returns-in_err-text c =
    let same : c.from_residual-in_err-text.result ≡ Err why.NoMemory = first_of (search rules, grind arith, cc) in
    subst (λ (r : Result Answer Failure). ShowsBytes r c.args.bytes.now c.args.form) (sym same) (inl refl)

pub returns : goal.returns
returns c = (
  inl (c.requires, (Ok c.in_ok-sum.sum, (c.in_ok-sum.ensures.sum, (c.in_ok-text.text.items, c.in_ok-text.ensures, c.done.ensures)))),
  ap (λ (a : Answer). a.failure) c.done.ensures,
)
