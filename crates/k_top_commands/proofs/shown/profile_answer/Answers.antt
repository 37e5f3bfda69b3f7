use Rattle.std.proofs.Common.{◌≡◌, Result, Ok, Err, refl, sym, subst, ap, inl, inr, rules, arith}
use Rattle.k_top_answers.specs.declared.answer.Answer.{Answer}
use Rattle.k_top_answers.specs.declared.failure.Failure.{Failure}
use Rattle.k_top_answers.specs.declared.failure.Failure.TheVariants as why
use Rattle.k_top_answers.specs.Failures.{failure_of_saved}
use Rattle.k_top_lemmas.specs.Parts.{ShowsBytes}
use Rattle.k_top_lemmas.proofs.FileLemmas.{profile_refused}
use Rattle.k_top_commands.proofs.shown.profile_answer.Goals as goal

pub returns-in_err-saved : goal.returns-in_err-saved
returns-in_err-saved c =
    let same : c.from_residual.result ≡ Err (failure_of_saved c.in_err-saved.field-0.0) = first_of (search rules, grind arith, cc) in
    subst (λ (r : Result Answer Failure). ShowsBytes r c.args.bytes.now c.args.form) (sym same)
    (profile_refused c.args.form c.args.bytes.now c.in_err-saved.field-0.0 c.requires c.in_err-saved.ensures)

-- the report found no memory
pub returns-in_err-text : goal.returns-in_err-text
returns-in_err-text c =
    let same : c.from_residual-in_err-text.result ≡ Err why.NoMemory = first_of (search rules, grind arith, cc) in
    subst (λ (r : Result Answer Failure). ShowsBytes r c.args.bytes.now c.args.form) (sym same) (inl refl)

pub returns : goal.returns
returns c = (
  inr (c.requires, (Ok c.in_ok-saved.saved, (c.in_ok-saved.ensures, (c.in_ok-text.text.items, c.in_ok-text.ensures, c.done.ensures)))),
  ap (λ (a : Answer). a.failure) c.done.ensures,
)
