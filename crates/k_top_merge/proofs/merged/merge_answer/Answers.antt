use Rattle.std.proofs.Common.{◌≡◌, ◌∙◌, List, Result, Ok, Err, ap, arith, inl, inr, refl, sym, subst, rules}
use Rattle.k_edge.specs.FilesWords.{FilesState}
use Rattle.k_words.specs.declared.merging.Part.{Part}
use Rattle.k_top_answers.specs.declared.answer.Answer.{Answer}
use Rattle.k_top_answers.specs.declared.failure.Failure.{Failure}
use Rattle.k_top_answers.specs.declared.failure.Failure.TheVariants as why
use Rattle.k_top_answers.specs.Merges.{saving}
use Rattle.k_top_lemmas.specs.Merges.{FindsSum, MergesFiles}
use Rattle.k_top_merge.proofs.merged.merge_answer.Goals as goal

pub returns-in_err-sum : goal.returns-in_err-sum
returns-in_err-sum g c =
    let old : FilesState = g.F.Files.seen c.args.files.now in
    let new : FilesState = g.F.Files.seen c.sum_of_parts.new.files in
    let same : c.from_residual.result ≡ Err c.in_err-sum.field-0.0 = first_of (search rules, grind arith, cc) in
    subst (λ (r : Result Answer Failure). MergesFiles r c.args.save c.args.parts.now old new) (sym same)
    (inl (subst (λ (l : List Part). FindsSum (Err c.in_err-sum.field-0.0) l old new) c.as_slice.ensures c.in_err-sum.ensures))

-- no memory was found for the file
pub returns-in_err-bytes : goal.returns-in_err-bytes
returns-in_err-bytes g c =
    let old : FilesState = g.F.Files.seen c.args.files.now in
    let new : FilesState = g.F.Files.seen c.sum_of_parts.new.files in
    let same : c.from_residual-in_err-bytes.result ≡ Err why.NoMemory = first_of (search rules, grind arith, cc) in
    subst (λ (r : Result Answer Failure). MergesFiles r c.args.save c.args.parts.now old new) (sym same)
    (inr (refl, (c.in_ok-sum.sum, subst (λ (l : List Part). FindsSum (Ok c.in_ok-sum.sum) l old new) c.as_slice.ensures c.in_ok-sum.ensures)))

pub returns : goal.returns
returns g c =
    let old : FilesState = g.F.Files.seen c.args.files.now in
    let new : FilesState = g.F.Files.seen c.sum_of_parts.new.files in (
      c.in_ok-sum.sum,
      subst (λ (l : List Part). FindsSum (Ok c.in_ok-sum.sum) l old new) c.as_slice.ensures c.in_ok-sum.ensures,
      c.saving.ensures ∙ ap (saving c.args.save) c.in_ok-bytes.ensures,
    )
