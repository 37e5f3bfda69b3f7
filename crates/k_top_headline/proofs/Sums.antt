-- What `merge` saves, and what `show` tells of a sum.
use Rattle.std.proofs.Common.{ℕ, zero, suc, ◌≡◌, refl, sym, subst, ◌∙◌, ap, List, [], ◌∷◌, Option, Some, None, Result, Ok, Err, inl, inr}
use Rattle.k_edge.specs.SinkWords.{Grows}
use Rattle.k_sum.specs.SumText.{sum_text}
use Rattle.k_sum.specs.Sums.{both}
use Rattle.k_sum.specs.declared.sum.Sum.{Sum}
use Rattle.k_sum_merge.specs.Merges.{IsPast}
use Rattle.k_sum_order.specs.Order.{IsOrdered}
use Rattle.k_sum_read.specs.SumFile.{ReadsSum}
use Rattle.k_sum_saved.specs.SumLines.{AreOfMain}
use Rattle.k_words.specs.Words.{shown_as}
use Rattle.k_words.specs.declared.job.Form.{Form}
use Rattle.k_words.specs.declared.job.Job.{Job}
use Rattle.k_words.specs.declared.job.Job.TheVariants as job
use Rattle.k_words.specs.declared.merging.Part.{Part}
use Rattle.k_top_answers.specs.declared.answer.Answer.{Answer}
use Rattle.k_top_answers.specs.declared.answer.SavedFile.{SavedFile}
use Rattle.k_top_answers.specs.declared.failure.Failure.{Failure}
use Rattle.k_top_answers.specs.Answers.{AnswersJob, AnswersShown, AnswersSumShown, IsSumShown, done, refusal}
use Rattle.k_top_answers.specs.Clauses.{Fits, HoldsAfter, IsGiven, TellsEnd, World}
use Rattle.k_top_answers.specs.Failures.{status_of}
use Rattle.k_top_answers.specs.Merges.{AnswersAdded, AnswersFinished, AnswersFirst, AnswersOthers, AnswersSumFile, AnswersSumRead, IsMerge}
use Rattle.k_top_answers.specs.Steps.{AnswersFound, Outside, profile_limit}
use Rattle.k_top_lemmas.proofs.FileLemmas.{show_answered}
use Rattle.k_top_lemmas.proofs.OneSum.{begins_of, one_read, read_not_refused, sum_not_refused, sum_same}
use Rattle.k_top_headline.specs.Sums.{AddUp, HoldsRuns, MayAdd, MergeIsTold, SumIsTold, one_fewer, with_runs}
use Rattle.k_top_headline.proofs.Given.{job_given}
use Rattle.k_top_headline.proofs.Ready.{found_answered, held_outside}

-- ---- merge

module _ (F : Failure → Type 0) (outside : Outside) (old : World) (fits : Fits outside old) where
  -- what is answered of a file is answered of its runs
  module _ (file : List ℕ) (N : Sum → Type 0) (runs : Sum) (holds : HoldsRuns old file runs) where
    of_read : (read : Result Sum ℕ) → AnswersSumRead F file N holds.bytes read → N runs
    of_read (Ok other) (reads, next) = subst N (one_read holds.bytes other runs reads holds.reads) next
    of_read (Err place) (reads, fails) = absurd (read_not_refused holds.bytes runs place holds.reads reads)

    abbrev next : List ℕ → Type 0
    next bytes = (read : Result Sum ℕ) × AnswersSumRead F file N bytes read

    of_file : AnswersSumFile F outside file N → N runs
    of_file answers =
        let found : next holds.bytes =
        found_answered F profile_limit file next holds.bytes holds.few
        (subst (λ (content : Option (List ℕ)). AnswersFound F profile_limit file next content) (held_outside old.files.held outside.files file holds.bytes fits.files holds.held) answers) in
        of_read found.0 found.1

  -- and of those that are put to others
  module _ (file : List ℕ) (N : Sum → Type 0) where
    of_added : (times : ℕ) (runs others : Sum) → MayAdd times runs others → AnswersAdded F file N times runs others → N (with_runs times runs others)
    of_added zero runs others may answers = answers
    of_added (suc times) runs others may (inl (differ, fails)) = absurd (differ may.0)
    of_added (suc times) runs others may (inr (inl (same, passes, fails))) = absurd (may.1 passes)
    of_added (suc times) runs others may (inr (inr (same, below, answers))) = of_added times (both runs others) others may.2 answers

    of_first : (times : ℕ) (runs : Sum) → MayAdd (one_fewer times) runs runs → AnswersFirst F file N times runs → N (with_runs (one_fewer times) runs runs)
    of_first zero runs may answers = answers
    of_first (suc times) runs may answers = of_added times runs runs may answers

  module _ (N : Sum → Type 0) (all : Sum) where
    of_others : (parts : List Part) (file : List ℕ) (runs : Sum) → AddUp old parts runs all → AnswersOthers F outside N parts file runs
        → (last : List ℕ) × AnswersFinished F N last all
    of_others [] file runs is answers = (file, subst (λ (s : Sum). AnswersFinished F N file s) (sym is) answers)
    of_others (part ∷ parts) file runs (others, holds, may, more) answers =
        of_others parts part.file (with_runs part.times runs others) more
        (of_added part.file (AnswersOthers F outside N parts part.file) part.times runs others may
        (of_file part.file (AnswersAdded F part.file (AnswersOthers F outside N parts part.file) part.times runs) others holds answers))

    of_finished : (last : List ℕ) → AreOfMain all.regions all.dict all.roots → ¬ IsPast all → AnswersFinished F N last all → (ordered : Sum) × IsOrdered all ordered × N ordered
    of_finished last main below (inl (not_main, fails)) = absurd (not_main main)
    of_finished last main below (inr (inl (is_main, past, fails))) = absurd (below past)
    of_finished last main below (inr (inr (is_main, fits, made))) = made

-- MERGE
pub merge_is_told : MergeIsTold
merge_is_told words status old new save part parts all keeps is holds =
    let j : Job = job.Merge save (part ∷ parts) in
    let given : IsGiven (λ (answer : Answer). AnswersJob keeps.outside answer j) status old new = job_given words j status old new keeps is in
    let F : Failure → Type 0 = λ failure. given.answer ≡ refusal failure in
    let N : Sum → Type 0 = IsMerge save given.answer in
    let others : AnswersOthers F keeps.outside N parts part.file (with_runs (one_fewer part.times) holds.first holds.first) =
    of_first F keeps.outside old keeps.fits part.file (AnswersOthers F keeps.outside N parts part.file) part.times holds.first holds.may_add
    (of_file F keeps.outside old keeps.fits part.file (AnswersFirst F part.file (AnswersOthers F keeps.outside N parts part.file) part.times) holds.first holds.holds given.is_answer) in
    let finished = of_others F keeps.outside old keeps.fits N all parts part.file (with_runs (one_fewer part.times) holds.first holds.first) holds.others others in
    let made : (ordered : Sum) × IsOrdered all ordered × N ordered = of_finished F keeps.outside old keeps.fits N all finished.0 holds.main holds.fits finished.1 in
    let failure : given.answer.failure ≡ None = ap (λ (a : Answer). a.failure) made.2 in
    let saved : given.answer.saved ≡ Some (record { name = save; bytes = sum_text made.0 }) = ap (λ (a : Answer). a.saved) made.2 in
    let out : given.answer.out ≡ [] = ap (λ (a : Answer). a.out) made.2 in
    let after : HoldsAfter (Some (record { name = save; bytes = sum_text made.0 })) old.files new.files =
    subst (λ (s : Option SavedFile). HoldsAfter s old.files new.files) saved given.files in
    record {
      ordered = made.0;
      is_ordered = made.1;
      saved = after.1;
      kept = after.0;
      grows = subst (λ (t : List ℕ). Grows old.out.written t new.out.written) out given.grows;
      status_is = given.status_is ∙ ap status_of failure;
      told = subst (λ (f : Option Failure). TellsEnd f given.answer.more old.err new.err) failure given.told;
    }

-- ---- show

module _ (form : Form) (answer : Answer) (sum : Sum) (reads : ReadsSum (sum_text sum) (Ok sum)) where
  of_shown : (read : Result Sum ℕ) → AnswersSumShown form answer (sum_text sum) read → (text : List ℕ) × IsSumShown form sum text × (answer ≡ done text)
  of_shown (Ok other) (other_reads, (text, is, made)) =
      (text, subst (λ (s : Sum). IsSumShown form s text) (sum_same (sum_text sum) other sum other_reads reads) is, made)
  of_shown (Err place) (wrong, fails) = absurd (sum_not_refused (sum_text sum) sum place reads wrong)

  of_sum : AnswersShown form answer (sum_text sum) → (text : List ℕ) × IsSumShown form sum text × (answer ≡ done text)
  of_sum (inl (begins, (read, answers))) = of_shown read answers
  of_sum (inr (begins_not, answers)) = absurd (begins_not (begins_of (sum_text sum) sum refl))

-- SHOW
pub sum_is_told : SumIsTold
sum_is_told words status old new name sum form keeps is holds =
    let j : Job = shown_as name form in
    let given : IsGiven (λ (answer : Answer). AnswersJob keeps.outside answer j) status old new = job_given words j status old new keeps is in
    let F : Failure → Type 0 = λ failure. given.answer ≡ refusal failure in
    let next : List ℕ → Type 0 = AnswersShown form given.answer in
    let shown : next (sum_text sum) =
    found_answered F profile_limit name next (sum_text sum) holds.few
    (subst (λ (content : Option (List ℕ)). AnswersFound F profile_limit name next content)
    (held_outside old.files.held keeps.outside.files name (sum_text sum) keeps.fits.files holds.held) (show_answered name form keeps.outside given.answer given.is_answer)) in
    let report : (text : List ℕ) × IsSumShown form sum text × (given.answer ≡ done text) = of_sum form given.answer sum (holds.rules, refl) shown in
    let failure : given.answer.failure ≡ None = ap (λ (a : Answer). a.failure) report.2 in
    let out : given.answer.out ≡ report.0 = ap (λ (a : Answer). a.out) report.2 in
    record {
      text = report.0;
      shows = report.1;
      grows = subst (λ (t : List ℕ). Grows old.out.written t new.out.written) out given.grows;
      status_is = given.status_is ∙ ap status_of failure;
      told = subst (λ (f : Option Failure). TellsEnd f given.answer.more old.err new.err) failure given.told;
    }
