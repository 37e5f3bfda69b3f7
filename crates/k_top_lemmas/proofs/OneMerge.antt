-- Files that are put together have one answer.
use Rattle.std.proofs.Common.{ℕ, zero, suc, ◌≡◌, refl, ap, sym, ◌∙◌, subst, arith, List, [], ◌∷◌, Option, Some, None, Result, Ok, Err, inl, inr}
use Rattle.k_dict_entries.proofs.Forests.{Alike-refl}
use Rattle.k_sum.proofs.Bounds.{bounds_both}
use Rattle.k_sum.specs.Laws.{forest_of}
use Rattle.k_sum.specs.SumText.{sum_text}
use Rattle.k_sum.specs.Sums.{both}
use Rattle.k_sum.specs.declared.sum.Sum.{Sum}
use Rattle.k_sum_merge.proofs.Kept.{kept, merged_have_bounds}
use Rattle.k_sum_order.proofs.Left.{text_is_one}
use Rattle.k_sum_order.specs.Order.{IsOrdered}
use Rattle.k_sum_read.proofs.AnyFiles.{any_merged}
use Rattle.k_sum_saved.specs.Merged.{IsMerged, of_both}
use Rattle.k_words.specs.declared.merging.Part.{Part}
use Rattle.k_top_answers.specs.declared.answer.Answer.{Answer}
use Rattle.k_top_answers.specs.declared.failure.Failure.{Failure}
use Rattle.k_top_answers.specs.declared.failure.Failure.TheVariants as why
use Rattle.k_top_answers.specs.Answers.{refusal}
use Rattle.k_top_answers.specs.Merges.{AnswersAdded, AnswersFinished, AnswersFirst, AnswersOthers, AnswersSum, AnswersSumFile, AnswersSumRead, IsMerge, PassesLimit, saving}
use Rattle.k_top_answers.specs.Steps.{AnswersFound, Outside, profile_limit}
use Rattle.k_top_lemmas.proofs.OneSum.{one_read, one_refused, read_not_refused}

-- two sums together are put together of files, where these are
both_merged : (sum other : Sum) → IsMerged sum → IsMerged other → sum.regions ≡ other.regions → ¬ PassesLimit sum other → IsMerged (both sum other)
both_merged sum other is more regions fits =
    of_both sum other is more regions (bounds_both sum other (merged_have_bounds sum is) (merged_have_bounds other more) (λ large. fits (inl large)))

-- a sum has one file
one_file : (sum a b : Sum) → IsMerged sum → IsOrdered sum a → IsOrdered sum b → sum_text a ≡ sum_text b
one_file sum a b is first second =
    let k = kept sum is in
    text_is_one sum sum a b k.tells k.tells k.none k.none (Alike-refl (forest_of sum)) refl refl refl refl first second

module _ (save : List ℕ) (one other : Answer) (outside : Outside) where
  abbrev one_fails : Failure → Type 0
  one_fails failure = one ≡ refusal failure

  abbrev other_fails : Failure → Type 0
  other_fails failure = other ≡ refusal failure

  one_finished : (file : List ℕ) (sum : Sum) → IsMerged sum → AnswersFinished one_fails (IsMerge save one) file sum → AnswersFinished other_fails (IsMerge save other) file sum
      → one ≡ other
  one_finished file sum is (inl (not_main, a)) (inl (not_main', b)) = a ∙ sym b
  one_finished file sum is (inl (not_main, a)) (inr (inl (main, past, b))) = absurd (not_main main)
  one_finished file sum is (inl (not_main, a)) (inr (inr (main, fits, b))) = absurd (not_main main)
  one_finished file sum is (inr (inl (main, past, a))) (inl (not_main, b)) = absurd (not_main main)
  one_finished file sum is (inr (inl (main, past, a))) (inr (inl (main', past', b))) = a ∙ sym b
  one_finished file sum is (inr (inl (main, past, a))) (inr (inr (main', fits, b))) = absurd (fits past)
  one_finished file sum is (inr (inr (main, fits, a))) (inl (not_main, b)) = absurd (not_main main)
  one_finished file sum is (inr (inr (main, fits, a))) (inr (inl (main', past, b))) = absurd (fits past)
  one_finished file sum is (inr (inr (main, fits, (x, first, a)))) (inr (inr (main', fits', (y, second, b)))) =
      a ∙ ap (saving save) (one_file sum x y is first second) ∙ sym b

  one_added : (P Q : Sum → Type 0) (file : List ℕ) → ((sum : Sum) → IsMerged sum → P sum → Q sum → one ≡ other) → (times : ℕ) (sum more : Sum) → IsMerged sum → IsMerged more
      → AnswersAdded one_fails file P times sum more → AnswersAdded other_fails file Q times sum more → one ≡ other
  one_added P Q file next zero sum more is is' a b = next sum is a b
  one_added P Q file next (suc times) sum more is is' (inl (differ, a)) (inl (differ', b)) = a ∙ sym b
  one_added P Q file next (suc times) sum more is is' (inl (differ, a)) (inr (inl (same, passes, b))) = absurd (differ same)
  one_added P Q file next (suc times) sum more is is' (inl (differ, a)) (inr (inr (same, fits, b))) = absurd (differ same)
  one_added P Q file next (suc times) sum more is is' (inr (inl (same, passes, a))) (inl (differ, b)) = absurd (differ same)
  one_added P Q file next (suc times) sum more is is' (inr (inl (same, passes, a))) (inr (inl (same', passes', b))) = a ∙ sym b
  one_added P Q file next (suc times) sum more is is' (inr (inl (same, passes, a))) (inr (inr (same', fits, b))) = absurd (fits passes)
  one_added P Q file next (suc times) sum more is is' (inr (inr (same, fits, a))) (inl (differ, b)) = absurd (differ same)
  one_added P Q file next (suc times) sum more is is' (inr (inr (same, fits, a))) (inr (inl (same', passes, b))) = absurd (fits passes)
  one_added P Q file next (suc times) sum more is is' (inr (inr (same, fits, a))) (inr (inr (same', fits', b))) =
      one_added P Q file next times (both sum more) more (both_merged sum more is is' same fits) is' a b

  one_first : (P Q : Sum → Type 0) (file : List ℕ) → ((sum : Sum) → IsMerged sum → P sum → Q sum → one ≡ other) → (times : ℕ) (sum : Sum) → IsMerged sum
      → AnswersFirst one_fails file P times sum → AnswersFirst other_fails file Q times sum → one ≡ other
  one_first P Q file next zero sum is a b = next sum is a b
  one_first P Q file next (suc times) sum is a b = one_added P Q file next times sum sum is is a b

  -- a file
  module _ (P Q : Sum → Type 0) (file : List ℕ) (next : (sum : Sum) → IsMerged sum → P sum → Q sum → one ≡ other) where
    one_sum_read : (bytes : List ℕ) (x y : Result Sum ℕ) → AnswersSumRead one_fails file P bytes x → AnswersSumRead other_fails file Q bytes y → one ≡ other
    one_sum_read bytes (Ok s) (Ok t) (reads, a) (reads', b) =
        let same : t ≡ s = one_read bytes t s reads' reads in next s (any_merged bytes (Ok s) reads) a (subst Q same b)
    one_sum_read bytes (Ok s) (Err place) (reads, a) (reads', b) = absurd (read_not_refused bytes s place reads reads')
    one_sum_read bytes (Err place) (Ok t) (reads, a) (reads', b) = absurd (read_not_refused bytes t place reads' reads)
    one_sum_read bytes (Err place) (Err place') (reads, a) (reads', b) =
        a ∙ ap (λ n. refusal (why.SavedIn file n)) (one_refused bytes place place' reads reads') ∙ sym b

    one_found : (content : Option (List ℕ))
        → AnswersFound one_fails profile_limit file (λ bytes. (read : Result Sum ℕ) × AnswersSumRead one_fails file P bytes read) content
        → AnswersFound other_fails profile_limit file (λ bytes. (read : Result Sum ℕ) × AnswersSumRead other_fails file Q bytes read) content → one ≡ other
    one_found None a b = a ∙ sym b
    one_found (Some bytes) (inl (long, a)) (inl (long', b)) = a ∙ sym b
    one_found (Some bytes) (inl (long, a)) (inr (fits, b)) = absurd (omega (arith, long, fits))
    one_found (Some bytes) (inr (fits, a)) (inl (long, b)) = absurd (omega (arith, long, fits))
    one_found (Some bytes) (inr (fits, (x, a))) (inr (fits', (y, b))) = one_sum_read bytes x y a b

    one_file_of : AnswersSumFile one_fails outside file P → AnswersSumFile other_fails outside file Q → one ≡ other
    one_file_of a b = one_found (outside.files file) a b

  -- the others
  one_others : (parts : List Part) (file : List ℕ) (sum : Sum) → IsMerged sum → AnswersOthers one_fails outside (IsMerge save one) parts file sum
      → AnswersOthers other_fails outside (IsMerge save other) parts file sum → one ≡ other
  one_others [] file sum is a b = one_finished file sum is a b
  one_others (part ∷ parts) file sum is a b =
      one_file_of (AnswersAdded one_fails part.file (AnswersOthers one_fails outside (IsMerge save one) parts part.file) part.times sum)
      (AnswersAdded other_fails part.file (AnswersOthers other_fails outside (IsMerge save other) parts part.file) part.times sum) part.file
      (λ read is'. one_added (AnswersOthers one_fails outside (IsMerge save one) parts part.file) (AnswersOthers other_fails outside (IsMerge save other) parts part.file) part.file
      (one_others parts part.file) part.times sum read is is') a b

  -- ALL
  pub one_merged : (parts : List Part) → AnswersSum one_fails outside (IsMerge save one) parts → AnswersSum other_fails outside (IsMerge save other) parts → one ≡ other
  one_merged [] a b = a ∙ sym b
  one_merged (part ∷ parts) a b =
      one_file_of (AnswersFirst one_fails part.file (AnswersOthers one_fails outside (IsMerge save one) parts part.file) part.times)
      (AnswersFirst other_fails part.file (AnswersOthers other_fails outside (IsMerge save other) parts part.file) part.times) part.file
      (λ read is. one_first (AnswersOthers one_fails outside (IsMerge save one) parts part.file) (AnswersOthers other_fails outside (IsMerge save other) parts part.file) part.file
      (one_others parts part.file) part.times read is) a b
