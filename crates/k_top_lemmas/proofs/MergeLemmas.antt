-- What finding the answer of `merge` comes to.
use Rattle.std.proofs.Common.{ℕ, ◌≡◌, refl, ap, sym, subst, List, [], ◌∷◌, ◌++◌, Option, Some, None, Result, Ok, Err, inl, inr}
use Rattle.std.proofs.lemmas.List.{append-nil}
use Rattle.k_edge.specs.declared.request.Request.{Request}
use Rattle.k_sum.specs.SumText.{sum_text}
use Rattle.k_sum.specs.declared.sum.Sum.{Sum}
use Rattle.k_words.specs.declared.job.Job.TheVariants as job
use Rattle.k_words.specs.declared.merging.Part.{Part}
use Rattle.k_words.specs.declared.usage.Usage.TheVariants as usage
use Rattle.k_top_answers.specs.declared.answer.Answer.{Answer}
use Rattle.k_top_answers.specs.declared.failure.Failure.{Failure}
use Rattle.k_top_answers.specs.declared.failure.Failure.TheVariants as why
use Rattle.k_top_answers.specs.Answers.{refusal}
use Rattle.k_top_answers.specs.Merges.{AnswersAdded, AnswersFinished, AnswersFirst, AnswersOthers, AnswersSum, AnswersSumFile, AnswersSumRead, IsMerge, saving}
use Rattle.k_top_answers.specs.Requests.{parts_to_load}
use Rattle.k_top_answers.specs.Steps.{AnswersFound, Outside, profile_limit}
use Rattle.k_top_lemmas.specs.Merges.{FindsSum, MergesFiles}
use Rattle.k_top_lemmas.specs.Phases.{Around, FindsJob, of_files}
use Rattle.k_top_lemmas.proofs.Merging.{added_maps, first_maps}
use Rattle.k_top_lemmas.proofs.ReadyLemmas.{not_seen, refusal_maps}
use Rattle.k_top_lemmas.proofs.Statuses.{done_low}

-- what files answer is carried over, where its failures and its sums are
module _ (F G : Failure → Type 0) (on_failure : (failure : Failure) → F failure → G failure) (outside : Outside) where
  file_maps : (P Q : Sum → Type 0) → ((sum : Sum) → P sum → Q sum) → (file : List ℕ) → AnswersSumFile F outside file P → AnswersSumFile G outside file Q
  file_maps P Q on_sum file holds = found_maps (outside.files file) holds
    where
      read_maps : (bytes : List ℕ) (read : Result Sum ℕ) → AnswersSumRead F file P bytes read → AnswersSumRead G file Q bytes read
      read_maps bytes (Ok sum) (reads, holds) = (reads, on_sum sum holds)
      read_maps bytes (Err place) (reads, holds) = (reads, on_failure (why.SavedIn file place) holds)

      found_maps : (content : Option (List ℕ))
          → AnswersFound F profile_limit file (λ bytes. (read : Result Sum ℕ) × AnswersSumRead F file P bytes read) content
          → AnswersFound G profile_limit file (λ bytes. (read : Result Sum ℕ) × AnswersSumRead G file Q bytes read) content
      found_maps None holds = on_failure (why.Absent file) holds
      found_maps (Some bytes) (inl (long, holds)) = inl (long, on_failure (why.FileLong file) holds)
      found_maps (Some bytes) (inr (fits, (read, holds))) = inr (fits, (read, read_maps bytes read holds))

  module _ (P Q : Sum → Type 0) (on_sum : (sum : Sum) → P sum → Q sum) where
    finished_maps : (file : List ℕ) (sum : Sum) → AnswersFinished F P file sum → AnswersFinished G Q file sum
    finished_maps file sum (inl (not_main, holds)) = inl (not_main, on_failure (why.OtherProgram file) holds)
    finished_maps file sum (inr (inl (main, past, holds))) = inr (inl (main, past, on_failure (why.SumLarge file) holds))
    finished_maps file sum (inr (inr (main, fits, (ordered, is, holds)))) = inr (inr (main, fits, (ordered, is, on_sum ordered holds)))

    others_map : (parts : List Part) (file : List ℕ) (sum : Sum) → AnswersOthers F outside P parts file sum → AnswersOthers G outside Q parts file sum
    others_map [] file sum holds = finished_maps file sum holds
    others_map (part ∷ parts) file sum holds =
        file_maps (AnswersAdded F part.file (AnswersOthers F outside P parts part.file) part.times sum)
        (AnswersAdded G part.file (AnswersOthers G outside Q parts part.file) part.times sum)
        (λ read. added_maps F G (AnswersOthers F outside P parts part.file) (AnswersOthers G outside Q parts part.file) on_failure (others_map parts part.file)
        part.file part.times sum read) part.file holds

    pub sum_maps : (parts : List Part) → AnswersSum F outside P parts → AnswersSum G outside Q parts
    sum_maps [] holds = on_failure (why.Usage usage.NoFile) holds
    sum_maps (part ∷ parts) holds =
        file_maps (AnswersFirst F part.file (AnswersOthers F outside P parts part.file) part.times) (AnswersFirst G part.file (AnswersOthers G outside Q parts part.file) part.times)
        (λ read. first_maps F G (AnswersOthers F outside P parts part.file) (AnswersOthers G outside Q parts part.file) on_failure (others_map parts part.file)
        part.file part.times read) part.file holds

module _ (save : List ℕ) (parts : List Part) (old new : Around) (same_input : new.input ≡ old.input) where
  -- the sum is found
  with_sum : (answer : Answer) (all : Sum) → FindsSum (Ok all) parts old.files new.files → answer ≡ saving save (sum_text all)
      → FindsJob (Ok answer) (job.Merge save parts) old new
  with_sum answer all (files, told, (same, found)) is = (
    of_files files,
    record { files = told; input = not_seen old.input.left },
    (
      (parts_to_load parts, refl, same),
      inl (same_input, λ outside shows calls. calls),
      record { low = done_low answer.failure (ap (λ (a : Answer). a.failure) is); saves = inl (ap (λ (a : Answer). a.failure) is) },
      λ outside shows.
          sum_maps (λ failure. ⊥) (λ failure. answer ≡ refusal failure) (λ failure none. absurd none) outside (λ s. s ≡ all) (IsMerge save answer)
          (λ s same. subst (IsMerge save answer) (sym same) is) parts (found outside shows),
    ),
  )

  -- no memory was found behind it
  without : (all : Sum) → FindsSum (Ok all) parts old.files new.files → FindsJob (Err why.NoMemory) (job.Merge save parts) old new
  without all (files, told, (same, found)) = (
    of_files files,
    record { files = told; input = not_seen old.input.left },
    (inl (tt, (parts_to_load parts, refl, (parts_to_load parts, ([], append_none (parts_to_load parts)), same)), same_input), tt),
  )
    where
      append_none : (l : List Request) → l ≡ l ++ []
      append_none l = sym (append-nil l)

  -- it is not found
  without_sum : (failure : Failure) → FindsSum (Err failure) parts old.files new.files → FindsJob (Err failure) (job.Merge save parts) old new
  without_sum failure (files, told, (stop, found)) = (
    of_files files,
    record { files = told; input = not_seen old.input.left },
    (
      inl (tt, (parts_to_load parts, refl, stop), same_input),
      refusal_maps _ _ failure
          (λ everywhere outside shows.
          sum_maps (λ other. other ≡ failure) (λ other. refusal failure ≡ refusal other) (λ other is. ap refusal (sym is)) outside (λ s. ⊥) (IsMerge save (refusal failure))
          (λ s none. absurd none) parts (everywhere outside shows)) found,
    ),
  )

  pub merge_found : (result : Result Answer Failure) → MergesFiles result save parts old.files new.files → FindsJob result (job.Merge save parts) old new
  merge_found (Ok answer) (all, found, is) = with_sum answer all found is
  merge_found (Err failure) (inl found) = without_sum failure found
  merge_found (Err failure) (inr (short, (all, found))) = subst (λ f. FindsJob (Err f) (job.Merge save parts) old new) (sym short) (without all found)
