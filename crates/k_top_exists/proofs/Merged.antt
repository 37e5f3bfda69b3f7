-- Files that are put together have an answer.
use Rattle.std.proofs.Common.{◌≡◌, ◌<◌, ◌⊎◌, inl, inr, ℕ, zero, suc, List, [], ◌∷◌, Option, Some, None, Result, Ok, Err, refl, sym, ◌∙◌, arith, ◌+◌, ◌^◌}
use Rattle.std.proofs.lemmas.Bool.{cases_lt}
use Rattle.std.proofs.lemmas.Option.{none-some}
use Rattle.std.proofs.lemmas.Slice.Eq.{slice_eq-Decides}
use Rattle.std.specs.Cmp.Lexicographic.{pointwise}
use Rattle.k_optab.specs.declared.region.Region.{Region}
use Rattle.k_dict_entries.specs.Dictionary.{refusal}
use Rattle.k_dict_entries.specs.Tallies.{total}
use Rattle.k_dict_entries.specs.Trees.{size}
use Rattle.k_dict_entries.specs.declared.dict.Which.{Which}
use Rattle.k_dict_saved.specs.declared.fault.SavedFault.TheVariants.{NotSaved}
use Rattle.k_sum.proofs.Bounds.{bounds_both}
use Rattle.k_sum.proofs.Programs.{region_decides, region_eq}
use Rattle.k_sum.specs.Laws.{forest_of}
use Rattle.k_sum.specs.SumText.{sum_text}
use Rattle.k_sum.specs.Sums.{both}
use Rattle.k_sum.specs.declared.sum.Sum.{Sum}
use Rattle.k_sum_merge.proofs.Kept.{kept, merged_have_bounds}
use Rattle.k_sum_merge.specs.Merges.{IsPast}
use Rattle.k_sum_read.proofs.AnyFiles.{any_merged}
use Rattle.k_sum_read.specs.AnyFile.{ReadsAny}
use Rattle.k_sum_saved.specs.Merged.{IsMerged, of_both}
use Rattle.k_words.specs.declared.merging.Part.{Part}
use Rattle.k_words.specs.declared.usage.Usage.TheVariants as usage
use Rattle.k_top_answers.specs.declared.answer.Answer.{Answer}
use Rattle.k_top_answers.specs.declared.failure.Failure.{Failure}
use Rattle.k_top_answers.specs.declared.failure.Failure.TheVariants as why
use Rattle.k_top_answers.specs.Answers.{refusal as refused}
use Rattle.k_top_answers.specs.Merges.{AnswersAdded, AnswersFinished, AnswersFirst, AnswersOthers, AnswersSum, AnswersSumFile, AnswersSumRead, IsMerge, PassesLimit, saving}
use Rattle.k_top_answers.specs.Steps.{Outside, profile_limit}
use Rattle.k_top_exists.proofs.Answers.{Answered, found_answers}
use Rattle.k_top_exists.proofs.Deciding.{Decided, decided_by}
use Rattle.k_top_exists.proofs.SumDeciding.{roots_of_main}
use Rattle.k_top_exists.proofs.SumFiles.{runs_are_read}
use Rattle.k_top_exists.proofs.SumOrders.{ordered_exists}

-- an answer that refuses
abbrev refused_by : Answer → Failure → Type 0
refused_by a failure = a ≡ refused failure

-- two programs are one, or they are not
program_decided : (one other : List Region) → Decided (one ≡ other)
program_decided one other =
    let tells = slice_eq-Decides region_decides one other (pointwise region_eq one other) refl in decided_by (pointwise region_eq one other) (one ≡ other) tells.0 tells.1

-- two sums pass a limit together, or they do not
passes_decided : (sum other : Sum) → Decided (PassesLimit sum other)
passes_decided sum other = elim (cases_lt (sum.runs + other.runs) (2 ^ 32)) [
  | inr many ↦ inl (inl (inl many))
  | inl few ↦ elim (cases_lt (sum.work + other.work) (2 ^ 62)) [
    | inr much ↦ inl (inl (inr much))
    | inl little ↦ by_entries few little (refusal 0 0 (both sum other).dict) refl
  ]
]
  where
    by_entries : sum.runs + other.runs < 2 ^ 32 → sum.work + other.work < 2 ^ 62 → (found : Option Which) → refusal 0 0 (both sum other).dict ≡ found
        → Decided (PassesLimit sum other)
    by_entries few little (Some which) is = inl (inr (which, is))
    by_entries few little None is = inr no
      where
        no : PassesLimit sum other → ⊥
        no (inl (inl many)) = omega (arith, few, many)
        no (inl (inr much)) = omega (arith, little, much)
        no (inr (which, passed)) = none-some which (sym is ∙ passed)

-- a sum is past the limits of a file, or it is not
past_decided : (sum : Sum) → Decided (IsPast sum)
past_decided sum = elim (cases_lt 17592186044416 sum.work) [
  | inl much ↦ inl (inl much)
  | inr little ↦ elim (cases_lt 576460752303423488 (size (forest_of sum))) [
    | inl many ↦ inl (inr many)
    | inr few ↦ inr (λ past. elim past [ inl much ↦ omega (arith, little, much) | inr many ↦ omega (arith, few, many) ])
  ]
]

-- it has roots
some_roots : (sum : Sum) → IsMerged sum → 0 < total sum.roots
some_roots sum is = let has = kept sum is in omega (arith, has.some, has.bounds.count)

module _ (save : List ℕ) (outside : Outside) where
  -- the sum of all
  finished_answers : (file : List ℕ) (sum : Sum) → IsMerged sum → Answered (λ a. AnswersFinished (refused_by a) (IsMerge save a) file sum)
  finished_answers file sum is = elim (roots_of_main sum.regions sum.dict sum.roots (some_roots sum is)) [
    | inr not_main ↦ (refused (why.OtherProgram file), inl (not_main, refl))
    | inl main ↦ elim (past_decided sum) [
      | inl past ↦ (refused (why.SumLarge file), inr (inl (main, past, refl)))
      | inr fits ↦ (let ordered = ordered_exists sum (kept sum is).tells in (saving save (sum_text ordered.0), inr (inr (main, fits, (ordered.0, ordered.1, refl)))))
    ]
  ]

  -- the runs of one file
  module _ (N : Answer → Sum → Type 0) (file : List ℕ) (next : (sum : Sum) → IsMerged sum → Answered (λ a. N a sum)) where
    added_answers : (times : ℕ) (sum other : Sum) → IsMerged sum → IsMerged other → Answered (λ a. AnswersAdded (refused_by a) file (N a) times sum other)
    added_answers zero sum other is more = next sum is
    added_answers (suc times) sum other is more = elim (program_decided sum.regions other.regions) [
      | inr differ ↦ (refused (why.OtherProgram file), inl (differ, refl))
      | inl same ↦ elim (passes_decided sum other) [
        | inl passes ↦ (refused (why.SumLarge file), inr (inl (same, passes, refl)))
        | inr fits ↦
            (let joined : IsMerged (both sum other) =
            of_both sum other is more same (bounds_both sum other (merged_have_bounds sum is) (merged_have_bounds other more) (λ large. fits (inl large))) in
            let a : Answered (λ a. AnswersAdded (refused_by a) file (N a) times (both sum other) other) = added_answers times (both sum other) other joined more in
            (a.0, inr (inr (same, fits, a.1))))
      ]
    ]

    first_answers : (times : ℕ) (sum : Sum) → IsMerged sum → Answered (λ a. AnswersFirst (refused_by a) file (N a) times sum)
    first_answers zero sum is = next sum is
    first_answers (suc times) sum is = added_answers times sum sum is is

  -- a file, with whose sum this is done
  file_answers : (N : Answer → Sum → Type 0) (file : List ℕ) → ((sum : Sum) → IsMerged sum → Answered (λ a. N a sum))
      → Answered (λ a. AnswersSumFile (refused_by a) outside file (N a))
  file_answers N file next =
      found_answers profile_limit file (λ a bytes. (read : Result Sum ℕ) × AnswersSumRead (refused_by a) file (N a) bytes read) (λ bytes fits. by_bytes bytes (runs_are_read bytes))
      (outside.files file)
    where
      by_bytes : (bytes : List ℕ) → ((sum : Sum) × ReadsAny bytes (Ok sum)) ⊎ ((place : ℕ) × ReadsAny bytes (Err (NotSaved place)))
          → Answered (λ a. (read : Result Sum ℕ) × AnswersSumRead (refused_by a) file (N a) bytes read)
      by_bytes bytes (inl (sum, reads)) =
          let a : Answered (λ a. N a sum) = next sum (any_merged bytes (Ok sum) reads) in (a.0, (Ok sum, (reads, a.1)))
      by_bytes bytes (inr (place, reads)) = (refused (why.SavedIn file place), (Err place, (reads, refl)))

  others_answers : (parts : List Part) (file : List ℕ) (sum : Sum) → IsMerged sum → Answered (λ a. AnswersOthers (refused_by a) outside (IsMerge save a) parts file sum)
  others_answers [] file sum is = finished_answers file sum is
  others_answers (part ∷ parts) file sum is =
      file_answers (λ a. AnswersAdded (refused_by a) part.file (AnswersOthers (refused_by a) outside (IsMerge save a) parts part.file) part.times sum) part.file
      (λ read more. added_answers (λ a. AnswersOthers (refused_by a) outside (IsMerge save a) parts part.file) part.file (others_answers parts part.file) part.times sum read is more)

  -- MERGE
  pub merged_answers : (parts : List Part) → Answered (λ a. AnswersSum (refused_by a) outside (IsMerge save a) parts)
  merged_answers [] = (refused (why.Usage usage.NoFile), refl)
  merged_answers (part ∷ parts) =
      file_answers (λ a. AnswersFirst (refused_by a) part.file (AnswersOthers (refused_by a) outside (IsMerge save a) parts part.file) part.times) part.file
      (λ read is. first_answers (λ a. AnswersOthers (refused_by a) outside (IsMerge save a) parts part.file) part.file (others_answers parts part.file) part.times read is)
