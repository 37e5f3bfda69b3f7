-- Believed with the theorem on the top call, where sums are asked for.
-- The steps of `merge`: files are loaded and read one after the other, and their runs are put together. They are words as those of *Steps*: a step has
-- `failed`, what is so where it fails, and `next`, what is so of what it gives.
use Rattle.std.specs.Prelude.{ℕ, zero, suc, ◌≡◌, ◌≢◌, ◌⊎◌, List, [], ◌∷◌, Some, None, Result, Ok, Err}
use Rattle.k_dict_entries.specs.Dictionary.{refusal}
use Rattle.k_dict_entries.specs.declared.dict.Which.{Which}
use Rattle.k_dict_saved.specs.declared.fault.SavedFault.TheVariants.{NotSaved}
use Rattle.k_sum.specs.SumText.{sum_text}
use Rattle.k_sum.specs.Sums.{IsLarge, both}
use Rattle.k_sum.specs.declared.sum.Sum.{Sum}
use Rattle.k_sum_order.specs.Order.{IsOrdered}
use Rattle.k_sum_saved.specs.SumLines.{AreOfMain}
use Rattle.k_sum_read.specs.AnyFile.{ReadsAny}
use Rattle.k_sum_merge.specs.Merges.{IsPast}
use Rattle.k_words.specs.declared.merging.Part.{Part}
use Rattle.k_words.specs.declared.usage.Usage.TheVariants as usage
use Rattle.k_top_answers.specs.declared.answer.Answer.{Answer}
use Rattle.k_top_answers.specs.declared.failure.Failure.{Failure}
use Rattle.k_top_answers.specs.declared.failure.Failure.TheVariants as why
use Rattle.k_top_answers.specs.Steps.{AnswersFile, Outside, profile_limit}

-- what the bytes of a file are read to: the sum of its runs, a saved profile being that of one run; or it is refused at its first wrong line
abbrev pub AnswersSumRead : (Failure → Type 0) → List ℕ → (Sum → Type 0) → List ℕ → Result Sum ℕ → Type 0
AnswersSumRead failed file next bytes (Ok sum) = ReadsAny bytes (Ok sum) × next sum
AnswersSumRead failed file next bytes (Err place) = ReadsAny bytes (Err (NotSaved place)) × failed (why.SavedIn file place)

-- A FILE OF RUNS is loaded and read
abbrev pub AnswersSumFile : (Failure → Type 0) → Outside → List ℕ → (Sum → Type 0) → Type 0
AnswersSumFile failed outside file next =
    AnswersFile failed outside profile_limit file (λ bytes. (read : Result Sum ℕ) × AnswersSumRead failed file next bytes read)

-- two sums together pass a limit: of runs and their work, or of the dictionary
abbrev pub PassesLimit : Sum → Sum → Type 0
PassesLimit sum other = IsLarge sum other ⊎ ((which : Which) × (refusal 0 0 (both sum other).dict ≡ Some which))

-- THE RUNS OF A FILE are put to those of the files before it, so many times: they are runs of another program, or with them a limit is passed
abbrev pub AnswersAdded : (Failure → Type 0) → List ℕ → (Sum → Type 0) → ℕ → Sum → Sum → Type 0
AnswersAdded failed file next zero sum other = next sum
AnswersAdded failed file next (suc times) sum other =
    ((sum.regions ≢ other.regions) × failed (why.OtherProgram file))
    ⊎ ((sum.regions ≡ other.regions) × PassesLimit sum other × failed (why.SumLarge file))
    ⊎ ((sum.regions ≡ other.regions) × (¬ PassesLimit sum other) × AnswersAdded failed file next times (both sum other) other)

-- THE SUM OF ALL, whose last file is this, as its own file has it: its roots are not of one main, or it is too large for a file
abbrev pub AnswersFinished : (Failure → Type 0) → (Sum → Type 0) → List ℕ → Sum → Type 0
AnswersFinished failed next file sum =
    ((¬ AreOfMain sum.regions sum.dict sum.roots) × failed (why.OtherProgram file))
    ⊎ (AreOfMain sum.regions sum.dict sum.roots × IsPast sum × failed (why.SumLarge file))
    ⊎ (AreOfMain sum.regions sum.dict sum.roots × (¬ IsPast sum) × ((ordered : Sum) × IsOrdered sum ordered × next ordered))

-- the files behind one, one after the other, each as often as it is named
abbrev pub AnswersOthers : (Failure → Type 0) → Outside → (Sum → Type 0) → List Part → List ℕ → Sum → Type 0
AnswersOthers failed outside next [] file sum = AnswersFinished failed next file sum
AnswersOthers failed outside next (part ∷ parts) file sum =
    AnswersSumFile failed outside part.file (AnswersAdded failed part.file (AnswersOthers failed outside next parts part.file) part.times sum)

-- the first file, whose runs count once already
abbrev pub AnswersFirst : (Failure → Type 0) → List ℕ → (Sum → Type 0) → ℕ → Sum → Type 0
AnswersFirst failed file next zero sum = next sum
AnswersFirst failed file next (suc times) sum = AnswersAdded failed file next times sum sum

-- THE SUM OF FILES, each as often as it is named; where none is named, the words lack one
abbrev pub AnswersSum : (Failure → Type 0) → Outside → (Sum → Type 0) → List Part → Type 0
AnswersSum failed outside next [] = failed (why.Usage usage.NoFile)
AnswersSum failed outside next (part ∷ parts) =
    AnswersSumFile failed outside part.file (AnswersFirst failed part.file (AnswersOthers failed outside next parts part.file) part.times)

-- nothing is put on out, and these bytes are saved
abbrev pub saving : List ℕ → List ℕ → Answer
saving save bytes = record { out = []; failure = None; more = None; saved = Some (record { name = save; bytes = bytes }) }

-- MERGE: the sum is saved
abbrev pub IsMerge : List ℕ → Answer → Sum → Type 0
IsMerge save answer sum = answer ≡ saving save (sum_text sum)
