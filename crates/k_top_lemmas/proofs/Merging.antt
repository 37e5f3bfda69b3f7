-- The runs of files put together: what the calls of `merge` come to, step by step.
use Rattle.std.proofs.Common.{ℕ, zero, suc, ◌≡◌, ◌+◌, ◌≤◌, ◌⊎◌, refl, ap, arith, sym, subst, ◌∙◌, List, [], ◌∷◌, ◌++◌, length, Some, None, Result, Ok, Err, Vec, Global, inl, inr}
use Rattle.std.proofs.lemmas.List.{append-nil, append_assoc}
use Rattle.std.proofs.lemmas.Option.{none-some}
use Rattle.k_edge.specs.Fault.{Rose}
use Rattle.k_edge.specs.FilesWords.{FilesState, Has, Loads, after}
use Rattle.k_edge.specs.declared.files.LoadFault.{LoadFault}
use Rattle.k_edge.specs.declared.files.LoadFault.TheVariants as load
use Rattle.k_edge.specs.declared.request.Request.{Request}
use Rattle.k_edge.specs.declared.request.Request.TheVariants.{Load}
use Rattle.k_dict_entries.specs.Dictionary.{refusal}
use Rattle.k_dict_entries.specs.Entries.{AreInterned}
use Rattle.k_dict_entries.specs.declared.dict.DictFault.TheVariants as dict_fault
use Rattle.k_dict_entries.specs.declared.entry.Entry.{Entry}
use Rattle.k_dict_entries.proofs.Refusals.{refusal-behind}
use Rattle.k_dict_saved.specs.declared.fault.SavedFault.{SavedFault}
use Rattle.k_dict_saved.specs.declared.fault.SavedFault.TheVariants.{NotSaved, Memory}
use Rattle.k_sum.specs.Sums.{AddsTo, both}
use Rattle.k_sum.specs.declared.sum.Sum.{Sum}
use Rattle.k_sum.specs.declared.sum.SumFault.{SumFault}
use Rattle.k_sum.specs.declared.sum.SumFault.TheVariants as sum_fault
use Rattle.k_sum_merge.specs.Merges.{Finishes}
use Rattle.k_sum_read.specs.AnyFile.{ReadsAny}
use Rattle.k_words.specs.Parts.{AreNamedOnce, HaveNot}
use Rattle.k_words.specs.declared.merging.Part.{Part}
use Rattle.k_words.specs.declared.usage.Usage.TheVariants as usage
use Rattle.k_top_answers.specs.declared.failure.Failure.{Failure}
use Rattle.k_top_answers.specs.declared.failure.Failure.TheVariants as why
use Rattle.k_top_answers.specs.Failures.{failure_of_finish, failure_of_load, failure_of_saved_in, failure_of_sum}
use Rattle.k_top_answers.specs.Merges.{AnswersAdded, AnswersFinished, AnswersFirst, AnswersOthers, AnswersSum, AnswersSumFile, AnswersSumRead, PassesLimit}
use Rattle.k_top_answers.specs.Requests.{EndsWith, IsFront, parts_to_load}
use Rattle.k_top_answers.specs.Steps.{Outside, profile_limit}
use Rattle.k_top_lemmas.specs.Merges.{AddsFromHere, AddsOnce, AddsTimes, AreOfParts, FindsOthers, FindsSum, FinishesSum, GivesRuns, IsOrShort, LoadsBehind, LoadsRuns, OthersFromHere, ReadsRuns, StopsBehind, added_to, first_runs_of}
use Rattle.k_top_lemmas.specs.Parts.{IfRefusal, LoadsFile}
use Rattle.k_top_lemmas.specs.Phases.{AreTold, Everywhere, FilesAfter, IsNew, LoadsStop, Seen, Stops, of_files}
use Rattle.k_top_lemmas.proofs.OneSum.{one_read}
use Rattle.k_top_lemmas.proofs.ProgramLemmas.{long_of, refuses}
use Rattle.k_top_lemmas.proofs.ReadyLemmas.{refusal_maps}
use Rattle.k_top_lemmas.proofs.Requesting.{after_none, after_twice, some_asked}
use Rattle.k_top_lemmas.proofs.StepLemmas.{absent, loaded, too_long}

-- ---- runs are put to others

-- the entries of a dictionary are within its limits
within_limits : (entries : List Entry) → AreInterned entries → refusal 0 0 entries ≡ None
within_limits entries are =
    let few = are.few in let few_runs = are.few_runs in
    ap (refusal 0 0) (sym (append-nil entries)) ∙ refusal-behind 0 0 entries [] (omega (arith, few)) (omega (arith, few_runs))

pub adds_once : (old other new : Sum) (result : Result (Unit {0}) SumFault) → AddsTo old other result new → AreInterned new.dict → AddsOnce result old other new
adds_once old other new (Ok x) (regions, small, is, bounds) interned = (regions, fits, is)
  where
    fits : PassesLimit old other → ⊥
    fits (inl large) = small large
    fits (inr (which, passed)) = none-some which (sym (within_limits new.dict interned) ∙ ap (λ (s : Sum). refusal 0 0 s.dict) is ∙ passed)
adds_once old other new (Err sum_fault.Other) (differ, same) interned = differ
adds_once old other new (Err sum_fault.Large) (regions, large, same) interned = (regions, inl large)
adds_once old other new (Err (sum_fault.Dict (dict_fault.Full which))) (regions, small, passed, same) interned = (regions, inr (which, passed))
adds_once old other new (Err (sum_fault.Dict dict_fault.Memory)) same interned = tt

-- a step is carried over, where its failures and its sums are
pub added_maps : (F G : Failure → Type 0) (P Q : Sum → Type 0) → ((failure : Failure) → F failure → G failure) → ((sum : Sum) → P sum → Q sum)
    → (file : List ℕ) (times : ℕ) (sum other : Sum) → AnswersAdded F file P times sum other → AnswersAdded G file Q times sum other
added_maps F G P Q on_failure on_sum file zero sum other holds = on_sum sum holds
added_maps F G P Q on_failure on_sum file (suc times) sum other (inl (differ, holds)) = inl (differ, on_failure (why.OtherProgram file) holds)
added_maps F G P Q on_failure on_sum file (suc times) sum other (inr (inl (regions, passes, holds))) = inr (inl (regions, passes, on_failure (why.SumLarge file) holds))
added_maps F G P Q on_failure on_sum file (suc times) sum other (inr (inr (regions, fits, holds))) =
    inr (inr (regions, fits, added_maps F G P Q on_failure on_sum file times (both sum other) other holds))

pub first_maps : (F G : Failure → Type 0) (P Q : Sum → Type 0) → ((failure : Failure) → F failure → G failure) → ((sum : Sum) → P sum → Q sum)
    → (file : List ℕ) (times : ℕ) (sum : Sum) → AnswersFirst F file P times sum → AnswersFirst G file Q times sum
first_maps F G P Q on_failure on_sum file zero sum holds = on_sum sum holds
first_maps F G P Q on_failure on_sum file (suc times) sum holds = added_maps F G P Q on_failure on_sum file times sum sum holds

-- the failures of a step
added_case : (F : Failure → Type 0) (R : Type 0) (file : List ℕ) → (F (why.OtherProgram file) → R) → (F (why.SumLarge file) → R) → (times : ℕ) (sum other : Sum)
    → AnswersAdded F file (λ all. ⊥) times sum other → R
added_case F R file on_other on_large zero sum other none = absurd none
added_case F R file on_other on_large (suc times) sum other (inl (differ, holds)) = on_other holds
added_case F R file on_other on_large (suc times) sum other (inr (inl (regions, passes, holds))) = on_large holds
added_case F R file on_other on_large (suc times) sum other (inr (inr (regions, fits, holds))) =
    added_case F R file on_other on_large times (both sum other) other holds

first_case : (F : Failure → Type 0) (R : Type 0) (file : List ℕ) → (F (why.OtherProgram file) → R) → (F (why.SumLarge file) → R) → (times : ℕ) (sum : Sum)
    → AnswersFirst F file (λ all. ⊥) times sum → R
first_case F R file on_other on_large zero sum none = absurd none
first_case F R file on_other on_large (suc times) sum holds = added_case F R file on_other on_large times sum sum holds

-- SO MANY TIMES, one after the other
module _ (file : List ℕ) (times : ℕ) (sum other : Sum) where
  pub adds_start : AddsFromHere file times times sum sum other
  adds_start = record { ok = λ all holds. holds; err = λ failure holds. holds }

  module _ (left : ℕ) (here : Sum) (from : AddsFromHere file times left sum here other) where
    -- one more
    pub adds_more : (later : ℕ) (new : Sum) → left ≡ suc later → AddsOnce (Ok tt) here other new → AddsFromHere file times later sum new other
    adds_more later new more (regions, fits, is) = record {
      ok = λ all holds.
          from.ok all (subst (λ n. AnswersAdded (λ failure. ⊥) file (λ x. x ≡ all) n here other) (sym more)
          (inr (inr (regions, fits, subst (λ s. AnswersAdded (λ failure. ⊥) file (λ x. x ≡ all) later s other) is holds))));
      err = λ failure holds.
          from.err failure (subst (λ n. AnswersAdded (λ named. named ≡ failure) file (λ x. ⊥) n here other) (sym more)
          (inr (inr (regions, fits, subst (λ s. AnswersAdded (λ named. named ≡ failure) file (λ x. ⊥) later s other) is holds))));
    }

    -- one too many
    refused_here : (later : ℕ) → left ≡ suc later → (failure : Failure) → AnswersAdded (λ named. named ≡ failure) file (λ x. ⊥) (suc later) here other
        → (new : Sum) → AddsTimes (Err failure) times file sum other new
    refused_here later more failure holds new =
        inr (from.err failure (subst (λ n. AnswersAdded (λ named. named ≡ failure) file (λ x. ⊥) n here other) (sym more) holds))

    fault_here : (later : ℕ) (new : Sum) → left ≡ suc later → (fault : SumFault) → AddsOnce (Err fault) here other new → (failure : Failure)
        → failure ≡ failure_of_sum file fault → AddsTimes (Err failure) times file sum other new
    fault_here later new more sum_fault.Other differ failure is = refused_here later more failure (inl (differ, sym is)) new
    fault_here later new more sum_fault.Large (regions, passes) failure is = refused_here later more failure (inr (inl (regions, passes, sym is))) new
    fault_here later new more (sum_fault.Dict (dict_fault.Full which)) (regions, passes) failure is =
        refused_here later more failure (inr (inl (regions, passes, sym is))) new
    fault_here later new more (sum_fault.Dict dict_fault.Memory) adds failure is = inl is

    pub adds_failed : (later : ℕ) (new : Sum) → left ≡ suc later → (fault : SumFault) → AddsOnce (Err fault) here other new → (failure : Failure)
        → IsOrShort (failure_of_sum file fault) failure → AddsTimes (Err failure) times file sum other new
    adds_failed later new more fault adds failure (inr short) = inl short
    adds_failed later new more fault adds failure (inl is) = fault_here later new more fault adds failure is

    -- all
    pub adds_done : left ≡ 0 → AddsTimes (Ok tt) times file sum other here
    adds_done none = from.ok here (subst (λ n. AnswersAdded (λ failure. ⊥) file (λ x. x ≡ here) n here other) (sym none) refl)

-- ---- the runs of a file are read

pub read_refused : (file bytes : List ℕ) (fault : SavedFault) (failure : Failure) → ReadsAny bytes (Err fault) → IsOrShort (failure_of_saved_in file fault) failure
    → ReadsRuns (Err failure) file bytes
read_refused file bytes fault failure reads (inr short) = inl short
read_refused file bytes (NotSaved place) failure reads (inl is) = inr (place, reads, is)
read_refused file bytes Memory failure reads (inl is) = inl is

module _ (part : Part) (bytes : List ℕ) where
  -- the first file, which is named once
  pub first_once : (read : Sum) → ReadsAny bytes (Ok read) → part.times ≤ 1 → GivesRuns (first_runs_of part) (Ok read) part.file bytes
  first_once read reads few = (read, reads, by part.times few)
    where
      by : (times : ℕ) → times ≤ 1 → AnswersFirst (λ failure. ⊥) part.file (λ all. all ≡ read) times read
      by zero few = refl
      by (suc zero) few = refl
      by (suc (suc times)) few = absurd (omega (arith, few))

  -- or more often
  first_often : (F : Failure → Type 0) (P : Sum → Type 0) (read : Sum) (later : ℕ) → part.times ≡ suc later → AnswersAdded F part.file P later read read
      → AnswersFirst F part.file P part.times read
  first_often F P read later more holds = subst (λ n. AnswersFirst F part.file P n read) (sym more) holds

  -- the calls were given this name
  module _ (name : List ℕ) (named : name ≡ part.file) where
    pub first_again : (read again new : Sum) → ReadsAny bytes (Ok read) → ReadsRuns (Ok again) name bytes → (later : ℕ) → part.times ≡ suc later
        → AddsTimes (Ok tt) later name read again new → GivesRuns (first_runs_of part) (Ok new) part.file bytes
    first_again read again new reads reads' later more adds = (
      read,
      reads,
      first_often (λ failure. ⊥) (λ all. all ≡ new) read later more
          (subst (λ s. AnswersAdded (λ failure. ⊥) part.file (λ all. all ≡ new) later read s) (one_read bytes again read reads' reads)
          (subst (λ n. AnswersAdded (λ failure. ⊥) n (λ all. all ≡ new) later read again) named adds)),
    )

    pub first_not_again : (read again new : Sum) → ReadsAny bytes (Ok read) → ReadsRuns (Ok again) name bytes → (later : ℕ) → part.times ≡ suc later
        → (failure : Failure) → AddsTimes (Err failure) later name read again new → GivesRuns (first_runs_of part) (Err failure) part.file bytes
    first_not_again read again new reads reads' later more failure (inl short) = inl (inl short)
    first_not_again read again new reads reads' later more failure (inr adds) =
        inr (
          read,
          reads,
          first_often (λ other. other ≡ failure) (λ all. ⊥) read later more
              (subst (λ s. AnswersAdded (λ other. other ≡ failure) part.file (λ all. ⊥) later read s) (one_read bytes again read reads' reads)
              (subst (λ n. AnswersAdded (λ other. other ≡ failure) n (λ all. ⊥) later read again) named adds)),
        )

    -- another file
    pub next_added : (sum read new : Sum) → ReadsRuns (Ok read) name bytes → AddsTimes (Ok tt) part.times name sum read new
        → GivesRuns (added_to sum part) (Ok new) part.file bytes
    next_added sum read new reads adds = (read, reads, subst (λ n. AnswersAdded (λ failure. ⊥) n (λ all. all ≡ new) part.times sum read) named adds)

    pub next_not_added : (sum read new : Sum) → ReadsRuns (Ok read) name bytes → (failure : Failure) → AddsTimes (Err failure) part.times name sum read new
        → GivesRuns (added_to sum part) (Err failure) part.file bytes
    next_not_added sum read new reads failure (inl short) = inl (inl short)
    next_not_added sum read new reads failure (inr adds) =
        inr (read, reads, subst (λ n. AnswersAdded (λ other. other ≡ failure) n (λ all. ⊥) part.times sum read) named adds)

-- a file is not read
pub not_read : (does : (Failure → Type 0) → (Sum → Type 0) → Sum → Type 0) (failure : Failure) (file name bytes : List ℕ) → name ≡ file → ReadsRuns (Err failure) name bytes
    → GivesRuns does (Err failure) file bytes
not_read does failure file name bytes named reads = inl (subst (λ n. ReadsRuns (Err failure) n bytes) named reads)

-- the bytes of a file that was loaded
pub gives_loaded : (does : (Failure → Type 0) → (Sum → Type 0) → Sum → Type 0) (result : Result Sum Failure) (bytes : Vec ℕ Global) (name file : List ℕ) → name ≡ file
    → (old new : FilesState) → Loads (Ok bytes) name profile_limit old new → (lent : List ℕ) → lent ≡ bytes.items → GivesRuns does result file lent
    → LoadsRuns does result file old new
gives_loaded does (Ok sum) bytes name file named old new loads lent is gives =
    (bytes, subst (λ n. Loads (Ok bytes) n profile_limit old new) named loads, subst (λ b. GivesRuns does (Ok sum) file b) is gives)
gives_loaded does (Err failure) bytes name file named old new loads lent is stops =
    inl (bytes, subst (λ n. Loads (Ok bytes) n profile_limit old new) named loads, subst (λ b. StopsBehind does failure file b) is stops)

-- it is not loaded
pub not_loaded : (does : (Failure → Type 0) → (Sum → Type 0) → Sum → Type 0) (failure : Failure) (name file : List ℕ) → name ≡ file → (old new : FilesState)
    → LoadsFile (Err failure) name profile_limit old new → LoadsRuns does (Err failure) file old new
not_loaded does failure name file named old new unloaded = inr (inl (subst (λ n. LoadsFile (Err failure) n profile_limit old new) named unloaded))

-- ---- the sum of all is brought in order

pub finishes_sum : (file : List ℕ) (sum ordered : Sum) → Finishes sum (Ok ordered) → FinishesSum (Ok ordered) file sum
finishes_sum file sum ordered (main, fits, is_ordered, is_sum) = inr (inr (main, fits, (ordered, is_ordered, refl)))

finishes_by : (file : List ℕ) (sum : Sum) (fault : SumFault) (failure : Failure) → Finishes sum (Err fault) → failure ≡ failure_of_finish file fault
    → FinishesSum (Err failure) file sum
finishes_by file sum sum_fault.Other failure not_main is = inr (inl (not_main, sym is))
finishes_by file sum sum_fault.Large failure (main, past) is = inr (inr (inl (main, past, sym is)))
finishes_by file sum (sum_fault.Dict fault) failure finishes is = inl is

pub finishes_not : (file : List ℕ) (sum : Sum) (fault : SumFault) (failure : Failure) → Finishes sum (Err fault) → IsOrShort (failure_of_finish file fault) failure
    → FinishesSum (Err failure) file sum
finishes_not file sum fault failure finishes (inr short) = inl short
finishes_not file sum fault failure finishes (inl is) = finishes_by file sum fault failure finishes is

finished_case : (F : Failure → Type 0) (R : Type 0) (file : List ℕ) → (F (why.OtherProgram file) → R) → (F (why.SumLarge file) → R) → (sum : Sum)
    → AnswersFinished F (λ all. ⊥) file sum → R
finished_case F R file on_other on_large sum (inl (not_main, holds)) = on_other holds
finished_case F R file on_other on_large sum (inr (inl (main, past, holds))) = on_large holds
finished_case F R file on_other on_large sum (inr (inr (main, fits, (ordered, is, none)))) = absurd none

-- ---- what was asked of the files

front_behind : (x : Request) (made all : List Request) → IsFront made all → IsFront (x ∷ made) (x ∷ all)
front_behind x made all (rest, is) = (rest, ap (λ (l : List Request). x ∷ l) is)

ends_behind : (x : Request) (file : List ℕ) (made : List Request) → EndsWith file made → EndsWith file (x ∷ made)
ends_behind x file made (before, is) = (x ∷ before, ap (λ (l : List Request). x ∷ l) is)

-- a failure comes behind one request more
stops_behind : (x : Request) (failure : Failure) (loads made : List Request) → Stops failure loads made → Stops failure (x ∷ loads) (x ∷ made)
stops_behind x (why.Trapped trap place) loads made is = ap (λ (l : List Request). x ∷ l) is
stops_behind x (why.OutOfSteps steps) loads made is = ap (λ (l : List Request). x ∷ l) is
stops_behind x (why.Lex fault) loads made is = ap (λ (l : List Request). x ∷ l) is
stops_behind x (why.Parse fault) loads made is = ap (λ (l : List Request). x ∷ l) is
stops_behind x (why.Types fault) loads made is = ap (λ (l : List Request). x ∷ l) is
stops_behind x (why.Usage fault) loads made is = ap (λ (l : List Request). x ∷ l) is
stops_behind x (why.Absent file) loads made (front, ends) = (front_behind x made loads front, ends_behind x file made ends)
stops_behind x why.ReadFault loads made (front, some) = (front_behind x made loads front, some_asked x made)
stops_behind x why.WriteFault loads made is = ap (λ (l : List Request). x ∷ l) is
stops_behind x why.NoMemory loads made front = front_behind x made loads front
stops_behind x why.InputLong loads made is = ap (λ (l : List Request). x ∷ l) is
stops_behind x (why.Table fault) loads made is = ap (λ (l : List Request). x ∷ l) is
stops_behind x (why.Saved place) loads made is = ap (λ (l : List Request). x ∷ l) is
stops_behind x (why.FileLong file) loads made (front, ends) = (front_behind x made loads front, ends_behind x file made ends)
stops_behind x (why.SavedIn file place) loads made (front, ends) = (front_behind x made loads front, ends_behind x file made ends)
stops_behind x (why.OtherProgram file) loads made (front, ends) = (front_behind x made loads front, ends_behind x file made ends)
stops_behind x (why.SumLarge file) loads made (front, ends) = (front_behind x made loads front, ends_behind x file made ends)

module _ (x : Request) (made : List Request) (old mid new : FilesState) (first : mid ≡ after (x ∷ []) old) where
  -- what was asked behind it
  asked_behind : new ≡ after made mid → new ≡ after (x ∷ made) old
  asked_behind same = same ∙ ap (after made) first ∙ after_twice (x ∷ []) made old

  requests_behind : mid.requests ++ made ≡ old.requests ++ x ∷ made
  requests_behind = ap (λ (f : FilesState). f.requests ++ made) first ∙ append_assoc old.requests (x ∷ []) made

  -- what a failure leaves, behind one request more
  pub left_behind : (failure : Failure) → FilesAfter failure made mid new → FilesAfter failure (x ∷ made) old new
  left_behind (why.Trapped trap place) left = left
  left_behind (why.OutOfSteps steps) left = left
  left_behind (why.Lex fault) left = asked_behind left
  left_behind (why.Parse fault) left = asked_behind left
  left_behind (why.Types fault) left = asked_behind left
  left_behind (why.Usage fault) left = asked_behind left
  left_behind (why.Absent file) (rose, same) = (
    subst (λ (f : FilesState). Rose f.counts.misses new.counts.misses) first rose,
    same ∙ (λ i. record { held = (first i).held; counts = record (first i).counts { misses = new.counts.misses }; requests = requests_behind i }),
  )
  left_behind why.ReadFault (rose, same) = (
    subst (λ (f : FilesState). Rose f.counts.load_faults new.counts.load_faults) first rose,
    same ∙ (λ i. record { held = (first i).held; counts = record (first i).counts { load_faults = new.counts.load_faults }; requests = requests_behind i }),
  )
  left_behind why.WriteFault left = left
  left_behind why.NoMemory left = asked_behind left
  left_behind why.InputLong left = left
  left_behind (why.Table fault) left = asked_behind left
  left_behind (why.Saved place) left = asked_behind left
  left_behind (why.FileLong file) (rose, same) = (
    subst (λ (f : FilesState). Rose f.counts.longs new.counts.longs) first rose,
    same ∙ (λ i. record { held = (first i).held; counts = record (first i).counts { longs = new.counts.longs }; requests = requests_behind i }),
  )
  left_behind (why.SavedIn file place) left = asked_behind left
  left_behind (why.OtherProgram file) left = asked_behind left
  left_behind (why.SumLarge file) left = asked_behind left

-- a failure that names a file, whose load is the last request
named_stops : (file : List ℕ) (loads : List Request) (old new : FilesState) → new ≡ after (Load file ∷ []) old → (failure : Failure)
    → (failure ≡ why.OtherProgram file) ⊎ (failure ≡ why.SumLarge file) → LoadsStop failure (Load file ∷ loads) old new
named_stops file loads old new same failure (inl is) =
    subst (λ f. LoadsStop f (Load file ∷ loads) old new) (sym is) (Load file ∷ [], ((loads, refl), ([], refl)), same)
named_stops file loads old new same failure (inr is) =
    subst (λ f. LoadsStop f (Load file ∷ loads) old new) (sym is) (Load file ∷ [], ((loads, refl), ([], refl)), same)

-- ---- a file of runs

-- nothing was seen, or this file was
abbrev AreOne : List Seen → List ℕ → Type 0
AreOne [] file = Unit {0}
AreOne (s ∷ []) file = s.name ≡ file
AreOne (s ∷ t ∷ files) file = ⊥

-- a failure at this file, of those that are to be loaded from it on
abbrev StopsAt : Failure → List ℕ → List Request → (Outside → Type 0) → FilesState → FilesState → Type 0
StopsAt failure file loads answers old new =
    (files : List Seen) × AreTold old.held files × AreOne files file × LoadsStop failure (Load file ∷ loads) old new
    × IfRefusal failure (Everywhere (of_files files) answers)

module _ (does : (Failure → Type 0) → (Sum → Type 0) → Sum → Type 0) (next : Outside → Sum → Type 0) (file : List ℕ) (loads : List Request) (old new : FilesState)
    (does_maps : (F : Failure → Type 0) (P : Sum → Type 0) (read : Sum) → does F (λ all. ⊥) read → does F P read)
    (does_case : (failure : Failure) (read : Sum) → does (λ named. named ≡ failure) (λ all. ⊥) read → (failure ≡ why.OtherProgram file) ⊎ (failure ≡ why.SumLarge file)) where
  abbrev answers_of : Failure → Outside → Type 0
  answers_of failure outside = AnswersSumFile (λ named. named ≡ failure) outside file (does (λ named. named ≡ failure) (next outside))

  -- it is not loaded
  load_stops : (fault : LoadFault) → Loads (Err fault) file profile_limit old new
      → StopsAt (failure_of_load file fault) file loads (answers_of (failure_of_load file fault)) old new
  load_stops load.Absent (has, rose, same) = (
    record { name = file; content = None } ∷ [],
    (has, tt, tt),
    refl,
    (Load file ∷ [], ((loads, refl), ([], refl)), (rose, same)),
    λ outside shows. absent (λ named. named ≡ why.Absent file) outside profile_limit file _ shows.files.0 refl,
  )
  load_stops load.TooLong (has, rose, same) =
      let long = long_of old.held file profile_limit has in (
        record { name = file; content = Some long.0 } ∷ [],
        (long.1, tt, tt),
        refl,
        (Load file ∷ [], ((loads, refl), ([], refl)), (rose, same)),
        λ outside shows. too_long (λ named. named ≡ why.FileLong file) outside profile_limit file _ long.0 shows.files.0 long.2 refl,
      )
  load_stops load.Failed (rose, same) = ([], tt, tt, (Load file ∷ [], ((loads, refl), some_asked (Load file) []), (rose, same)), tt)
  load_stops load.Memory (inl same) = ([], tt, tt, (Load file ∷ [], (loads, refl), same), tt)
  load_stops load.Memory (inr same) = ([], tt, tt, ([], (Load file ∷ loads, refl), same ∙ after_none old), tt)

  -- its bytes decide
  module _ (bytes : Vec ℕ Global) (has : Has old.held file (Some bytes.items)) (fits : length bytes.items ≤ profile_limit) (same : new ≡ after (Load file ∷ []) old) where
    with_bytes : (failure : Failure) → LoadsStop failure (Load file ∷ loads) old new
        → ((outside : Outside) → (read : Result Sum ℕ) × AnswersSumRead (λ named. named ≡ failure) file (does (λ named. named ≡ failure) (next outside)) bytes.items read)
        → StopsAt failure file loads (answers_of failure) old new
    with_bytes failure stop decides = (
      record { name = file; content = Some bytes.items } ∷ [],
      (has, tt, tt),
      refl,
      stop,
      refuses (Everywhere (of_files (record { name = file; content = Some bytes.items } ∷ [])) (answers_of failure)) failure
          (λ outside shows. loaded (λ named. named ≡ failure) outside profile_limit file _ bytes.items shows.files.0 fits (decides outside)),
    )

    short_of : (failure : Failure) → failure ≡ why.NoMemory → StopsAt failure file loads (answers_of failure) old new
    short_of failure is = subst (λ f. StopsAt f file loads (answers_of f) old new) (sym is) ([], tt, tt, (Load file ∷ [], (loads, refl), same), tt)

    bytes_stop : (failure : Failure) → StopsBehind does failure file bytes.items → StopsAt failure file loads (answers_of failure) old new
    bytes_stop failure (inl (inl short)) = short_of failure short
    bytes_stop failure (inl (inr (place, reads, is))) =
        subst (λ f. StopsAt f file loads (answers_of f) old new) (sym is)
        (with_bytes (why.SavedIn file place) (Load file ∷ [], ((loads, refl), ([], refl)), same) (λ outside. (Err place, (reads, refl))))
    bytes_stop failure (inr (read, reads, holds)) =
        with_bytes failure (named_stops file loads old new same failure (does_case failure read holds))
        (λ outside. (Ok read, (reads, does_maps (λ named. named ≡ failure) (next outside) read holds)))

  -- IT FAILS
  runs_stop : (failure : Failure) → LoadsRuns does (Err failure) file old new → StopsAt failure file loads (answers_of failure) old new
  runs_stop failure (inl (bytes, (has, fits, same), stops)) = bytes_stop bytes has fits same failure stops
  runs_stop failure (inr (inl (fault, is, unloaded))) = subst (λ f. StopsAt f file loads (answers_of f) old new) (sym is) (load_stops fault unloaded)
  runs_stop failure (inr (inr (is, same))) =
      subst (λ f. StopsAt f file loads (answers_of f) old new) (sym is) ([], tt, tt, ([], (Load file ∷ loads, refl), same ∙ after_none old), tt)

-- ---- file by file

-- the files that were seen are none of this name
new_name : (name : List ℕ) (files : List Seen) (parts : List Part) → HaveNot name parts → AreOfParts files parts → IsNew name files
new_name name [] parts none of = tt
new_name name (s ∷ files) [] none of = absurd of
new_name name (s ∷ files) (part ∷ parts) (differs, none) (is, of) = ((λ same. differs (sym is ∙ same)), new_name name files parts none of)

one_of_parts : (files : List Seen) (part : Part) (parts : List Part) → AreOne files part.file → AreOfParts files (part ∷ parts)
one_of_parts [] part parts one = tt
one_of_parts (s ∷ []) part parts one = (one, tt)
one_of_parts (s ∷ t ∷ files) part parts one = absurd one

held_same : (x : Request) (old mid : FilesState) → mid ≡ after (x ∷ []) old → mid.held ≡ old.held
held_same x old mid first = ap (λ (f : FilesState). f.held) first

-- a file more was loaded, and others behind it
module _ (does : (Failure → Type 0) → (Sum → Type 0) → Sum → Type 0) (file : List ℕ) (sum : Sum) (old mid : FilesState)
    (does_maps : (F G : Failure → Type 0) (P Q : Sum → Type 0) → ((failure : Failure) → F failure → G failure) → ((s : Sum) → P s → Q s) → (read : Sum) → does F P read
    → does G Q read) where
  -- what decides of its bytes
  abbrev file_answers : (Failure → Type 0) → (Sum → Type 0) → Outside → Type 0
  file_answers F P outside = AnswersSumFile F outside file (does F P)

  then_answers : (bytes : Vec ℕ Global) → length bytes.items ≤ profile_limit → (read : Sum) → ReadsAny bytes.items (Ok read) → does (λ failure. ⊥) (λ all. all ≡ sum) read
      → (F : Failure → Type 0) (P : Sum → Type 0) (outside : Outside) → outside.files file ≡ Some bytes.items → P sum → file_answers F P outside
  then_answers bytes fits read reads holds F P outside has next =
      loaded F outside profile_limit file (λ b. (found : Result Sum ℕ) × AnswersSumRead F file (does F P) b found) bytes.items has fits
      (Ok read, (reads, does_maps (λ failure. ⊥) F (λ all. all ≡ sum) P (λ failure none. absurd none) (λ s is. subst P (sym is) next) read holds))

-- FROM HERE ON, behind this file
module _ (part : Part) (later : List Part) (last : List ℕ) (here : Sum) (mid : FilesState) (once : AreNamedOnce (part ∷ later)) where
  maps : (F G : Failure → Type 0) (P Q : Sum → Type 0) → ((failure : Failure) → F failure → G failure) → ((s : Sum) → P s → Q s) → (read : Sum)
      → added_to here part F P read → added_to here part G Q read
  maps F G P Q on_failure on_sum read = added_maps F G P Q on_failure on_sum part.file part.times here read

  -- one file more
  pub others_more : (sum : Sum) (next new : FilesState) (result : Result Sum Failure) → LoadsRuns (added_to here part) (Ok sum) part.file mid next
      → FindsOthers result later part.file sum next new → FindsOthers result (part ∷ later) last here mid new
  others_more sum next new (Ok all) (bytes, (has, fits, first), (read, reads, holds)) (files, told, of, (same, found)) = (
    record { name = part.file; content = Some bytes.items } ∷ files,
    (has, new_name part.file files later once.1 of, subst (λ held. AreTold held files) (held_same (Load part.file) mid next first) told),
    (refl, of),
    (
      asked_behind (Load part.file) (parts_to_load later) mid next new first same,
      λ outside shows.
          then_answers (added_to here part) part.file sum mid next maps bytes fits read reads holds (λ failure. ⊥)
          (AnswersOthers (λ failure. ⊥) outside (λ s. s ≡ all) later part.file) outside shows.files.0
          (found outside (record { files = shows.files.1; input = tt })),
    ),
  )
  others_more sum next new (Err failure) (bytes, (has, fits, first), (read, reads, holds)) (files, told, of, ((made, stops, left), found)) = (
    record { name = part.file; content = Some bytes.items } ∷ files,
    (has, new_name part.file files later once.1 of, subst (λ held. AreTold held files) (held_same (Load part.file) mid next first) told),
    (refl, of),
    (
      (
        Load part.file ∷ made,
        stops_behind (Load last) failure (Load part.file ∷ parts_to_load later) (Load part.file ∷ made) stops,
        left_behind (Load part.file) made mid next new first failure left,
      ),
      refusal_maps _ _ failure
          (λ everywhere outside shows.
          then_answers (added_to here part) part.file sum mid next maps bytes fits read reads holds (λ other. other ≡ failure)
          (AnswersOthers (λ other. other ≡ failure) outside (λ s. ⊥) later part.file) outside shows.files.0
          (everywhere outside (record { files = shows.files.1; input = tt }))) found,
    ),
  )

  behind_last : (failure : Failure) (new : FilesState)
      → StopsAt failure part.file (parts_to_load later) (λ outside. AnswersOthers (λ named. named ≡ failure) outside (λ s. ⊥) (part ∷ later) last here) mid new
      → FindsOthers (Err failure) (part ∷ later) last here mid new
  behind_last failure new (files, told, one, (made, stops, left), found) = (
    files,
    told,
    one_of_parts files part later one,
    ((made, stops_behind (Load last) failure (Load part.file ∷ parts_to_load later) made stops, left), found),
  )

  -- it fails
  pub others_stop : (new : FilesState) (failure : Failure) → LoadsRuns (added_to here part) (Err failure) part.file mid new
      → FindsOthers (Err failure) (part ∷ later) last here mid new
  others_stop new failure loads =
      behind_last failure new
      (runs_stop (added_to here part) (λ outside. AnswersOthers (λ named. named ≡ failure) outside (λ s. ⊥) later part.file) part.file (parts_to_load later) mid new
      (λ F P read holds. added_maps F F (λ all. ⊥) P (λ f h. h) (λ s none. absurd none) part.file part.times here read holds)
      (λ f read holds.
      added_case (λ named. named ≡ f) ((f ≡ why.OtherProgram part.file) ⊎ (f ≡ why.SumLarge part.file)) part.file (λ is. inl (sym is)) (λ is. inr (sym is)) part.times here read holds)
      failure loads)

-- no file more
pub others_done : (last : List ℕ) (here : Sum) (mid : FilesState) (result : Result Sum Failure) → FinishesSum result last here
    → FindsOthers result [] last here mid mid
others_done last here mid (Ok all) finishes = ([], tt, tt, (after_none mid, λ outside shows. finishes))
others_done last here mid (Err failure) (inl short) =
    subst (λ f. FindsOthers (Err f) [] last here mid mid) (sym short) ([], tt, tt, (([], ([], refl), after_none mid), tt))
others_done last here mid (Err failure) (inr finishes) = (
  [],
  tt,
  tt,
  (
    finished_case (λ named. named ≡ failure) (LoadsBehind failure last [] mid mid) last (behind (why.OtherProgram last) (([], refl), ([], refl)) (after_none mid))
        (behind (why.SumLarge last) (([], refl), ([], refl)) (after_none mid)) here finishes,
    refuses (Everywhere (of_files []) (λ outside. AnswersOthers (λ named. named ≡ failure) outside (λ s. ⊥) [] last here)) failure (λ outside shows. finishes),
  ),
)
  where
    behind : (named : Failure) → Stops named (Load last ∷ []) (Load last ∷ []) → FilesAfter named [] mid mid → named ≡ failure → LoadsBehind failure last [] mid mid
    behind named stops left is = subst (λ f. LoadsBehind f last [] mid mid) is ([], stops, left)

-- FILE BY FILE: what the files from here on lead to, all others do
module _ (parts : List Part) (first : List ℕ) (sum : Sum) (old : FilesState) where
  pub others_start : OthersFromHere parts parts first first sum sum old old
  others_start result new found = found

  module _ (rest : List Part) (last : List ℕ) (here : Sum) (mid : FilesState) (leads : OthersFromHere parts rest first last sum here old mid) where
    module _ (part : Part) (later : List Part) (split : rest ≡ part ∷ later) (once : AreNamedOnce rest) where
      once_here : AreNamedOnce (part ∷ later)
      once_here = subst AreNamedOnce split once

      leads_here : OthersFromHere parts (part ∷ later) first last sum here old mid
      leads_here = subst (λ l. OthersFromHere parts l first last sum here old mid) split leads

      pub later_once : AreNamedOnce later
      later_once = once_here.2

      -- one file more
      pub others_go_on : (more : Sum) (next : FilesState) → LoadsRuns (added_to here part) (Ok more) part.file mid next
          → OthersFromHere parts later first part.file sum more old next
      others_go_on more next loads result new found = leads_here result new (others_more part later last here mid once_here more next new result loads found)

      -- that fails
      pub others_fail : (new : FilesState) (failure : Failure) → LoadsRuns (added_to here part) (Err failure) part.file mid new
          → FindsOthers (Err failure) parts first sum old new
      others_fail new failure loads = leads_here (Err failure) new (others_stop part later last here mid once_here new failure loads)

    -- and none
    pub others_end : length rest ≡ 0 → (name : List ℕ) → name ≡ last → (result : Result Sum Failure) → FinishesSum result name here
        → FindsOthers result parts first sum old mid
    others_end none name named result finishes = by rest none leads
      where
        done : FindsOthers result [] last here mid mid
        done = others_done last here mid result (subst (λ n. FinishesSum result n here) named finishes)

        by : (list : List Part) → length list ≡ 0 → OthersFromHere parts list first last sum here old mid → FindsOthers result parts first sum old mid
        by [] none leads = leads result mid done
        by (part ∷ list) none leads = absurd (omega (arith, none))

-- ---- the first file, and all

module _ (part : Part) (others : List Part) (old : FilesState) (once : AreNamedOnce (part ∷ others)) where
  first_of_maps : (F G : Failure → Type 0) (P Q : Sum → Type 0) → ((failure : Failure) → F failure → G failure) → ((s : Sum) → P s → Q s) → (read : Sum)
      → first_runs_of part F P read → first_runs_of part G Q read
  first_of_maps F G P Q on_failure on_sum read = first_maps F G P Q on_failure on_sum part.file part.times read

  -- the others behind it
  pub sum_more : (sum : Sum) (mid new : FilesState) (result : Result Sum Failure) → LoadsRuns (first_runs_of part) (Ok sum) part.file old mid
      → FindsOthers result others part.file sum mid new → FindsSum result (part ∷ others) old new
  sum_more sum mid new (Ok all) (bytes, (has, fits, first), (read, reads, holds)) (files, told, of, (same, found)) = (
    record { name = part.file; content = Some bytes.items } ∷ files,
    (has, new_name part.file files others once.1 of, subst (λ held. AreTold held files) (held_same (Load part.file) old mid first) told),
    (
      asked_behind (Load part.file) (parts_to_load others) old mid new first same,
      λ outside shows.
          then_answers (first_runs_of part) part.file sum old mid first_of_maps bytes fits read reads holds (λ failure. ⊥)
          (AnswersOthers (λ failure. ⊥) outside (λ s. s ≡ all) others part.file) outside shows.files.0
          (found outside (record { files = shows.files.1; input = tt })),
    ),
  )
  sum_more sum mid new (Err failure) (bytes, (has, fits, first), (read, reads, holds)) (files, told, of, ((made, stops, left), found)) = (
    record { name = part.file; content = Some bytes.items } ∷ files,
    (has, new_name part.file files others once.1 of, subst (λ held. AreTold held files) (held_same (Load part.file) old mid first) told),
    (
      (Load part.file ∷ made, stops, left_behind (Load part.file) made old mid new first failure left),
      refusal_maps _ _ failure
          (λ everywhere outside shows.
          then_answers (first_runs_of part) part.file sum old mid first_of_maps bytes fits read reads holds (λ other. other ≡ failure)
          (AnswersOthers (λ other. other ≡ failure) outside (λ s. ⊥) others part.file) outside shows.files.0
          (everywhere outside (record { files = shows.files.1; input = tt }))) found,
    ),
  )

  all_stops : (failure : Failure) (new : FilesState)
      → StopsAt failure part.file (parts_to_load others) (λ outside. AnswersSum (λ named. named ≡ failure) outside (λ s. ⊥) (part ∷ others)) old new
      → FindsSum (Err failure) (part ∷ others) old new
  all_stops failure new (files, told, one, stop, found) = (files, told, (stop, found))

  -- it fails
  pub sum_stops : (new : FilesState) (failure : Failure) → LoadsRuns (first_runs_of part) (Err failure) part.file old new → FindsSum (Err failure) (part ∷ others) old new
  sum_stops new failure loads =
      all_stops failure new
      (runs_stop (first_runs_of part) (λ outside. AnswersOthers (λ named. named ≡ failure) outside (λ s. ⊥) others part.file) part.file (parts_to_load others) old new
      (λ F P read holds. first_maps F F (λ all. ⊥) P (λ f h. h) (λ s none. absurd none) part.file part.times read holds)
      (λ f read holds.
      first_case (λ named. named ≡ f) ((f ≡ why.OtherProgram part.file) ⊎ (f ≡ why.SumLarge part.file)) part.file (λ is. inl (sym is)) (λ is. inr (sym is)) part.times read holds)
      failure loads)

-- where no file is named, the words lack one
pub sum_of_none : (old : FilesState) → FindsSum (Err (why.Usage usage.NoFile)) [] old old
sum_of_none old = ([], tt, (([], refl, after_none old), λ outside shows. refl))
