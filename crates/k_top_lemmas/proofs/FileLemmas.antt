-- What finding the answer to a job comes to that reads one file, and asks nothing else of the outside.
use Rattle.std.proofs.Common.{ℕ, true, false, ◌≡◌, ◌≤◌, ap, arith, refl, sym, subst, ◌∙◌, List, [], ◌∷◌, length, Some, None, Result, Ok, Err, inl, inr}
use Rattle.std.proofs.lemmas.Bool.{false≢true}
use Rattle.std.proofs.lemmas.Option.{none-some}
use Rattle.std.specs.Prelude.{codes}
use Rattle.k_scan.specs.Pieces.{word_at}
use Rattle.k_scan.proofs.Front.{word_again, word_takes}
use Rattle.k_edge.specs.FilesWords.{Has, Loads, after}
use Rattle.k_edge.specs.declared.request.Request.TheVariants.{Load}
use Rattle.k_edge.specs.declared.files.LoadFault.{LoadFault}
use Rattle.k_edge.specs.declared.files.LoadFault.TheVariants as load
use Rattle.k_dict_saved.specs.declared.fault.SavedFault.{SavedFault}
use Rattle.k_dict_saved.specs.declared.fault.SavedFault.TheVariants as saved
use Rattle.k_dict_saved.specs.Profile.{Reads}
use Rattle.k_sum_read.specs.AnyFile.{BeginsSum}
use Rattle.k_sum_read.specs.SumFile.{ReadsSum}
use Rattle.k_words.specs.Words.{shown_as}
use Rattle.k_words.specs.declared.job.Form.{Form}
use Rattle.k_words.specs.declared.job.Form.TheVariants as shown
use Rattle.k_words.specs.declared.job.Job.{Job}
use Rattle.k_words.specs.declared.job.Job.TheVariants as job
use Rattle.k_top_answers.specs.declared.answer.Answer.{Answer}
use Rattle.k_top_answers.specs.declared.failure.Failure.{Failure}
use Rattle.k_top_answers.specs.declared.failure.Failure.TheVariants as why
use Rattle.k_top_lemmas.specs.declared.program.Program.{Program}
use Rattle.k_top_answers.specs.Answers.{AnswersChecked, AnswersJob, AnswersShown, AnswersShownFile, JobCalls, JobLoads, checked, done, refusal}
use Rattle.k_top_answers.specs.Checks.{refuses_source, told}
use Rattle.k_top_answers.specs.Failures.{failure_of_load, failure_of_saved, status_of}
use Rattle.k_top_answers.specs.Requests.{loads_of}
use Rattle.k_top_answers.specs.Steps.{AnswersFile, Outside, file_limit, profile_limit}
use Rattle.k_top_lemmas.specs.Parts.{AcceptsSource, ChecksFile, ChecksSource, LoadsFile, RefusesShown, ShowsFile}
use Rattle.k_top_lemmas.specs.Phases.{Around, Everywhere, FindsJob, IsEnd, of_files}
use Rattle.k_top_lemmas.proofs.ProgramLemmas.{long_of, one_seen}
use Rattle.k_top_lemmas.proofs.ReadyLemmas.{not_seen}
use Rattle.k_top_lemmas.proofs.Requesting.{after_none, front_same, some_asked}
use Rattle.k_top_lemmas.proofs.Statuses.{done_low}
use Rattle.k_top_lemmas.proofs.StepLemmas.{absent, loaded, source_case, source_maps, source_refuses, too_long}

-- A JOB THAT READS ONE FILE, whose bytes decide; it makes no program, so the input is not asked for
module _ (file : List ℕ) (limit : ℕ) (asked : Job) (next : Answer → List ℕ → Type 0) (reads : JobLoads asked) (named : Load file ∷ [] ≡ loads_of asked)
    (calls_not : (outside : Outside) → JobCalls outside asked → ⊥)
    (answers : (outside : Outside) (answer : Answer) → AnswersFile (λ failure. answer ≡ refusal failure) outside limit file (next answer) → AnswersJob outside answer asked)
    (old new : Around) (same_input : new.input ≡ old.input) where
  -- the file is not loaded
  by_load : (fault : LoadFault) → Loads (Err fault) file limit old.files new.files → FindsJob (Err (failure_of_load file fault)) asked old new
  by_load load.Absent (has, rose, same) = (
    of_files (one_seen file None),
    record { files = (has, tt, tt); input = not_seen old.input.left },
    (
      inl (reads, (Load file ∷ [], named, (Load file ∷ [], (front_same (Load file ∷ []) (Load file ∷ []) refl, ([], refl)), (rose, same))), same_input),
      λ outside shows.
          answers outside (refusal (why.Absent file))
          (absent (λ other. refusal (why.Absent file) ≡ refusal other) outside limit file (next (refusal (why.Absent file))) shows.files.0 refl),
    ),
  )
  by_load load.TooLong (has, rose, same) =
      let long = long_of old.files.held file limit has in (
        of_files (one_seen file (Some long.0)),
        record { files = (long.1, tt, tt); input = not_seen old.input.left },
        (
          inl (reads, (Load file ∷ [], named, (Load file ∷ [], (front_same (Load file ∷ []) (Load file ∷ []) refl, ([], refl)), (rose, same))), same_input),
          λ outside shows.
              answers outside (refusal (why.FileLong file))
              (too_long (λ other. refusal (why.FileLong file) ≡ refusal other) outside limit file (next (refusal (why.FileLong file))) long.0 shows.files.0 long.2 refl),
        ),
      )
  by_load load.Failed (rose, same) = (
    of_files [],
    record { files = tt; input = not_seen old.input.left },
    (inl (reads, (Load file ∷ [], named, (Load file ∷ [], (front_same (Load file ∷ []) (Load file ∷ []) refl, some_asked (Load file) []), (rose, same))), same_input), tt),
  )
  by_load load.Memory (inl same) = (
    of_files [],
    record { files = tt; input = not_seen old.input.left },
    (inl (reads, (Load file ∷ [], named, (Load file ∷ [], front_same (Load file ∷ []) (Load file ∷ []) refl, same)), same_input), tt),
  )
  by_load load.Memory (inr same) = (
    of_files [],
    record { files = tt; input = not_seen old.input.left },
    (inl (reads, (Load file ∷ [], named, ([], (Load file ∷ [], refl), same ∙ after_none old.files)), same_input), tt),
  )

  file_unloaded : (failure : Failure) → LoadsFile (Err failure) file limit old.files new.files → FindsJob (Err failure) asked old new
  file_unloaded failure (fault, is, loads) = subst (λ f. FindsJob (Err f) asked old new) (sym is) (by_load fault loads)

  -- the file is loaded, and these bytes decide
  module _ (bytes : List ℕ) (has : Has old.files.held file (Some bytes)) (fits : length bytes ≤ limit) (same : new.files ≡ after (Load file ∷ []) old.files) where
    with_bytes : (answer : Answer) → next answer bytes → Everywhere (of_files (one_seen file (Some bytes))) (λ outside. AnswersJob outside answer asked)
    with_bytes answer holds outside shows =
        answers outside answer (loaded (λ failure. answer ≡ refusal failure) outside limit file (next answer) bytes shows.files.0 fits holds)

    file_told : (answer : Answer) → IsEnd answer → next answer bytes → FindsJob (Ok answer) asked old new
    file_told answer is_end holds = (
      of_files (one_seen file (Some bytes)),
      record { files = (has, tt, tt); input = not_seen old.input.left },
      ((Load file ∷ [], named, same), inl (same_input, λ outside shows calls. calls_not outside calls), is_end, with_bytes answer holds),
    )

    -- no memory was found
    file_short : FindsJob (Err why.NoMemory) asked old new
    file_short = (
      of_files (one_seen file (Some bytes)),
      record { files = (has, tt, tt); input = not_seen old.input.left },
      (inl (reads, (Load file ∷ [], named, (Load file ∷ [], front_same (Load file ∷ []) (Load file ∷ []) refl, same)), same_input), tt),
    )

-- SHOW: whatever the form, the file alone is read
show_reads : (file : List ℕ) (form : Form) → JobLoads (shown_as file form)
show_reads file (shown.Report dict) = tt
show_reads file (shown.Json dict) = tt
show_reads file shown.Csv = tt

show_named : (file : List ℕ) (form : Form) → Load file ∷ [] ≡ loads_of (shown_as file form)
show_named file (shown.Report dict) = refl
show_named file (shown.Json dict) = refl
show_named file shown.Csv = refl

show_calls_not : (file : List ℕ) (form : Form) (outside : Outside) → JobCalls outside (shown_as file form) → ⊥
show_calls_not file (shown.Report dict) outside calls = calls
show_calls_not file (shown.Json dict) outside calls = calls
show_calls_not file shown.Csv outside calls = calls

show_answers : (file : List ℕ) (form : Form) (outside : Outside) (answer : Answer) → AnswersShownFile outside file form answer → AnswersJob outside answer (shown_as file form)
show_answers file (shown.Report dict) outside answer holds = holds
show_answers file (shown.Json dict) outside answer holds = holds
show_answers file shown.Csv outside answer holds = holds

-- and the answer to the job is that of the file in its form
pub show_answered : (file : List ℕ) (form : Form) (outside : Outside) (answer : Answer) → AnswersJob outside answer (shown_as file form)
    → AnswersShownFile outside file form answer
show_answered file (shown.Report dict) outside answer holds = holds
show_answered file (shown.Json dict) outside answer holds = holds
show_answered file shown.Csv outside answer holds = holds

module _ (file : List ℕ) (form : Form) (old new : Around) (same_input : new.input ≡ old.input) where
  -- bytes that are not shown
  show_refused : (bytes : List ℕ) → Has old.files.held file (Some bytes) → length bytes ≤ profile_limit → new.files ≡ after (Load file ∷ []) old.files → (failure : Failure)
      → RefusesShown failure bytes form → FindsJob (Err failure) (shown_as file form) old new
  show_refused bytes has fits same failure (inl short) =
      subst (λ f. FindsJob (Err f) (shown_as file form) old new) (sym short)
      (file_short file profile_limit (shown_as file form) (AnswersShown form) (show_reads file form) (show_named file form) (show_calls_not file form) (show_answers file form)
      old new same_input bytes has fits same)
  show_refused bytes has fits same failure (inr (place, is, refused)) =
      subst (λ f. FindsJob (Err f) (shown_as file form) old new) (sym is) (
        of_files (one_seen file (Some bytes)),
        record { files = (has, tt, tt); input = not_seen old.input.left },
        (
          inl (show_reads file form, (Load file ∷ [], show_named file form, (Load file ∷ [], refl, same)), same_input),
          with_bytes file profile_limit (shown_as file form) (AnswersShown form) (show_reads file form) (show_named file form) (show_calls_not file form) (show_answers file form)
              old new same_input bytes has fits same (refusal (why.Saved place)) refused,
        ),
      )

  pub show_found : (result : Result Answer Failure) → ShowsFile result file form old.files new.files → FindsJob result (shown_as file form) old new
  show_found (Ok answer) (bytes, (has, fits, same), (told, done)) =
      file_told file profile_limit (shown_as file form) (AnswersShown form) (show_reads file form) (show_named file form) (show_calls_not file form) (show_answers file form)
      old new same_input bytes.items has fits same answer (record { low = done_low answer.failure done; saves = inl done }) told
  show_found (Err failure) (inl (bytes, (has, fits, same), refuses)) = show_refused bytes.items has fits same failure refuses
  show_found (Err failure) (inr unloaded) =
      file_unloaded file profile_limit (shown_as file form) (AnswersShown form) (show_reads file form) (show_named file form) (show_calls_not file form) (show_answers file form)
      old new same_input failure unloaded

-- bytes begin as a sum, or they do not
pub begins_sum : (bytes rest : List ℕ) → word_at (codes "kremlin sum 1\n") bytes ≡ Some rest → BeginsSum bytes
begins_sum bytes rest is = (rest, word_takes (codes "kremlin sum 1\n") bytes rest is)

pub begins_not : (bytes : List ℕ) → word_at (codes "kremlin sum 1\n") bytes ≡ None → ¬ BeginsSum bytes
begins_not bytes none begins = none-some begins.0 (sym none ∙ ap (word_at (codes "kremlin sum 1\n")) begins.1 ∙ word_again (codes "kremlin sum 1\n") begins.0)

-- a profile or a sum that is not read
pub profile_refused : (form : Form) (bytes : List ℕ) (fault : SavedFault) → ¬ BeginsSum bytes → Reads bytes (Err fault) → RefusesShown (failure_of_saved fault) bytes form
profile_refused form bytes (saved.NotSaved place) begins_not reads = inr (place, refl, inr (begins_not, (Err place, (reads, refl))))
profile_refused form bytes saved.Memory begins_not reads = inl refl

pub sum_refused : (form : Form) (bytes : List ℕ) (fault : SavedFault) → BeginsSum bytes → ReadsSum bytes (Err fault) → RefusesShown (failure_of_saved fault) bytes form
sum_refused form bytes (saved.NotSaved place) begins reads = inr (place, refl, inl (begins, (Err place, (reads, refl))))
sum_refused form bytes saved.Memory begins reads = inl refl

-- a refusal that is told has status 3, and saves nothing
refused_ends : (text : List ℕ) (failure : Failure) (answer : Answer) → status_of (Some failure) ≤ 3 → answer ≡ checked text failure → IsEnd answer
refused_ends text failure answer low is = record {
  low = subst (λ (a : Answer). status_of a.failure ≤ 3) (sym is) low;
  saves = inr (ap (λ (a : Answer). a.saved) is);
}

checked_ends : (file : List ℕ) (answer : Answer) (bytes : List ℕ) → AnswersChecked file answer bytes → IsEnd answer
checked_ends file answer bytes holds =
    source_case (λ failure. answer ≡ checked (told file bytes failure) failure) (λ typed. answer ≡ done []) (IsEnd answer)
    (λ fault. refused_ends (told file bytes (why.Lex fault)) (why.Lex fault) answer (omega arith))
    (λ fault. refused_ends (told file bytes (why.Parse fault)) (why.Parse fault) answer (omega arith))
    (λ fault. refused_ends (told file bytes (why.Types fault)) (why.Types fault) answer (omega arith))
    (λ typed is. record { low = done_low answer.failure (ap (λ (a : Answer). a.failure) is); saves = inl (ap (λ (a : Answer). a.failure) is) }) bytes holds

-- CHECK
pub check_found : (file : List ℕ) (old new : Around) → new.input ≡ old.input → (result : Result Answer Failure) → ChecksFile result file old.files new.files
    → FindsJob result (job.Check file) old new
check_found file old new same_input (Ok answer) (bytes, (has, fits, same), holds) =
    file_told file file_limit (job.Check file) (AnswersChecked file) tt refl (λ outside calls. calls) (λ outside answer holds. holds) old new same_input bytes.items has fits same answer
    (checked_ends file answer bytes.items holds) holds
check_found file old new same_input (Err failure) (inl (bytes, (has, fits, same), is)) =
    subst (λ f. FindsJob (Err f) (job.Check file) old new) (sym is)
    (file_short file file_limit (job.Check file) (AnswersChecked file) tt refl (λ outside calls. calls) (λ outside answer holds. holds) old new same_input bytes.items has fits same)
check_found file old new same_input (Err failure) (inr unloaded) =
    file_unloaded file file_limit (job.Check file) (AnswersChecked file) tt refl (λ outside calls. calls) (λ outside answer holds. holds) old new same_input failure unloaded

-- a source that is not accepted: no memory was found where the failure refuses no source
pub not_refused : (file bytes : List ℕ) (failure : Failure) → AcceptsSource (Err failure) bytes → refuses_source failure ≡ false → ChecksSource (Err failure) file bytes
not_refused file bytes failure (inl is) other = is
not_refused file bytes failure (inr answers) other = absurd (false≢true (sym other ∙ source_refuses failure bytes answers))

-- and else what is told of it is the answer
pub is_refused : (file bytes : List ℕ) (failure : Failure) (answer : Answer) → AcceptsSource (Err failure) bytes → refuses_source failure ≡ true
    → answer ≡ checked (told file bytes failure) failure → ChecksSource (Ok answer) file bytes
is_refused file bytes failure answer (inl is) refuses same = absurd (false≢true (subst (λ f. refuses_source f ≡ true) is refuses))
is_refused file bytes failure answer (inr answers) refuses same =
    source_maps (λ other. other ≡ failure) (λ other. answer ≡ checked (told file bytes other) other) (λ typed. ⊥) (λ typed. answer ≡ done [])
    (λ other is. subst (λ f. answer ≡ checked (told file bytes f) f) (sym is) same) (λ typed none. absurd none) bytes answers

-- a source that is accepted is answered by nothing
pub is_accepted : (file bytes : List ℕ) (p : Program) (answer : Answer) → AcceptsSource (Ok p) bytes → answer ≡ done [] → ChecksSource (Ok answer) file bytes
is_accepted file bytes p answer accepts same =
    source_maps (λ failure. ⊥) (λ other. answer ≡ checked (told file bytes other) other) (λ typed. typed ≡ p.typed) (λ typed. answer ≡ done [])
    (λ other none. absurd none) (λ typed is. same) bytes accepts
