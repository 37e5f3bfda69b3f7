-- What `show` tells.
use Rattle.std.proofs.Common.{ℕ, ◌+◌, ◌-◌, ◌≡◌, refl, sym, subst, arith, ◌∙◌, ap, List, length, Option, None, Result, Ok, Err, inl, inr}
use Rattle.std.proofs.lemmas.Option.{none-some}
use Rattle.std.specs.Prelude.{codes}
use Rattle.k_edge.specs.SinkWords.{Grows}
use Rattle.k_scan.proofs.Front.{word_again}
use Rattle.k_scan.specs.Pieces.{word_at}
use Rattle.k_sum_read.specs.AnyFile.{BeginsSum}
use Rattle.k_optab.specs.declared.region.Region.{Region}
use Rattle.k_dict_entries.specs.Dictionary.{IsDictionaryOf}
use Rattle.k_dict_entries.specs.Entries.{expansion, tree_at}
use Rattle.k_dict_entries.specs.Laws.{AreAlike}
use Rattle.k_dict_entries.specs.Trees.{Tree}
use Rattle.k_dict_entries.proofs.Forests.{SameShape-refl}
use Rattle.k_dict_saved.specs.Files.{IsFile}
use Rattle.k_dict_saved.specs.FileText.{file_text}
use Rattle.k_dict_saved.specs.Profile.{IsMigrated, IsOld, IsSaved, Reads}
use Rattle.k_dict_saved.specs.SavedText.{file_of_old, file_of_saved}
use Rattle.k_dict_saved.specs.declared.fault.SavedFault.TheVariants.{NotSaved}
use Rattle.k_dict_saved.specs.declared.file.File.{File}
use Rattle.k_dict_saved.specs.declared.format.Format.{Format}
use Rattle.k_dict_saved.specs.declared.format.Format.TheVariants.{One, Two}
use Rattle.k_dict_saved.specs.declared.saved.Old.{Old}
use Rattle.k_dict_saved.specs.declared.saved.Saved.{Saved}
use Rattle.k_dict_saved.proofs.Profiles.{migration_expands, read_migrated, read_of_write, two_saved}
use Rattle.k_selfpar.specs.Contexts.{AreContexts}
use Rattle.k_selfpar.specs.declared.context.Context.{Context}
use Rattle.k_selfpar.proofs.Siblings.{contexts_forget_order, rows_forget_order}
use Rattle.k_report.specs.declared.heading.Heading.TheVariants.{Exit}
use Rattle.k_report.specs.Report.{report_text}
use Rattle.k_report_profile.specs.Report.{asked, nodes_of_profile}
use Rattle.k_data.specs.Document.{profile_json}
use Rattle.k_data.specs.Table.{rows_csv}
use Rattle.k_data_profile.specs.Shown.{listed}
use Rattle.k_words.specs.Words.{shown_as}
use Rattle.k_words.specs.declared.job.Form.{Form}
use Rattle.k_words.specs.declared.job.Form.TheVariants as shown
use Rattle.k_words.specs.declared.job.Job.{Job}
use Rattle.k_top_answers.specs.declared.answer.Answer.{Answer}
use Rattle.k_top_answers.specs.declared.failure.Failure.{Failure}
use Rattle.k_top_answers.specs.Answers.{AnswersJob, AnswersProfile, AnswersShown, IsShown, done, refusal}
use Rattle.k_top_answers.specs.Clauses.{IsGiven, TellsEnd}
use Rattle.k_top_answers.specs.Failures.{status_of}
use Rattle.k_top_answers.specs.Steps.{AnswersFound, profile_limit}
use Rattle.k_top_lemmas.proofs.FileLemmas.{show_answered}
use Rattle.k_top_headline.specs.OtherCommands.{AreShown, ShowIsTold, Shows, tree_of_file}
use Rattle.k_top_headline.proofs.Given.{job_given}
use Rattle.k_top_headline.proofs.Ready.{found_answered, held_outside}

-- the profile has the run, the regions and the tree of the file, up to the order of siblings, and its entries are those that are shown of the file
record IsOf (file : File) (profile : Saved) : Type 0 where
  exit : profile.exit ≡ file.exit
  ops : profile.ops ≡ file.ops
  regions : profile.regions ≡ file.regions
  alike : AreAlike (nodes_of_profile profile) (tree_of_file file)
  entries : AreShown file profile.dict file.format

-- the contexts of a profile are those of the file
contexts_of : (file : File) (profile : Saved) → IsOf file profile → (contexts : List Context) → AreContexts profile.regions (nodes_of_profile profile) contexts
    → AreContexts file.regions (tree_of_file file) contexts
contexts_of file profile is contexts are =
    subst (λ (r : List Region). AreContexts r (tree_of_file file) contexts) is.regions
    (contexts_forget_order profile.regions (nodes_of_profile profile) (tree_of_file file) contexts is.alike are)

-- the text of a profile in a form is that of the file
shows : (form : Form) (file : File) (profile : Saved) (text : List ℕ) → IsOf file profile → IsShown form profile text → Shows file form text
shows (shown.Report dict) file profile text is r = record {
  entries = profile.dict;
  shown = is.entries;
  report = record {
    rows = r.rows;
    contexts = r.contexts;
    plan = r.plan;
    are_rows = rows_forget_order (nodes_of_profile profile) (tree_of_file file) r.rows is.alike r.are_rows;
    are_contexts = contexts_of file profile is r.contexts r.are_contexts;
    planned = r.planned;
    is = r.is ∙ (λ i. report_text (is.regions i) (Exit (is.exit i)) (is.ops i) r.rows (asked dict profile.dict) r.contexts r.plan);
  };
}
shows (shown.Json dict) file profile text is r = record {
  entries = profile.dict;
  shown = is.entries;
  document = record {
    rows = r.rows;
    contexts = r.contexts;
    plan = r.plan;
    are_rows = rows_forget_order (nodes_of_profile profile) (tree_of_file file) r.rows is.alike r.are_rows;
    are_contexts = contexts_of file profile is r.contexts r.are_contexts;
    planned = r.planned;
    is = r.is ∙ (λ i. profile_json (is.regions i) (is.exit i) (is.ops i) r.rows (asked dict profile.dict) (listed r.contexts r.plan) r.plan);
  };
}
shows shown.Csv file profile text is r = record {
  rows = r.rows;
  are_rows = rows_forget_order (nodes_of_profile profile) (tree_of_file file) r.rows is.alike r.are_rows;
  is = r.is ∙ (λ i. rows_csv (is.regions i) r.rows);
}

module _ (file : File) (rules : IsFile file) where
  -- a file of format 2 is that of a profile
  abbrev saved : Saved
  saved = record { exit = file.exit; ops = file.ops; regions = file.regions; dict = file.entries }

  is_saved : file.format ≡ Two → IsSaved saved
  is_saved two = (two_saved file saved two rules refl).0

  same_saved : file.format ≡ Two → file ≡ file_of_saved saved
  same_saved two = λ i. record file { format = two i }

  -- and one of format 1 that of an old profile
  abbrev old : Old
  old = record { exit = file.exit; ops = file.ops; regions = file.regions; entries = file.entries }

  same_old : file.format ≡ One → file ≡ file_of_old old
  same_old one = λ i. record file { format = one i }

  is_old : file.format ≡ One → IsOld old
  is_old one = subst IsFile (same_old one) rules

  -- it is not refused
  not_refused : (format : Format) → file.format ≡ format → (place : ℕ) → Reads (file_text file) (Err (NotSaved place)) → ⊥
  not_refused One one place reads =
      read_migrated old (Err (NotSaved place)) (is_old one) (subst (λ (bytes : List ℕ). Reads bytes (Err (NotSaved place))) (ap file_text (same_old one)) reads)
  not_refused Two two place reads =
      read_of_write saved (Err (NotSaved place)) (is_saved two) (subst (λ (bytes : List ℕ). Reads bytes (Err (NotSaved place))) (ap file_text (same_saved two)) reads)

  module _ (profile : Saved) (reads : Reads (file_text file) (Ok profile)) where
    -- what a file of format 1 becomes has the same tree up to the order of siblings
    of_old : file.format ≡ One → IsMigrated old profile → IsOf file profile
    of_old one migrated =
        let expands = migration_expands old profile migrated in
        let last : length file.entries ≡ migrated.root + 1 = migrated.last in
        let count : length profile.dict ≡ expands.0 + 1 = expands.1 in
        let there : migrated.root ≡ length file.entries - 1 = omega arith in
        let here : expands.0 ≡ length profile.dict - 1 = omega arith in
        let P : Format → Type 0 = AreShown file profile.dict in
        record {
          exit = migrated.exit;
          ops = migrated.ops;
          regions = migrated.regions;
          alike = subst (λ (n : ℕ). AreAlike (expansion profile.dict n) (tree_of_file file)) here
              (subst (λ (n : ℕ). AreAlike (expansion profile.dict expands.0) (expansion file.entries n)) there expands.2);
          entries = subst P (sym one) (
            tree_at file.entries (length file.entries - 1),
            refl,
            subst (λ (n : ℕ). IsDictionaryOf (tree_at file.entries n) profile.dict) there migrated.dict,
          );
        }

    -- the profile of a file of format 2 has its own tree
    of_saved : file.format ≡ Two → saved ≡ profile → IsOf file profile
    of_saved two same =
        let root : Tree = tree_at file.entries (length file.entries - 1) in
        let P : Format → Type 0 = AreShown file file.entries in
        subst (λ (s : Saved). IsOf file s) same
        (record { exit = refl; ops = refl; regions = refl; alike = (root, root, refl, refl, SameShape-refl root); entries = subst P (sym two) refl })

    is_of : (format : Format) → file.format ≡ format → IsOf file profile
    is_of One one =
        of_old one (read_migrated old (Ok profile) (is_old one) (subst (λ (bytes : List ℕ). Reads bytes (Ok profile)) (ap file_text (same_old one)) reads))
    is_of Two two =
        of_saved two
        (sym (read_of_write saved (Ok profile) (is_saved two) (subst (λ (bytes : List ℕ). Reads bytes (Ok profile)) (ap file_text (same_saved two)) reads)))

-- the answer is the file in its form
answer_shown : (file : File) → IsFile file → (form : Form) (answer : Answer) (read : Result Saved ℕ) → AnswersProfile form answer (file_text file) read
    → (text : List ℕ) × Shows file form text × (answer ≡ done text)
answer_shown file rules form answer (Ok profile) (reads, (text, is, made)) =
    (text, shows form file profile text (is_of file rules profile reads file.format refl) is, made)
answer_shown file rules form answer (Err place) (reads, made) = absurd (not_refused file rules file.format refl place reads)

-- no file of a profile begins as that of a sum
begins_not : (file : File) (format : Format) → file.format ≡ format → BeginsSum (file_text file) → ⊥
begins_not file format is (rest, begins) =
    none-some rest (sym (none format) ∙ ap (λ (f : Format). word_at (codes "kremlin sum 1\n") (file_text (record file { format = f }))) (sym is)
    ∙ ap (word_at (codes "kremlin sum 1\n")) begins ∙ word_again (codes "kremlin sum 1\n") rest)
  where
    none : (f : Format) → word_at (codes "kremlin sum 1\n") (file_text (record file { format = f })) ≡ None
    none One = refl
    none Two = refl

shown_of_file : (file : File) → IsFile file → (form : Form) (answer : Answer) → AnswersShown form answer (file_text file) → (text : List ℕ) × Shows file form text × (answer ≡ done text)
shown_of_file file rules form answer (inl (begins, answers)) = absurd (begins_not file file.format refl begins)
shown_of_file file rules form answer (inr (begins, (read, answers))) = answer_shown file rules form answer read answers

-- SHOW
pub show_is_told : ShowIsTold
show_is_told words status old new name file form keeps is holds =
    let j : Job = shown_as name form in
    let given : IsGiven (λ (answer : Answer). AnswersJob keeps.outside answer j) status old new = job_given words j status old new keeps is in
    let F : Failure → Type 0 = λ failure. given.answer ≡ refusal failure in
    let next : List ℕ → Type 0 = AnswersShown form given.answer in
    let shown : next (file_text file) =
    found_answered F profile_limit name next (file_text file) holds.few
    (subst (λ (content : Option (List ℕ)). AnswersFound F profile_limit name next content)
    (held_outside old.files.held keeps.outside.files name (file_text file) keeps.fits.files holds.held) (show_answered name form keeps.outside given.answer given.is_answer)) in
    let report = shown_of_file file holds.rules form given.answer shown in
    let failure : given.answer.failure ≡ None = ap (λ (a : Answer). a.failure) report.2 in
    let out : given.answer.out ≡ report.0 = ap (λ (a : Answer). a.out) report.2 in
    record {
      text = report.0;
      shows = report.1;
      grows = subst (λ (t : List ℕ). Grows old.out.written t new.out.written) out given.grows;
      status_is = given.status_is ∙ ap status_of failure;
      told = subst (λ (f : Option Failure). TellsEnd f given.answer.more old.err new.err) failure given.told;
    }
