-- Words have one answer, whatever the outside holds.
use Rattle.std.proofs.Common.{ℕ, ◌≡◌, ◌≤◌, Bool, ap, refl, sym, subst, ◌∙◌, List, [], ◌++◌, Option, Some, None, Result, Ok, Err, arith, inl, inr}
use Rattle.k_ending.specs.declared.ending.End.{End}
use Rattle.k_ending.specs.declared.ending.End.TheVariants as end
use Rattle.k_carry_pairs.proofs.Answer.{one_answer}
use Rattle.k_carry_text.specs.Lines.{carried_text}
use Rattle.k_dict_saved.proofs.Files.{first_wrong_is_one}
use Rattle.k_dict_saved.specs.declared.format.Accepts.TheVariants.{Both}
use Rattle.k_report_profile.proofs.Reported.{report_is_unique}
use Rattle.k_data_profile.proofs.Texts.{document_is_unique, table_is_unique}
use Rattle.k_dict_saved.specs.Profile.{IsSaved}
use Rattle.k_dict_saved.specs.declared.saved.Saved.{Saved}
use Rattle.k_regions.specs.Regions.{regions_of}
use Rattle.k_sum.specs.declared.sum.Sum.{Sum}
use Rattle.k_sum_report.proofs.Texts.{sum_document_is_unique, sum_report_is_unique, sum_table_is_unique}
use Rattle.k_sum_saved.specs.SumRules.{IsSum}
use Rattle.k_words.proofs.OneAnswer.{answer_is_unique}
use Rattle.k_words.proofs.Within.{jobs_are_within}
use Rattle.k_words.specs.About.{asked_for}
use Rattle.k_words.specs.Within.{IsJobWithin}
use Rattle.k_words.specs.Words as words
use Rattle.k_words.specs.declared.about.Asked.{Asked}
use Rattle.k_words.specs.declared.about.Asked.TheVariants.{Help, Version}
use Rattle.k_words.specs.declared.job.Form.{Form}
use Rattle.k_words.specs.declared.job.Form.TheVariants as shown
use Rattle.k_words.specs.declared.job.Job.{Job}
use Rattle.k_words.specs.declared.job.Job.TheVariants as job
use Rattle.k_words.specs.declared.usage.Usage.{Usage}
use Rattle.k_words.specs.declared.usage.Usage.TheVariants as usage
use Rattle.k_top_answers.specs.declared.answer.Answer.{Answer}
use Rattle.k_top_answers.specs.declared.failure.Failure.{Failure}
use Rattle.k_top_answers.specs.declared.failure.Failure.TheVariants as why
use Rattle.k_top_answers.specs.Answers.{AnswersAsked, AnswersCarried, AnswersChecked, AnswersJob, AnswersProfile, AnswersReplayed, AnswersRun, AnswersShown, AnswersShownFile, AnswersSumShown, AnswersWords, IsAnnotated, IsListed, IsPaged, IsShown, IsSumShown, checked, done, refusal}
use Rattle.k_top_answers.specs.Checks.{told}
use Rattle.k_top_answers.specs.Laws.{AnswersAreUnique}
use Rattle.k_top_answers.specs.Steps.{Outside, Running, file_limit, profile_limit, run_of}
use Rattle.k_top_lemmas.proofs.Agreeing.{Agree, file_agrees, running_agrees, source_agrees}
use Rattle.k_top_lemmas.proofs.OneListing.{one_listed}
use Rattle.k_top_lemmas.proofs.OneMerge.{one_merged}
use Rattle.k_top_lemmas.proofs.OnePage.{by_paged}
use Rattle.k_top_lemmas.proofs.OneAnnotation.{by_annotated}
use Rattle.k_top_lemmas.proofs.OneReport.{one_reported}
use Rattle.k_top_lemmas.proofs.OneStorage.{one_written}
use Rattle.k_top_lemmas.proofs.OneSum.{not_refused, one_wrong_line, spelled_same, sum_not_refused, sum_same}
use Rattle.k_top_lemmas.proofs.OneSummary.{one_demo}
use Rattle.k_top_lemmas.proofs.ReplayLemmas.{one_replayed}
use Rattle.k_top_lemmas.proofs.RunLemmas.{IsSound, run_gives_int}
use Rattle.k_top_lemmas.proofs.Sounding.{running_sound}

-- RUN
one_run : (depth : ℕ) (dict : Bool) (save : Option (List ℕ)) (one other : Answer) (r : Running) (how : End) → (run_of r).end ≡ how → IsSound r → 1 ≤ depth → depth ≤ 32
    → AnswersRun depth dict save one r how → AnswersRun depth dict save other r how → one ≡ other
one_run depth dict save one other r (end.Returned exit) is sound some tracked a b =
    one_reported r exit depth dict save one other sound is (run_gives_int r sound exit is) some tracked a b
one_run depth dict save one other r (end.Trapped trap place) is sound some tracked a b = a ∙ sym b
one_run depth dict save one other r end.OutOfSteps is sound some tracked a b = a ∙ sym b

-- two answers that agree on a failure, or of one run
by_run : (one other : Answer) (P Q : Running → Type 0) → ((r : Running) → P r → Q r → one ≡ other)
    → Agree (λ failure. one ≡ refusal failure) (λ failure. other ≡ refusal failure) P Q → one ≡ other
by_run one other P Q same (inl (failure, a, b)) = a ∙ sym b
by_run one other P Q same (inr (r, a, b)) = same r a b

-- CARRIED
one_carried : (depth : ℕ) (storage : Bool) (one other : Answer) (r : Running) (how : End) → AnswersCarried depth storage one r how → AnswersCarried depth storage other r how
    → one ≡ other
one_carried depth storage one other r (end.Returned exit) a b =
    let same : a.loops ≡ b.loops = one_answer (regions_of r.typed) depth (run_of r).events a.loops b.loops a.are_carried b.are_carried in
    let shared : a.shared ≡ b.shared = one_written r depth storage a.shared b.shared a.writes b.writes in
    a.is ∙ (λ i. done (carried_text (regions_of r.typed) (same i) ++ shared i)) ∙ sym b.is
one_carried depth storage one other r (end.Trapped trap place) a b = a ∙ sym b
one_carried depth storage one other r end.OutOfSteps a b = a ∙ sym b

-- SHOW

-- a profile has one text of each form
one_text : (form : Form) (profile : Saved) (one other : List ℕ) → IsSaved profile → IsShown form profile one → IsShown form profile other → one ≡ other
one_text (shown.Report dict) profile one other is a b = report_is_unique profile dict one other is a b
one_text (shown.Json dict) profile one other is a b = document_is_unique profile dict one other is a b
one_text shown.Csv profile one other is a b = table_is_unique profile one other is a b

one_profile : (form : Form) (one other : Answer) (bytes : List ℕ) (a b : Result Saved ℕ) → AnswersProfile form one bytes a → AnswersProfile form other bytes b → one ≡ other
one_profile form one other bytes (Ok p) (Ok q) (reads, (text, report, is)) (reads', (text', report', is')) =
    let same : q ≡ p = sym (spelled_same bytes p q reads reads') in
    is ∙ ap done (one_text form p text text' reads.0 report (subst (λ s. IsShown form s text') same report')) ∙ sym is'
one_profile form one other bytes (Ok p) (Err place) (reads, rest) (reads', is') = absurd (not_refused bytes p place reads reads')
one_profile form one other bytes (Err place) (Ok q) (reads, is) (reads', rest) = absurd (not_refused bytes q place reads' reads)
one_profile form one other bytes (Err place) (Err place') (reads, is) (reads', is') =
    is ∙ ap (λ n. refusal (why.Saved n)) (first_wrong_is_one Both bytes place place' reads reads') ∙ sym is'

-- and so has a sum
one_sum_text : (form : Form) (sum : Sum) (one other : List ℕ) → IsSum sum → IsSumShown form sum one → IsSumShown form sum other → one ≡ other
one_sum_text (shown.Report dict) sum one other is a b = sum_report_is_unique sum dict one other is a b
one_sum_text (shown.Json dict) sum one other is a b = sum_document_is_unique sum dict one other is a b
one_sum_text shown.Csv sum one other is a b = sum_table_is_unique sum one other is a b

one_sum : (form : Form) (one other : Answer) (bytes : List ℕ) (a b : Result Sum ℕ) → AnswersSumShown form one bytes a → AnswersSumShown form other bytes b → one ≡ other
one_sum form one other bytes (Ok p) (Ok q) (reads, (text, report, is)) (reads', (text', report', is')) =
    let same : q ≡ p = sum_same bytes q p reads' reads in
    is ∙ ap done (one_sum_text form p text text' reads.0 report (subst (λ s. IsSumShown form s text') same report')) ∙ sym is'
one_sum form one other bytes (Ok p) (Err place) (reads, rest) (reads', is') = absurd (sum_not_refused bytes p place reads reads')
one_sum form one other bytes (Err place) (Ok q) (reads, is) (reads', rest) = absurd (sum_not_refused bytes q place reads' reads)
one_sum form one other bytes (Err place) (Err place') (reads, is) (reads', is') =
    is ∙ ap (λ n. refusal (why.Saved n)) (one_wrong_line bytes place place' reads reads') ∙ sym is'

one_shown : (form : Form) (one other : Answer) (bytes : List ℕ) → AnswersShown form one bytes → AnswersShown form other bytes → one ≡ other
one_shown form one other bytes (inl (begins, (x, a))) (inl (begins', (y, b))) = one_sum form one other bytes x y a b
one_shown form one other bytes (inl (begins, a)) (inr (begins_not, b)) = absurd (begins_not begins)
one_shown form one other bytes (inr (begins_not, a)) (inl (begins, b)) = absurd (begins_not begins)
one_shown form one other bytes (inr (begins_not, (x, a))) (inr (begins_not', (y, b))) = one_profile form one other bytes x y a b

by_file : (form : Form) (one other : Answer) → Agree {A = List ℕ} (λ failure. one ≡ refusal failure) (λ failure. other ≡ refusal failure)
    (AnswersShown form one) (AnswersShown form other) → one ≡ other
by_file form one other (inl (failure, a, b)) = a ∙ sym b
by_file form one other (inr (bytes, a, b)) = one_shown form one other bytes a b

-- CHECK
both_same : {X : Type 0} (one other answer : Answer) (refused : Failure → Answer) → Agree {A = X} (λ failure. one ≡ refused failure) (λ failure. other ≡ refused failure)
    (λ found. one ≡ answer) (λ found. other ≡ answer) → one ≡ other
both_same one other answer refused (inl (failure, a, b)) = a ∙ sym b
both_same one other answer refused (inr (found, a, b)) = a ∙ sym b

one_checked : (file : List ℕ) (one other : Answer) (bytes : List ℕ) → AnswersChecked file one bytes → AnswersChecked file other bytes → one ≡ other
one_checked file one other bytes a b =
    both_same one other (done []) (λ failure. checked (told file bytes failure) failure)
    (source_agrees (λ failure. one ≡ checked (told file bytes failure) failure) (λ failure. other ≡ checked (told file bytes failure) failure) (λ typed. one ≡ done [])
    (λ typed. other ≡ done []) bytes a b)

by_check : (file : List ℕ) (one other : Answer) → Agree {A = List ℕ} (λ failure. one ≡ refusal failure) (λ failure. other ≡ refusal failure) (AnswersChecked file one)
    (AnswersChecked file other) → one ≡ other
by_check file one other (inl (failure, a, b)) = a ∙ sym b
by_check file one other (inr (bytes, a, b)) = one_checked file one other bytes a b

-- SHOW of a file
one_shown_file : (outside : Outside) (file : List ℕ) (form : Form) (one other : Answer) → AnswersShownFile outside file form one
    → AnswersShownFile outside file form other → one ≡ other
one_shown_file outside file form one other a b =
    by_file form one other
    (file_agrees (λ failure. one ≡ refusal failure) (λ failure. other ≡ refusal failure) (AnswersShown form one) (AnswersShown form other) outside profile_limit file a b)

one_job : (outside : Outside) (one other : Answer) (asked : Job) → IsJobWithin asked → AnswersJob outside one asked → AnswersJob outside other asked → one ≡ other
one_job outside one other (job.Run file steps depth latency dict save) within a b =
    by_run one other (λ r. AnswersRun depth dict save one r (run_of r).end × IsSound r) (λ r. AnswersRun depth dict save other r (run_of r).end)
    (λ r p q. one_run depth dict save one other r (run_of r).end refl p.1 within.depth.at_least within.depth.at_most p.0 q)
    (running_agrees (λ failure. one ≡ refusal failure) (λ failure. other ≡ refusal failure) _ _ outside steps file latency
    (running_sound (λ failure. one ≡ refusal failure) (λ r. AnswersRun depth dict save one r (run_of r).end) outside steps within.steps.at_most file latency a) b)
one_job outside one other (job.Graph file steps depth latency) within a b =
    let most : steps ≤ 200000 = within.steps.at_most in
    by_run one other (λ r. IsListed depth one r × IsSound r) (IsListed depth other) (λ r p q. one_listed depth one other r p.0 q)
    (running_agrees (λ failure. one ≡ refusal failure) (λ failure. other ≡ refusal failure) _ _ outside steps file latency
    (running_sound (λ failure. one ≡ refusal failure) (IsListed depth one) outside steps (omega (arith, most)) file latency a) b)
one_job outside one other (job.Carried file steps depth latency storage) within a b =
    by_run one other (λ r. AnswersCarried depth storage one r (run_of r).end) (λ r. AnswersCarried depth storage other r (run_of r).end)
    (λ r p q. one_carried depth storage one other r (run_of r).end p q)
    (running_agrees (λ failure. one ≡ refusal failure) (λ failure. other ≡ refusal failure) _ _ outside steps file latency a b)
one_job outside one other (job.Replay file steps depth latency workers seed) within a b =
    by_run one other (λ r. AnswersReplayed workers seed one r (run_of r).end) (λ r. AnswersReplayed workers seed other r (run_of r).end)
    (λ r p q. one_replayed workers seed one other r (run_of r).end p q)
    (running_agrees (λ failure. one ≡ refusal failure) (λ failure. other ≡ refusal failure) _ _ outside steps file latency a b)
one_job outside one other (job.Page file steps depth latency dict) within a b =
    by_paged outside file depth dict one other within.depth.at_least within.depth.at_most
    (running_agrees (λ failure. one ≡ refusal failure) (λ failure. other ≡ refusal failure) _ _ outside steps file latency
    (running_sound (λ failure. one ≡ refusal failure) (IsPaged outside file depth dict one) outside steps within.steps.at_most file latency a) b)
one_job outside one other (job.Annotate file steps depth latency strict) within a b =
    by_annotated outside file depth strict one other within.depth.at_least within.depth.at_most
    (running_agrees (λ failure. one ≡ refusal failure) (λ failure. other ≡ refusal failure) _ _ outside steps file latency
    (running_sound (λ failure. one ≡ refusal failure) (IsAnnotated outside file depth strict one) outside steps within.steps.at_most file latency a) b)
one_job outside one other (job.Show file dict) within a b = one_shown_file outside file (shown.Report dict) one other a b
one_job outside one other (job.ShowJson file dict) within a b = one_shown_file outside file (shown.Json dict) one other a b
one_job outside one other (job.ShowCsv file) within a b = one_shown_file outside file shown.Csv one other a b
one_job outside one other (job.Merge save parts) within a b = one_merged save one other outside parts a b
one_job outside one other (job.Check file) within a b =
    by_check file one other
    (file_agrees (λ failure. one ≡ refusal failure) (λ failure. other ≡ refusal failure) (AnswersChecked file one) (AnswersChecked file other) outside file_limit file a b)
one_job outside one other (job.Demo number loops) within a b = one_demo number loops outside one other a b

one_reading : (outside : Outside) (list : List (List ℕ)) (one other : Answer) (x : Result Job Usage) → words.IsAnswer list x → AnswersWords outside one x
    → AnswersWords outside other x → one ≡ other
one_reading outside list one other (Ok asked) is a b = one_job outside one other asked (jobs_are_within list asked is) a b
one_reading outside list one other (Err usage.Memory) is a b = absurd a
one_reading outside list one other (Err usage.NoCommand) is a b = a ∙ sym b
one_reading outside list one other (Err (usage.UnknownWord index)) is a b = a ∙ sym b
one_reading outside list one other (Err (usage.BadNumber index)) is a b = a ∙ sym b
one_reading outside list one other (Err (usage.Twice index)) is a b = a ∙ sym b
one_reading outside list one other (Err usage.NoFile) is a b = a ∙ sym b

-- an answer is of no want of memory
not_memory : (outside : Outside) (answer : Answer) (x : Result Job Usage) → AnswersWords outside answer x → x ≡ Err usage.Memory → ⊥
not_memory outside answer x holds is = subst (λ r. AnswersWords outside answer r) is holds

one_asked : (list : List (List ℕ)) (outside : Outside) (one other : Answer) (text : Option Asked) → AnswersAsked list outside one text
    → AnswersAsked list outside other text → one ≡ other
one_asked list outside one other (Some Help) a b = a ∙ sym b
one_asked list outside one other (Some Version) a b = a ∙ sym b
one_asked list outside one other None (x, is, a) (y, is', b) =
    let same : y ≡ x = answer_is_unique list y x is' is (not_memory outside other y b) (not_memory outside one x a) in
    one_reading outside list one other x is a (subst (λ r. AnswersWords outside other r) same b)

pub answers_are_unique : AnswersAreUnique
answers_are_unique list outside one other a b = one_asked list outside one other (asked_for list) a b
