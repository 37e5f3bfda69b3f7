-- What `page` tells.
use Rattle.std.proofs.Common.{ℕ, ◌≡◌, Bool, refl, sym, subst, ◌∙◌, ap, List, Option, Some, None}
use Rattle.std.proofs.lemmas.Option.{same_Some}
use Rattle.k_ending.specs.declared.ending.End.{End}
use Rattle.k_ending.specs.declared.ending.End.TheVariants as end
use Rattle.k_dict_entries.specs.declared.dict.Which.{Which}
use Rattle.k_page.specs.Page.{large_page_text}
use Rattle.k_report_profile.specs.RunReport.{Ran, ops_of}
use Rattle.k_data_profile.specs.Pages.{IsRunPage}
use Rattle.k_data_profile.specs.Pages as pages
use Rattle.k_words.specs.declared.job.Job.{Job}
use Rattle.k_words.specs.declared.job.Job.TheVariants as job
use Rattle.k_top_answers.specs.declared.answer.Answer.{Answer}
use Rattle.k_top_answers.specs.Answers.{AnswersJob, AnswersPage, IsPaged, ran_of, refusal}
use Rattle.k_top_answers.specs.Clauses.{IsGiven}
use Rattle.k_top_answers.specs.Failures.{failure_of_end}
use Rattle.k_top_answers.specs.Steps.{Running, run_of}
use Rattle.k_top_headline.specs.OtherCommands.{PageIsTold, Pages, PagesGraph, PagesWithin}
use Rattle.k_top_headline.proofs.Given.{job_given}
use Rattle.k_top_headline.proofs.Ready.{held_outside, run_answered}
use Rattle.k_top_headline.proofs.Runs.{ending_at, ending_of, told_of_run}

-- THE PAGE of a run is that of its graph
of_graph : (file source : List ℕ) (ran : Ran) (dict : Bool) (text : List ℕ) → IsRunPage file source ran dict text → PagesGraph file source ran dict text
of_graph file source ran dict _ (pages.whole nodes saved text tree is page) = record {
  nodes = nodes;
  tree = tree;
  entries = saved.dict;
  dictionary = is.dict;
  within = subst (λ (found : Option Which). PagesWithin file source ran dict nodes saved.dict text found) (sym is.within) page;
}
of_graph file source ran dict _ (pages.large nodes tree over) = record {
  nodes = nodes;
  tree = tree;
  entries = over.entries;
  dictionary = over.dict;
  within = subst (λ (found : Option Which). PagesWithin file source ran dict nodes over.entries (large_page_text file ran.exit (ops_of ran)) found) (sym over.passed) refl;
}

module _ (file source : List ℕ) (depth : ℕ) (dict : Bool) (answer : Answer) (r : Running) where
  -- what the answer puts on out
  paged : (how : End) → AnswersPage file source depth dict answer r how → Pages file source r depth dict answer.out how
  paged (end.Returned exit) (text, page, is) =
      subst (λ (t : List ℕ). PagesGraph file source (ran_of r exit depth) dict t) (ap (λ (a : Answer). a.out) (sym is))
      (of_graph file source (ran_of r exit depth) dict text page)
  paged (end.Trapped trap place) is = ap (λ (a : Answer). a.out) is
  paged end.OutOfSteps is = ap (λ (a : Answer). a.out) is

  -- how it ends the call
  fails : (how : End) → AnswersPage file source depth dict answer r how → ending_of answer ≡ ending_at r how
  fails (end.Returned exit) (text, page, is) = ap ending_of is
  fails (end.Trapped trap place) is = ap ending_of is
  fails end.OutOfSteps is = ap ending_of is

-- PAGE
pub page_is_told : PageIsTold
page_is_told words status old new file latency r depth dict keeps is program =
    let j : Job = job.Page file r.steps depth latency dict in
    let given : IsGiven (λ (answer : Answer). AnswersJob keeps.outside answer j) status old new = job_given words j status old new keeps is in
    let answered : IsPaged keeps.outside file depth dict given.answer r =
    run_answered (λ failure. given.answer ≡ refusal failure) keeps.outside old file latency r (IsPaged keeps.outside file depth dict given.answer) keeps.fits program
    given.is_answer in
    let holds : keeps.outside.files file ≡ Some program.bytes = held_outside old.files.held keeps.outside.files file program.bytes keeps.fits.files program.holds.held in
    let same : answered.0 ≡ program.bytes = same_Some answered.0 program.bytes (sym answered.1 ∙ holds) in
    let page : AnswersPage file program.bytes depth dict given.answer r (run_of r).end =
    subst (λ (s : List ℕ). AnswersPage file s depth dict given.answer r (run_of r).end) same answered.2 in
    record {
      text = given.answer.out;
      written = paged file program.bytes depth dict given.answer r (run_of r).end page;
      tells = told_of_run (λ (answer : Answer). AnswersJob keeps.outside answer j) r given.answer.out status old new given refl
          (fails file program.bytes depth dict given.answer r (run_of r).end page);
    }
