-- What `annotate` tells.
use Rattle.std.proofs.Common.{ℕ, ◌≡◌, Bool, refl, sym, subst, ◌∙◌, ap, List, Option, Some, None}
use Rattle.std.proofs.lemmas.Option.{same_Some}
use Rattle.k_ending.specs.declared.ending.End.{End}
use Rattle.k_ending.specs.declared.ending.End.TheVariants as end
use Rattle.k_dict_entries.specs.declared.dict.Which.{Which}
use Rattle.k_marks_meaning.specs.Marking.{marks_of}
use Rattle.k_carry_pairs.specs.Carried.{AreCarried}
use Rattle.k_carry_pairs.specs.declared.pairs.LoopPairs.{LoopPairs}
use Rattle.k_report_profile.specs.RunReport.{Ran}
use Rattle.k_pragma_profile.specs.Annotated.{IsRunAnnotation}
use Rattle.k_pragma_profile.specs.Annotated as annotations
use Rattle.k_words.specs.declared.job.Job.{Job}
use Rattle.k_words.specs.declared.job.Job.TheVariants as job
use Rattle.k_top_answers.specs.declared.answer.Answer.{Answer}
use Rattle.k_top_answers.specs.Answers.{AnswersAnnotated, AnswersJob, IsAnnotated, ran_of, refusal}
use Rattle.k_top_answers.specs.Clauses.{IsGiven}
use Rattle.k_top_answers.specs.Failures.{failure_of_end}
use Rattle.k_top_answers.specs.Steps.{Running, run_of}
use Rattle.k_top_answers.specs.Storage.{MayBeMarked}
use Rattle.k_top_headline.specs.OtherCommands.{AnnotateIsTold, Annotates, AnnotatesGraph, AnnotatesWithin}
use Rattle.k_top_headline.proofs.Given.{job_given}
use Rattle.k_top_headline.proofs.Ready.{held_outside, run_answered}
use Rattle.k_top_headline.proofs.Runs.{ending_at, ending_of, told_of_run}

-- THE ANNOTATED SOURCE of a run is that of its graph
of_graph : (source : List ℕ) (r : Running) (ran : Ran) (strict : Bool) (loops found : List LoopPairs) (text : List ℕ) → AreCarried ran.regions ran.depth ran.events loops
    → MayBeMarked strict r ran.depth loops found → IsRunAnnotation source r.typed (marks_of r.typed) ran found text → AnnotatesGraph source r ran strict text
of_graph source r ran strict loops found _ carried may (annotations.whole nodes saved text tree is told) = record {
  loops = loops;
  are_carried = carried;
  found = found;
  may = may;
  nodes = nodes;
  tree = tree;
  entries = saved.dict;
  dictionary = is.dict;
  within = subst (λ (passed : Option Which). AnnotatesWithin source r ran found nodes text passed) (sym is.within) told;
}
of_graph source r ran strict loops found _ carried may (annotations.large nodes tree over) = record {
  loops = loops;
  are_carried = carried;
  found = found;
  may = may;
  nodes = nodes;
  tree = tree;
  entries = over.entries;
  dictionary = over.dict;
  within = subst (λ (passed : Option Which). AnnotatesWithin source r ran found nodes source passed) (sym over.passed) refl;
}

module _ (source : List ℕ) (depth : ℕ) (strict : Bool) (answer : Answer) (r : Running) where
  -- what the answer puts on out
  annotated : (how : End) → AnswersAnnotated source depth strict answer r how → Annotates source r depth strict answer.out how
  annotated (end.Returned exit) is =
      subst (λ (t : List ℕ). AnnotatesGraph source r (ran_of r exit depth) strict t) (ap (λ (a : Answer). a.out) (sym is.is))
      (of_graph source r (ran_of r exit depth) strict is.loops is.found is.text is.are_carried is.may is.annotated)
  annotated (end.Trapped trap place) is = ap (λ (a : Answer). a.out) is
  annotated end.OutOfSteps is = ap (λ (a : Answer). a.out) is

  -- how it ends the call
  fails : (how : End) → AnswersAnnotated source depth strict answer r how → ending_of answer ≡ ending_at r how
  fails (end.Returned exit) is = ap ending_of is.is
  fails (end.Trapped trap place) is = ap ending_of is
  fails end.OutOfSteps is = ap ending_of is

-- ANNOTATE
pub annotate_is_told : AnnotateIsTold
annotate_is_told words status old new file latency r depth strict keeps is program =
    let j : Job = job.Annotate file r.steps depth latency strict in
    let given : IsGiven (λ (answer : Answer). AnswersJob keeps.outside answer j) status old new = job_given words j status old new keeps is in
    let answered : IsAnnotated keeps.outside file depth strict given.answer r =
    run_answered (λ failure. given.answer ≡ refusal failure) keeps.outside old file latency r (IsAnnotated keeps.outside file depth strict given.answer) keeps.fits program
    given.is_answer in
    let holds : keeps.outside.files file ≡ Some program.bytes = held_outside old.files.held keeps.outside.files file program.bytes keeps.fits.files program.holds.held in
    let same : answered.0 ≡ program.bytes = same_Some answered.0 program.bytes (sym answered.1 ∙ holds) in
    let told : AnswersAnnotated program.bytes depth strict given.answer r (run_of r).end =
    subst (λ (s : List ℕ). AnswersAnnotated s depth strict given.answer r (run_of r).end) same answered.2 in
    record {
      text = given.answer.out;
      written = annotated program.bytes depth strict given.answer r (run_of r).end told;
      tells = told_of_run (λ (answer : Answer). AnswersJob keeps.outside answer j) r given.answer.out status old new given refl
          (fails program.bytes depth strict given.answer r (run_of r).end told);
    }
