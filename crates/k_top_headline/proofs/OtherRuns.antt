-- What `graph`, `carried` and `demo` tell.
use Rattle.std.proofs.Common.{ℕ, ◌≡◌, ◌≤◌, Bool, refl, sym, subst, ap, List, None}
use Rattle.k_ending.specs.declared.ending.End.{End}
use Rattle.k_ending.specs.declared.ending.End.TheVariants as end
use Rattle.k_gen.specs.Text.{program}
use Rattle.k_gen_laws.proofs.Made.{made_programs_are_sources}
use Rattle.k_gen_laws.specs.Laws.{IsSource}
use Rattle.k_types_meaning.specs.declared.tree.unit.TUnit.{TUnit}
use Rattle.k_words.proofs.Within.{jobs_are_within}
use Rattle.k_words.specs.Within.{IsWithin}
use Rattle.k_words.specs.declared.job.Job.{Job}
use Rattle.k_words.specs.declared.job.Job.TheVariants as job
use Rattle.k_top_answers.specs.declared.answer.Answer.{Answer}
use Rattle.k_top_answers.specs.Answers.{AnswersCarried, AnswersJob, AnswersMade, IsListed, made_running, refusal}
use Rattle.k_top_answers.specs.Clauses.{IsGiven}
use Rattle.k_top_answers.specs.Failures.{failure_of_end}
use Rattle.k_top_answers.specs.Steps.{Running, run_of}
use Rattle.k_top_exists.proofs.TypedTrees.{faultless_sources_are_typed}
use Rattle.k_top_headline.specs.OtherCommands.{CarriedIsTold, DemoIsTold, GraphIsTold, MadeProgramsAreAccepted, Sums, WritesCarried}
use Rattle.k_top_headline.proofs.Given.{job_given}
use Rattle.k_top_headline.proofs.Ready.{run_answered, source_answered}
use Rattle.k_top_headline.proofs.Runs.{ending_at, ending_of, told_of_run}

-- GRAPH
pub graph_is_told : GraphIsTold
graph_is_told words status old new file latency r depth keeps is program =
    let j : Job = job.Graph file r.steps depth latency in
    let given : IsGiven (λ (answer : Answer). AnswersJob keeps.outside answer j) status old new = job_given words j status old new keeps is in
    let listed : IsListed depth given.answer r =
    run_answered (λ failure. given.answer ≡ refusal failure) keeps.outside old file latency r (IsListed depth given.answer) keeps.fits program given.is_answer in
    record {
      tree = listed.tree;
      is_tree = listed.is_tree;
      text = listed.text;
      is_text = listed.is_text;
      tells = told_of_run (λ (answer : Answer). AnswersJob keeps.outside answer j) r listed.text status old new given
          (ap (λ (a : Answer). a.out) listed.is) (ap ending_of listed.is);
    }

module _ (depth : ℕ) (storage : Bool) (answer : Answer) (r : Running) where
  -- what the answer puts on out
  carried_written : (how : End) → AnswersCarried depth storage answer r how → WritesCarried r depth storage answer.out how
  carried_written (end.Returned exit) is = (is.loops, is.shared, is.are_carried, is.writes, ap (λ (a : Answer). a.out) is.is)
  carried_written (end.Trapped trap place) is = ap (λ (a : Answer). a.out) is
  carried_written end.OutOfSteps is = ap (λ (a : Answer). a.out) is

  -- how it ends the call
  carried_fails : (how : End) → AnswersCarried depth storage answer r how → ending_of answer ≡ ending_at r how
  carried_fails (end.Returned exit) is = ap ending_of is.is
  carried_fails (end.Trapped trap place) is = ap ending_of is
  carried_fails end.OutOfSteps is = ap ending_of is

-- CARRIED
pub carried_is_told : CarriedIsTold
carried_is_told words status old new file latency r depth storage keeps is program =
    let j : Job = job.Carried file r.steps depth latency storage in
    let given : IsGiven (λ (answer : Answer). AnswersJob keeps.outside answer j) status old new = job_given words j status old new keeps is in
    let found : AnswersCarried depth storage given.answer r (run_of r).end =
    run_answered (λ failure. given.answer ≡ refusal failure) keeps.outside old file latency r (λ (q : Running). AnswersCarried depth storage given.answer q (run_of q).end) keeps.fits program
    given.is_answer in
    record {
      text = given.answer.out;
      written = carried_written depth storage given.answer r (run_of r).end found;
      tells = told_of_run (λ (answer : Answer). AnswersJob keeps.outside answer j) r given.answer.out status old new given refl
          (carried_fails depth storage given.answer r (run_of r).end found);
    }

module _ (number loops : ℕ) (answer : Answer) (r : Running) where
  -- what the answer puts on out
  summed : (how : End) → AnswersMade number loops answer r how → Sums number loops r answer.out how
  summed (end.Returned exit) (text, is, made) =
      subst (λ (t : List ℕ). Sums number loops r t (end.Returned exit)) (ap (λ (a : Answer). a.out) (sym made)) is
  summed (end.Trapped trap place) is = ap (λ (a : Answer). a.out) is
  summed end.OutOfSteps is = ap (λ (a : Answer). a.out) is

  -- how it ends the call
  fails : (how : End) → AnswersMade number loops answer r how → ending_of answer ≡ ending_at r how
  fails (end.Returned exit) (text, is, made) = ap ending_of made
  fails (end.Trapped trap place) is = ap ending_of is
  fails end.OutOfSteps is = ap ending_of is

-- EACH MADE PROGRAM is accepted
pub made_programs_are_accepted : MadeProgramsAreAccepted
made_programs_are_accepted number loops few =
    let is : IsSource (program number loops) = made_programs_are_sources number loops few in
    let found = faultless_sources_are_typed is.unit is.faultless in
    (found.0, record { list = is.list; cut = is.cut; unit = is.unit; read = is.read; faultless = is.faultless; typed_is = found.1 })

-- DEMO
pub demo_is_told : DemoIsTold
demo_is_told words status old new number loops keeps is =
    let j : Job = job.Demo number loops in
    let within : IsWithin 1 2000 loops = jobs_are_within words j is.asked in
    let found = made_programs_are_accepted number loops within.at_most in
    let typed : TUnit = found.0 in
    let r : Running = made_running typed in
    let given : IsGiven (λ (answer : Answer). AnswersJob keeps.outside answer j) status old new = job_given words j status old new keeps is in
    let made : AnswersMade number loops given.answer r (run_of r).end =
    source_answered (λ failure. given.answer ≡ refusal failure)
    (λ (t : TUnit). AnswersMade number loops given.answer (made_running t) (run_of (made_running t)).end) (program number loops) typed found.1 given.is_answer in
    record {
      typed = typed;
      accepted = found.1;
      text = given.answer.out;
      written = summed number loops given.answer r (run_of r).end made;
      tells = told_of_run (λ (answer : Answer). AnswersJob keeps.outside answer j) r given.answer.out status old new given refl
          (fails number loops given.answer r (run_of r).end made);
    }
