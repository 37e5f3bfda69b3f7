-- What `replay` tells.
use Rattle.std.proofs.Common.{ℕ, ◌≡◌, refl, sym, subst, ap, List, None}
use Rattle.k_ending.specs.declared.ending.End.{End}
use Rattle.k_ending.specs.declared.ending.End.TheVariants as end
use Rattle.k_words.specs.declared.job.Job.{Job}
use Rattle.k_words.specs.declared.job.Job.TheVariants as job
use Rattle.k_top_answers.specs.declared.answer.Answer.{Answer}
use Rattle.k_top_answers.specs.Answers.{AnswersJob, AnswersReplayed, refusal}
use Rattle.k_top_answers.specs.Clauses.{IsGiven}
use Rattle.k_top_answers.specs.Failures.{failure_of_end}
use Rattle.k_top_answers.specs.Steps.{Running, run_of}
use Rattle.k_top_headline.specs.Replay.{ReplayIsTold, WritesReplay}
use Rattle.k_top_headline.proofs.Given.{job_given}
use Rattle.k_top_headline.proofs.Ready.{run_answered}
use Rattle.k_top_headline.proofs.Runs.{ending_at, ending_of, told_of_run}

module _ (workers seed : ℕ) (answer : Answer) (r : Running) where
  -- what the answer puts on out
  written : (how : End) → AnswersReplayed workers seed answer r how → WritesReplay r workers seed answer.out how
  written (end.Returned exit) (text, is, made) =
      subst (λ (t : List ℕ). WritesReplay r workers seed t (end.Returned exit)) (ap (λ (a : Answer). a.out) (sym made)) is
  written (end.Trapped trap place) is = ap (λ (a : Answer). a.out) is
  written end.OutOfSteps is = ap (λ (a : Answer). a.out) is

  -- how it ends the call
  fails : (how : End) → AnswersReplayed workers seed answer r how → ending_of answer ≡ ending_at r how
  fails (end.Returned exit) (text, is, made) = ap ending_of made
  fails (end.Trapped trap place) is = ap ending_of is
  fails end.OutOfSteps is = ap ending_of is

pub replay_is_told : ReplayIsTold
replay_is_told words status old new file latency r depth workers seed keeps is program =
    let j : Job = job.Replay file r.steps depth latency workers seed in
    let given : IsGiven (λ (answer : Answer). AnswersJob keeps.outside answer j) status old new = job_given words j status old new keeps is in
    let found : AnswersReplayed workers seed given.answer r (run_of r).end =
    run_answered (λ failure. given.answer ≡ refusal failure) keeps.outside old file latency r
    (λ (q : Running). AnswersReplayed workers seed given.answer q (run_of q).end) keeps.fits program given.is_answer in
    record {
      text = given.answer.out;
      written = written workers seed given.answer r (run_of r).end found;
      tells = told_of_run (λ (answer : Answer). AnswersJob keeps.outside answer j) r given.answer.out status old new given refl
          (fails workers seed given.answer r (run_of r).end found);
    }
