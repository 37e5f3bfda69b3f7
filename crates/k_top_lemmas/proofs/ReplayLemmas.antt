-- What `replay` comes to: the text of a run from which main returned, of which there is one.
use Rattle.std.proofs.Common.{ℕ, ◌≡◌, ap, refl, sym, subst, ◌∙◌, List, Option, Ok, Err, inl, inr}
use Rattle.k_ending.specs.declared.ending.End.{End}
use Rattle.k_ending.specs.declared.ending.End.TheVariants as end
use Rattle.k_replay_laws.proofs.One.{one_text}
use Rattle.k_words.specs.declared.job.Job.TheVariants as job
use Rattle.k_top_answers.specs.declared.answer.Answer.{Answer}
use Rattle.k_top_answers.specs.declared.failure.Failure.{Failure}
use Rattle.k_top_answers.specs.declared.failure.Failure.TheVariants as why
use Rattle.k_top_answers.specs.Answers.{AnswersReplayed, done, refusal}
use Rattle.k_top_answers.specs.Requests.{loads_of}
use Rattle.k_top_answers.specs.Steps.{Running, run_of}
use Rattle.k_top_lemmas.specs.declared.running.Ready.{Ready}
use Rattle.k_top_lemmas.specs.Parts.{running_of}
use Rattle.k_top_lemmas.specs.Phases.{Around, FindsJob, IsEnd, MakesReady}
use Rattle.k_top_lemmas.proofs.AskedLemmas.{behind_input, running_maps}
use Rattle.k_top_lemmas.proofs.ReadyLemmas.{refusal_maps}
use Rattle.k_top_lemmas.proofs.Statuses.{done_low, ended_low}

module _ (workers seed : ℕ) where
  -- THE ANSWER is one
  pub one_replayed : (one other : Answer) (r : Running) (how : End) → AnswersReplayed workers seed one r how → AnswersReplayed workers seed other r how → one ≡ other
  one_replayed one other r (end.Returned exit) (a, is_a, made_a) (b, is_b, made_b) =
      made_a ∙ ap done (one_text workers seed exit (run_of r).output (run_of r).events a b is_a is_b) ∙ sym made_b
  one_replayed one other r (end.Trapped trap place) a b = a ∙ sym b
  one_replayed one other r end.OutOfSteps a b = a ∙ sym b

  replay_ends : (answer : Answer) (r : Running) (how : End) → AnswersReplayed workers seed answer r how → IsEnd answer
  replay_ends answer r (end.Returned exit) (text, is_text, is) = record {
    low = done_low answer.failure (ap (λ (a : Answer). a.failure) is);
    saves = inl (ap (λ (a : Answer). a.failure) is);
  }
  replay_ends answer r (end.Trapped trap place) is = record {
    low = ended_low r.steps (end.Trapped trap place) answer.failure (ap (λ (a : Answer). a.failure) is);
    saves = inr (ap (λ (a : Answer). a.saved) is);
  }
  replay_ends answer r end.OutOfSteps is = record {
    low = ended_low r.steps end.OutOfSteps answer.failure (ap (λ (a : Answer). a.failure) is);
    saves = inr (ap (λ (a : Answer). a.saved) is);
  }

  module _ (file : List ℕ) (latency : Option (List ℕ)) (steps depth : ℕ) (old new : Around) where
    pub replay_found : (r : Ready) (answer : Answer) → MakesReady (Ok r) file latency steps old new
        → AnswersReplayed workers seed answer (running_of r) (run_of (running_of r)).end → FindsJob (Ok answer) (job.Replay file steps depth latency workers seed) old new
    replay_found r answer (view, is_view, (same, input, runs, holds)) is = (
      view,
      is_view,
      (
        (loads_of (job.Replay file steps depth latency workers seed), refl, same),
        input,
        replay_ends answer (running_of r) (run_of (running_of r)).end is,
        λ outside shows.
            running_maps (λ failure. ⊥) (λ failure. answer ≡ refusal failure) (λ failure e. absurd e) (λ q. q ≡ running_of r)
            (λ q. AnswersReplayed workers seed answer q (run_of q).end)
            (λ q e. subst (λ (q : Running). AnswersReplayed workers seed answer q (run_of q).end) (sym e) is) outside file latency steps (runs outside shows),
      ),
    )

    pub replay_failed : (failure : Failure) → MakesReady (Err failure) file latency steps old new
        → FindsJob (Err failure) (job.Replay file steps depth latency workers seed) old new
    replay_failed failure (view, is_view, (before, refuses)) = (
      view,
      is_view,
      (
        before,
        refusal_maps _ _ failure (λ fails outside shows.
            running_maps (λ other. other ≡ failure) (λ other. refusal failure ≡ refusal other) (λ other e. ap refusal (sym e)) (λ running. ⊥)
            (λ q. AnswersReplayed workers seed (refusal failure) q (run_of q).end) (λ q e. absurd e) outside file latency steps (fails outside shows)) refuses,
      ),
    )

    pub replay_short : (r : Ready) → MakesReady (Ok r) file latency steps old new
        → FindsJob (Err why.NoMemory) (job.Replay file steps depth latency workers seed) old new
    replay_short r (view, is_view, (same, input, runs, holds)) = (view, is_view, (behind_input _ _ _ view old new tt same input, tt))
