-- The answer of `replay`, by the replay of the program's run.
use Rattle.std.proofs.Common.{ℕ, ℤ, ◌≡◌, ap, sym, subst, ◌∙◌, List, []}
use Rattle.k_ending.specs.declared.ending.End.{End}
use Rattle.k_ending.specs.declared.ending.End.TheVariants as end
use Rattle.k_evaluation.specs.Runs.{Run, run}
use Rattle.k_replay_run.specs.Replayed.{IsReplayOf, TextAtEnd}
use Rattle.k_replay_run.specs.declared.replay.Replay.{Replay}
use Rattle.k_top_answers.specs.declared.answer.Answer.{Answer}
use Rattle.k_top_answers.specs.Answers.{AnswersReplayed, done, ended}
use Rattle.k_top_answers.specs.Steps.{Running, run_of}
use Rattle.k_top_lemmas.specs.declared.running.Ready.{Ready}
use Rattle.k_top_lemmas.specs.Parts.{CanRun, program_of, running_of}
use Rattle.k_top_lemmas.proofs.Machine.{IsBroken, WhereAccepted}

module _ (workers seed : ℕ) where
  -- THE REPLAY of a program that can run is that of its run
  pub replays_run : (ready : Ready) → CanRun ready.program → (input : List ℕ) → input ≡ ready.input → (replay : Replay)
      → WhereAccepted ready.program (IsReplayOf (run (program_of ready.program) input ready.steps) workers seed replay)
      → IsReplayOf (run_of (running_of ready)) workers seed replay
  unfolding run_of
  replays_run ready fit input same replay promised =
      subst (λ (ran : Run). IsReplayOf ran workers seed replay)
      (λ i. run (record { unit = ready.program.typed; marks = fit.marks i; latencies = ready.program.latencies }) (same i) ready.steps)
      (promised fit.unit fit.accepted fit.marks)

  -- the answer, where main returned
  told_text : (r : Running) (how : End) (text : List ℕ) → TextAtEnd workers seed (run_of r) how text → (exit : ℤ) → how ≡ end.Returned exit → (answer : Answer)
      → answer ≡ done text → AnswersReplayed workers seed answer r how
  told_text r (end.Returned other) text is exit same answer told = (text, is, told)
  told_text r (end.Trapped trap place) text is exit same answer told = absurd (cc)
  told_text r end.OutOfSteps text is exit same answer told = absurd (cc)

  pub returned_replayed : (r : Running) (replay : Replay) → IsReplayOf (run_of r) workers seed replay → (exit : ℤ) → replay.end ≡ end.Returned exit → (text : List ℕ)
      → text ≡ replay.text → (answer : Answer) → answer ≡ done text → AnswersReplayed workers seed answer r (run_of r).end
  returned_replayed r replay is exit same text gives answer told =
      told_text r (run_of r).end replay.text is.text exit (sym is.end ∙ same) answer (told ∙ ap done gives)

  -- and where it did not
  broken_replayed : (r : Running) (how : End) → IsBroken how → (answer : Answer) → answer ≡ ended [] r.steps how → AnswersReplayed workers seed answer r how
  broken_replayed r (end.Returned exit) broken answer told = absurd broken
  broken_replayed r (end.Trapped trap place) broken answer told = told
  broken_replayed r end.OutOfSteps broken answer told = told

  pub ended_replayed : (r : Running) (replay : Replay) → IsReplayOf (run_of r) workers seed replay → (how : End) → replay.end ≡ how → IsBroken how → (answer : Answer)
      → answer ≡ ended [] r.steps how → AnswersReplayed workers seed answer r (run_of r).end
  ended_replayed r replay is how same broken answer told =
      subst (λ (e : End). AnswersReplayed workers seed answer r e) (sym same ∙ is.end) (broken_replayed r how broken answer told)
