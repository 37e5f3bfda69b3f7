-- The replay of a record is one of the run that it records.
use Rattle.std.proofs.Common.{◌≡◌, ℕ, ℤ, List, length, ◌∙◌, ap, subst}
use Rattle.k_optab.specs.Events.{operations}
use Rattle.k_ending.specs.declared.ending.End.{End}
use Rattle.k_ending.specs.declared.ending.End.TheVariants.{OutOfSteps, Returned, Trapped}
use Rattle.k_evaluation.specs.Runs.{run}
use Rattle.k_evaluation.specs.States.{Program}
use Rattle.k_replay_record.specs.declared.record.Record.{Record}
use Rattle.k_replay_record.specs.Records.{IsRecord}
use Rattle.k_replay.specs.declared.rounds.Schedule.{Schedule}
use Rattle.k_replay.specs.Plays.{Play, started}
use Rattle.k_replay.specs.Rounds.{IsSchedule}
use Rattle.k_replay.proofs.Calling.{rounds_give_the_serial_run}
use Rattle.k_replay_text.specs.Lines.{replay_text}
use Rattle.k_replay_laws.specs.Texts.{IsReplayText}
use Rattle.k_replay_laws.proofs.Seen.{records_have_schedule}
use Rattle.k_replay_run.specs.Recorded.{IsRecordOfRun}
use Rattle.k_replay_run.specs.Replayed.{IsReplayOf, ReplaysRecord, TextAtEnd, TextBehind, TextOfRecord}
use Rattle.k_replay_run.specs.declared.replay.Replay.{Replay}

-- by *Any order gives the serial run* what was written is the output
pub fired : (seed workers ops : ℕ) (tape : Record) (exit given : ℤ) (before after : Play) (s : Schedule) (output bytes text : List ℕ) → IsRecord tape
    → before ≡ started tape workers → IsSchedule seed workers before after s → output ≡ after.output → ops ≡ length tape.steps → given ≡ exit
    → bytes ≡ replay_text output ops given s → text ≡ bytes → TextOfRecord seed workers tape exit text
fired seed workers ops tape exit given before after s output bytes text recorded begins is at many same_exit told same =
    let rounds : IsSchedule seed workers (started tape workers) after s = subst (λ (p : Play). IsSchedule seed workers p after s) begins is in
    let serial = rounds_give_the_serial_run tape seed workers after s recorded rounds in
    record {
      after = after;
      schedule = s;
      rounds = rounds;
      is = same ∙ told ∙ ap (λ z. replay_text output ops z s) same_exit ∙ ap (λ n. replay_text output n exit s) many
          ∙ ap (λ out. replay_text out (length tape.steps) exit s) (at ∙ serial.2.whole is.none);
    }

-- so the text is that of the run
of_run : (program : Program) (input : List ℕ) (budget workers seed : ℕ) (tape : Record) (exit : ℤ) (text : List ℕ) → IsRecordOfRun program input budget tape
    → TextOfRecord seed workers tape exit text
    → IsReplayText workers seed exit (run program input budget).output (run program input budget).events text
of_run program input budget workers seed tape exit text is told = record {
  schedule = told.schedule;
  is_schedule = records_have_schedule tape (operations (run program input budget).events) workers seed told.after told.schedule is.sources told.rounds;
  is = told.is ∙ ap (λ bytes. replay_text bytes (length tape.steps) exit told.schedule) is.output
      ∙ ap (λ ops. replay_text (run program input budget).output ops exit told.schedule) is.count;
}

module _ (program : Program) (input : List ℕ) (budget workers seed : ℕ) (tape : Record) (is : IsRecordOfRun program input budget tape) where
  at_end : (end : End) (text : List ℕ) → TextBehind seed workers tape end text → TextAtEnd workers seed (run program input budget) end text
  at_end (Returned exit) text told = of_run program input budget workers seed tape exit text is told
  at_end (Trapped trap place) text told = told
  at_end OutOfSteps text told = told

  -- and the replay is that of the run
  pub replays : (r : Replay) → ReplaysRecord seed workers tape r → IsReplayOf (run program input budget) workers seed r
  replays r told = record {
    end = told.end ∙ is.end;
    text = subst (λ (end : End). TextAtEnd workers seed (run program input budget) end r.text) is.end (at_end tape.end r.text told.text);
  }
