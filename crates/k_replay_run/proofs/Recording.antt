-- A record of the run of a program's flat code is one of the program's run.
use Rattle.std.proofs.Common.{◌≡◌, ℕ, List, length, map, Result, refl, sym, ◌∙◌, ap, subst}
use Rattle.std.specs.Prelude.{IfOk}
use Rattle.std.proofs.lemmas.List.{length-map}
use Rattle.std.proofs.lemmas.Result.{IfOk-weaker}
use Rattle.k_num.specs.declared.memory.NoMemory.{NoMemory}
use Rattle.k_optab.specs.declared.event.Event.{Event}
use Rattle.k_optab.specs.Events.{Operation, operations}
use Rattle.k_world.specs.Deeds.{Deed}
use Rattle.k_evaluation.specs.Deeds.{deeds, telling_run}
use Rattle.k_evaluation.specs.Runs.{Run as Ran, ended, run}
use Rattle.k_evaluation.specs.States.{Program}
use Rattle.k_code.specs.declared.code.Code.{Code}
use Rattle.k_code.specs.Runs.{EndsAfter, HasOutcome, world_of}
use Rattle.k_code.specs.Steps.{Run}
use Rattle.k_code.specs.Telling.{HasToldOutcome, untold, untold_run}
use Rattle.k_code.proofs.Stepping.{one_outcome}
use Rattle.k_code.proofs.Telling.{telling_changes_nothing}
use Rattle.k_lower.specs.Promises.{WhereAccepted}
use Rattle.k_lower_code.specs.Programs.{flattened}
use Rattle.k_lower_sound.specs.Laws.{IsLowered}
use Rattle.k_lower_sound.proofs.Programs.{programs_are_lowered}
use Rattle.k_replay_code.specs.Performed.{performed}
use Rattle.k_replay_code.specs.Recorded.{IsRecordOf, numbers, source_numbers, step_for, step_numbers, value_for}
use Rattle.k_replay_code.proofs.Deeds.{performed_is_told, performed_once}
use Rattle.k_replay_record.specs.declared.record.Record.{Record}
use Rattle.k_replay_record.specs.declared.record.Step.{Step}
use Rattle.k_replay_record.specs.Records.{IsRecord}
use Rattle.k_replay_recording.specs.Laws.{from_numbers}
use Rattle.k_replay_run.specs.Recorded.{IsRecordOfRun}

-- as many steps as operations, where each step has its operation's sources
as_many : (steps : List Step) (events : List Event) → step_numbers steps ≡ source_numbers events → length steps ≡ length (operations events)
as_many steps events same =
    sym (length-map steps (λ (s : Step). from_numbers s.operands)) ∙ ap length same ∙ length-map (operations events) (λ (op : Operation). numbers op.sources)

module _ (program : Program) (input : List ℕ) (budget : ℕ) (lowered : IsLowered program) where
  -- what the run comes to where it is told what its operations do
  abbrev it : Ran
  it = ended (telling_run program input budget)

  told : HasToldOutcome (flattened program) input budget (deeds program input budget) it.events it.output it.end
  told = lowered.tells input budget

  -- the flat code ends so where nothing is told too
  ends : EndsAfter (flattened program) input budget told.count it.end (untold told.world)
  ends = telling_changes_nothing (flattened program) input budget told.count ∙ ap untold_run told.is

  -- so it is the run
  is_run : it ≡ run program input budget
  is_run =
      let here : HasOutcome (flattened program) input budget it.events it.output it.end =
      record { count = told.count; world = untold told.world; is = ends; events_are = told.events_are; output_is = told.output_is } in
      let same = one_outcome (flattened program) input budget it.events (run program input budget).events it.output (run program input budget).output it.end
      (run program input budget).end here (lowered.runs input budget) in
      λ j. record { events = same.0 j; output = same.1 j; end = same.2 j }

  -- what the flat code performs is what the operations of the run do
  performed_all : performed (flattened program) input budget told.count ≡ deeds program input budget
  performed_all =
      sym (performed_is_told (flattened program) input budget told.count) ∙ ap (λ (r : Run). (world_of r).deeds) told.is ∙ told.deeds_are

  recorded : (tape : Record) → IsRecordOf (flattened program) input budget tape → IsRecordOfRun program input budget tape
  recorded tape is =
      let here : HasOutcome (flattened program) input budget is.world.events is.world.output tape.end =
      record { count = is.count; world = is.world; is = is.ends; events_are = refl; output_is = refl } in
      let same = one_outcome (flattened program) input budget is.world.events (run program input budget).events is.world.output (run program input budget).output
      tape.end (run program input budget).end here (lowered.runs input budget) in
      let all : performed (flattened program) input budget is.count ≡ deeds program input budget =
      performed_once (flattened program) input budget is.count told.count tape.end it.end is.world (untold told.world) is.ends ends ∙ performed_all in
      let sources : step_numbers tape.steps ≡ source_numbers (run program input budget).events = is.sources ∙ ap source_numbers same.0 in
      record {
        steps = is.steps ∙ ap (λ (ds : List Deed). map step_for ds) all;
        values = is.values ∙ ap (λ (ds : List Deed). map value_for ds) all;
        told = is_run;
        count = as_many tape.steps (run program input budget).events sources;
        sources = sources;
        output = is.output ∙ same.1;
        end = same.2;
        written = is.written ∙ same.1;
        fits = is.fits;
      }

-- what is told of the record of code that is the program's flat code
module _ (program : Program) (code : Code) (input : List ℕ) (budget : ℕ) (r : Result Record NoMemory) (same : code ≡ flattened program)
    (is : IfOk r (λ tape. IsRecordOf code input budget tape)) where
  pub all_flat : IfOk r (λ tape. IsRecordOf (flattened program) input budget tape)
  all_flat = subst (λ (c : Code). IfOk r (λ tape. IsRecordOf c input budget tape)) same is

  pub all_fit : IfOk r (λ tape. IsRecord tape)
  all_fit = IfOk-weaker {Y = NoMemory} r (λ tape. IsRecordOf code input budget tape) (λ tape. IsRecord tape) (λ tape so. so.fits) is

  pub all_recorded : IfOk r (λ tape. WhereAccepted program (IsRecordOfRun program input budget tape))
  all_recorded =
      IfOk-weaker {Y = NoMemory} r (λ tape. IsRecordOf (flattened program) input budget tape) (λ tape. WhereAccepted program (IsRecordOfRun program input budget tape))
      (λ tape so unit accepted marks. recorded program input budget (programs_are_lowered unit program accepted marks) tape so) all_flat
