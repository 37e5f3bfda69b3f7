-- For contracts between crates: nobody has to believe it.
-- Where a run stands that is recorded.
use Rattle.std.specs.Prelude.{ℕ, ◌≡◌, ◌+◌, ◌*◌, ◌^◌, ◌<◌, List, [], Option, Some, None}
use Rattle.k_optab.specs.declared.event.Event.{Event}
use Rattle.k_ending.specs.declared.ending.End.{End}
use Rattle.k_world.specs.Worlds.{World}
use Rattle.k_code.specs.declared.code.Code.{Code}
use Rattle.k_code.specs.Endings.{ahead}
use Rattle.k_code.specs.Runs.{run_of}
use Rattle.k_code.specs.Steps.{Going, Over}
use Rattle.k_code.specs.Valid.{IsValid}
use Rattle.k_hcpa_meaning.specs.Behind.{behind_all}
use Rattle.k_hcpa_store.specs.Kept.{Kept, configuration_of}
use Rattle.k_replay_record.specs.Recorded.{Recorded}
use Rattle.k_replay_code.specs.declared.program.Program.{Program}
use Rattle.k_replay_code.specs.Performed.{performed}
use Rattle.k_replay_code.specs.Recorded.{source_numbers, step_numbers}
use Rattle.k_replay_code.specs.Steps.{IsTaped}

-- a program with its input, and the most operations that it may make
pub record Setting : Type 0 where
  pub code : Code
  pub input : List ℕ
  pub budget : ℕ

-- the setting that a program in memory stands for
abbrev pub setting_of : Program → Setting
setting_of p = record { code = p.code.now; input = p.input.now; budget = p.budget }

-- the first steps of the run, so many, have these events, and their operations are recorded
pub record AreTaped (s : Setting) (count : ℕ) (events : List Event) (r : Recorded) : Type 0 where
  pub taped : IsTaped (performed s.code s.input s.budget count) r
  pub sources : step_numbers r.steps ≡ source_numbers events

-- the run goes on, and what it made so far is recorded
pub record Stands (s : Setting) (k : Kept) (r : Recorded) : Type 0 where
  pub count : ℕ
  pub events : List Event
  pub code : k.code ≡ s.code
  pub run : run_of s.code s.input s.budget count ≡ Going (behind_all events [] (configuration_of k))
  pub taped : AreTaped s count events r

-- the run has ended so, with the output that is kept, and all that it made is recorded
pub record HasEnded (s : Setting) (k : Kept) (r : Recorded) (end : End) : Type 0 where
  pub count : ℕ
  pub world : World
  pub run : run_of s.code s.input s.budget count ≡ Over end world
  pub output : world.output ≡ (configuration_of k).world.output
  pub taped : AreTaped s count world.events r

-- how far the end of the run can be: each step makes an operation or goes ahead
abbrev pub left_to_go : Kept → ℕ
left_to_go k = (configuration_of k).world.left * (2 ^ 29 + 1) + ahead k.code (configuration_of k)

-- a step of the run: it goes on, nearer to its end, or has ended
abbrev pub Stepped : Setting → Kept → Option End → Kept → Recorded → Type 0
Stepped s old None new r = Stands s new r × (left_to_go new < left_to_go old)
Stepped s old (Some end) new r = HasEnded s new r end
