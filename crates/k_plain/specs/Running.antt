-- For contracts between crates: nobody has to believe it.
-- Where a run stands whose events are listed.
use Rattle.std.specs.Prelude.{ℕ, ◌≡◌, ◌+◌, ◌*◌, ◌^◌, ◌<◌, List, [], Option, Some, None}
use Rattle.k_optab.specs.declared.event.Event.{Event}
use Rattle.k_ending.specs.declared.ending.End.{End}
use Rattle.k_code.specs.Endings.{ahead}
use Rattle.k_code.specs.Runs.{HasOutcome, run_of}
use Rattle.k_code.specs.Steps.{Going}
use Rattle.k_hcpa_meaning.specs.Behind.{behind_all}
use Rattle.k_hcpa_store.specs.Kept.{Kept, configuration_of}
use Rattle.k_plain.specs.declared.setting.Setting.{Setting}

-- the run goes on behind these events, of whose output nothing was taken
pub record Stands (s : Setting) (k : Kept) (events : List Event) : Type 0 where
  pub count : ℕ
  pub code : k.code ≡ s.code.now
  pub run : run_of s.code.now s.input.now s.budget count ≡ Going (behind_all events [] (configuration_of k))

-- the run has ended so, with these events and the output that is kept
abbrev pub HasEnded : Setting → Kept → List Event → End → Type 0
HasEnded s k events end = HasOutcome s.code.now s.input.now s.budget events (configuration_of k).world.output end

-- how far the end of the run can be: each step makes an operation or goes ahead
abbrev pub left_to_go : Kept → ℕ
left_to_go k = (configuration_of k).world.left * (2 ^ 29 + 1) + ahead k.code (configuration_of k)

-- a step of the run: it goes on, nearer to its end, or has ended
abbrev pub Stepped : Setting → Kept → Option End → Kept → List Event → Type 0
Stepped s old None new events = Stands s new events × (left_to_go new < left_to_go old)
Stepped s old (Some end) new events = HasEnded s new events end
