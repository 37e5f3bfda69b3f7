-- For contracts between crates: nobody has to believe it.
-- What one instruction of a run comes to while its events are listed.
use Rattle.std.specs.Prelude.{◌≡◌, List, ◌++◌, Option, Some, None}
use Rattle.k_optab.specs.declared.event.Event.{Event}
use Rattle.k_ending.specs.declared.ending.End.{End}
use Rattle.k_world.specs.Worlds.{World}
use Rattle.k_code.specs.Steps.{Over}
use Rattle.k_hcpa_meaning.specs.Behind.{world_behind}
use Rattle.k_hcpa_store.specs.Kept.{Kept, configuration_of}
use Rattle.k_hcpa_store.specs.Leads.{GoesOn, StepsTo}

-- the run goes on behind these events, or ends with what was written
abbrev pub GoesOrEnds : Kept → List Event → Option End → Kept → Type 0
GoesOrEnds old more None new = GoesOn old more new
GoesOrEnds old more (Some end) new =
    (w : World) × (w.output ≡ (configuration_of new).world.output) × StepsTo old (λ events taken. Over end (world_behind (events ++ more) taken w))

-- an instruction did this, and its events stand behind those that were listed
pub record Advanced (old : Kept) (end : Option End) (new : Kept) (before after : List Event) : Type 0 where
  pub more : List Event
  pub goes : GoesOrEnds old more end new
  pub listed : after ≡ before ++ more
