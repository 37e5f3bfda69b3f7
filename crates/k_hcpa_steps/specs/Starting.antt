-- For contracts between crates: nobody has to believe it.
-- How the parts of a machine begin.
use Rattle.std.specs.Prelude.{◌≡◌, [], Result, Ok, Err}
use Rattle.k_world.specs.declared.answer.Stop.{Stop}
use Rattle.k_world.specs.declared.answer.Stop.TheVariants as stop
use Rattle.k_world.specs.Worlds.{World}
use Rattle.k_code.specs.Runs.{start}
use Rattle.k_code.specs.Steps.{Over}
use Rattle.k_hcpa_standing.specs.Standing.{Setting}
use Rattle.k_hcpa_times.specs.Seen.{Seen}
use Rattle.k_hcpa_steps.specs.declared.parts.Parts.{Parts}
use Rattle.k_hcpa_steps.specs.Keeping.{StandsAt, keeping}

-- the run of a setting begins so; or it has ended at once
abbrev pub StartsAt : {T : Type 0} → (T → Seen) → Setting → Result (Parts T) Stop → Type 0
StartsAt seen s (Ok p) = (p.depth ≡ s.depth) × StandsAt s 0 0 (keeping p.store (seen p.times) p.summaries)
StartsAt seen s (Err (stop.Ended end)) = (w : World) × (w.events ≡ []) × (w.output ≡ []) × (start s.code s.input s.budget ≡ Over end w)
StartsAt seen s (Err stop.Memory) = Unit {0}
