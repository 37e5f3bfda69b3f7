use Rattle.std.proofs.Common.{◌≡◌, drop}
use Rattle.k_world.specs.Worlds.{World}
use Rattle.k_code.specs.Runs.{with_objects}
use Rattle.k_code.specs.Steps.{Run}
use Rattle.k_hcpa_store.proofs.state.start.open_objects.Given as goal

abbrev pub invariant-loop-object : goal.invariant-loop-object
invariant-loop-object l = (on : World → Run) → with_objects l.fn.objects on l.fn.world ≡ with_objects (drop l.object-index l.objects) on l.world
