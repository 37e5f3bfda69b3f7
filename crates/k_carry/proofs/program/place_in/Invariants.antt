use Rattle.std.proofs.Common.{◌≤◌}
use Rattle.k_hcpa_store.specs.Kept.{configuration_of}
use Rattle.k_carry.specs.Running.{Stands, left_to_go}
use Rattle.k_carry.specs.Sources.{setting_of}
use Rattle.k_carry.proofs.program.place_in.Given as goal

-- the run goes on, behind no more operations than stand before that of this number
abbrev pub invariant-loop-place : goal.invariant-loop-place
invariant-loop-place l = record {
  stands : Stands (setting_of l.fn.program) l.store;
  fewer : (configuration_of l.store).world.made ≤ l.fn.number;
}

abbrev pub decreases-loop-place : goal.decreases-loop-place
decreases-loop-place l = left_to_go l.store
