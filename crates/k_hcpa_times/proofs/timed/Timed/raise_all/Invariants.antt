use Rattle.std.proofs.Common.{◌≡◌, ◌+◌, ◌*◌, length}
use Rattle.k_hcpa_meaning.specs.Timings.{raised_all}
use Rattle.k_hcpa_meaning.specs.Locations.{operand_locations}
use Rattle.k_hcpa_times.specs.Seen.{made, Keeps, AreBelow, levels}
use Rattle.k_hcpa_times.proofs.timed.Timed.raise_all.Given as goal

-- what the rest makes from here is what all made from the start
abbrev pub invariant-loop-arg : goal.invariant-loop-arg
invariant-loop-arg g l = let seen = g.Self.Timed.seen in record {
  below : AreBelow l.first (seen l.self).registers l.rest;
  raised : made (raised_all (operand_locations l.first l.rest)) (seen l.self) ≡ made (raised_all (operand_locations l.first l.args)) (seen l.initial.self);
  kept : Keeps (g.Self.Timed.room l.initial.self) (g.Self.Timed.room l.self);
  live : levels (seen l.self) ≡ levels (seen l.initial.self);
  steps : l.steps + length (operand_locations l.first l.rest) * levels (seen l.self) ≡ l.initial.steps + length (operand_locations l.first l.args) * levels (seen l.self);
}

abbrev pub decreases-loop-arg : goal.decreases-loop-arg
decreases-loop-arg g l = length l.rest
