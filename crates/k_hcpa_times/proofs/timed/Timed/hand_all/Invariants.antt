use Rattle.std.proofs.Common.{◌≡◌, ◌+◌, ◌-◌, ◌*◌, ◌≤◌, length}
use Rattle.k_hcpa_meaning.specs.Calls.{arguments_handed}
use Rattle.k_hcpa_times.specs.Seen.{made, Keeps, AreBelow, levels}
use Rattle.k_hcpa_times.proofs.timed.Timed.hand_all.Given as goal

-- what the rest makes from here is what all made from the start
abbrev pub invariant-loop-given : goal.invariant-loop-given
invariant-loop-given g l = let seen = g.Self.Timed.seen in record {
  below : AreBelow l.first (seen l.self).registers l.rest;
  within : l.given ≤ l.count;
  same : made (arguments_handed l.first (l.to + l.given) (l.count - l.given) l.rest) (seen l.self) ≡ made (arguments_handed l.first l.to l.count l.args) (seen l.initial.self);
  kept : Keeps (g.Self.Timed.room l.initial.self) (g.Self.Timed.room l.self);
  limit : (seen l.self).registers ≡ (seen l.initial.self).registers;
  live : levels (seen l.self) ≡ levels (seen l.initial.self);
  least : l.initial.steps ≤ l.steps;
  most : l.steps + length l.rest * levels (seen l.self) ≤ l.initial.steps + length l.args * levels (seen l.self);
}

abbrev pub decreases-loop-given : goal.decreases-loop-given
decreases-loop-given g l = l.count - l.given
