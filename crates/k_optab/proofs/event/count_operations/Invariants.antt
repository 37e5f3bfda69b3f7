use Rattle.std.proofs.Common.{◌≡◌, ◌+◌, ◌≤◌, length, drop}
use Rattle.k_optab.specs.Events.{operations}
use Rattle.k_optab.proofs.event.count_operations.Given as goal

-- the operations counted and those that are left are all
abbrev pub invariant-loop-event : goal.invariant-loop-event
invariant-loop-event l = record {
  counted : l.count + length (operations (drop l.event-index l.events)) ≡ length (operations l.events);
  small : l.count ≤ l.event-index;
}
