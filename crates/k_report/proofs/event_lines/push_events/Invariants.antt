use Rattle.std.proofs.Common.{◌≡◌, ◌≤◌, ◌++◌, drop}
use Rattle.k_report.specs.Graph.{event_lines}
use Rattle.k_report.proofs.event_lines.push_events.Given as goal

abbrev pub invariant-loop-event : goal.invariant-loop-event
invariant-loop-event l = record {
  few : l.made ≤ l.event-index;
  lines : l.text.items ++ event_lines l.made (drop l.event-index l.events) ≡ l.fn.text.items ++ event_lines 0 l.fn.events;
}
