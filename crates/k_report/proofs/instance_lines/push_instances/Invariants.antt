use Rattle.std.proofs.Common.{◌≡◌, ◌≤◌, ◌++◌, List, ℕ, drop, length}
use Rattle.k_optab.specs.Events.{made_before, operations}
use Rattle.k_report.specs.Graph.{AreInstanceLines}
use Rattle.k_report.specs.Writing.{AddsInstanceLines}
use Rattle.k_report.proofs.instance_lines.push_instances.Given as goal

abbrev pub invariant-loop-number : goal.invariant-loop-number
invariant-loop-number l = record {
  place : l.at.place ≤ length l.events;
  so_far : made_before l.at.place l.events ≡ l.at.made;
  lines : (later : List ℕ) → AreInstanceLines (operations l.events) l.number (drop l.number l.tree) later
      → AddsInstanceLines (operations l.events) l.tree l.fn.text.items (l.text.items ++ later);
}
