use Rattle.std.proofs.Common.{◌≡◌, ◌++◌, drop}
use Rattle.k_page.specs.Lists.{entry_lines}
use Rattle.k_page.proofs.lists.push_entry_lines.Given as goal

abbrev pub invariant-loop-entry : goal.invariant-loop-entry
invariant-loop-entry l = record {
  counted : l.number ≡ l.entry-index;
  left : l.text.items ++ entry_lines l.regions l.number (drop l.entry-index l.entries) ≡ l.fn.text.items ++ entry_lines l.regions 0 l.fn.entries;
}
