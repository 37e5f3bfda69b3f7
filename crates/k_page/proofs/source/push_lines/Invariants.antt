use Rattle.std.proofs.Common.{◌≡◌, ◌≤◌, ◌+◌, ◌++◌, length}
use Rattle.k_page.specs.Source.{line_rows, lines}
use Rattle.k_page.proofs.source.push_lines.Given as goal

abbrev pub invariant-loop-later : goal.invariant-loop-later
invariant-loop-later l = record {
  few : l.number + length l.rest ≤ length l.source + 1;
  left : l.text.items ++ line_rows l.regions l.contexts l.picks l.whole l.number l.later (lines l.rest)
      ≡ l.fn.text.items ++ line_rows l.regions l.contexts l.picks l.whole 1 l.rows (lines l.source);
}

abbrev pub decreases-loop-later : goal.decreases-loop-later
decreases-loop-later l = length l.rest
