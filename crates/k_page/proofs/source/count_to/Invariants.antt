use Rattle.std.proofs.Common.{◌≡◌, ◌+◌, length}
use Rattle.k_page.specs.Source.{count_to}
use Rattle.k_page.proofs.source.count_to.Given as goal

abbrev pub invariant-loop-row : goal.invariant-loop-row
invariant-loop-row l = record {
  counted : l.count + length l.rest ≡ length l.rows;
  left : l.count + count_to l.regions l.line l.rest ≡ count_to l.regions l.line l.rows;
}

abbrev pub decreases-loop-row : goal.decreases-loop-row
decreases-loop-row l = length l.rest
