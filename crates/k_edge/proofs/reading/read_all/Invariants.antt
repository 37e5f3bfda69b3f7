use Rattle.std.proofs.Common.{◌≡◌, ◌-◌, ◌+◌, ◌≤◌, length}
use Rattle.k_edge.specs.ReadAll.{Draws}
use Rattle.k_edge.proofs.reading.read_all.Given as goal

-- the bytes so far were taken without a fault, the end was not told, and they are within the limit
abbrev pub invariant-pieces : goal.invariant-pieces
invariant-pieces g l = record {
  drawn : Draws l.bytes.items (g.S.Source.seen l.fn.src) (g.S.Source.seen l.src);
  faultless : (g.S.Source.seen l.src).faults ≡ (g.S.Source.seen l.fn.src).faults;
  running : (g.S.Source.seen l.src).ended ≡ (g.S.Source.seen l.fn.src).ended;
  within : length l.bytes.items ≤ l.limit;
}

-- each piece but the last has a byte more
abbrev pub decreases-pieces : goal.decreases-pieces
decreases-pieces g l = l.limit + 1 - length l.bytes.items
