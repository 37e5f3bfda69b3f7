use Rattle.std.proofs.Common.{◌≡◌, ◌≤◌, ◌+◌, length}
use Rattle.k_hexadecimal.specs.Hexadecimal.{behind}
use Rattle.k_hexadecimal.proofs.HexadecimalLaws.{Reads}
use Rattle.k_hexadecimal.proofs.hexadecimal.read.Given as goal

abbrev pub invariant-loop-b : goal.invariant-loop-b
invariant-loop-b l = record {
  reads : Reads l.fn.start l.s l.rest l.fn.text;
  rest : behind l.rest ≡ behind l.fn.text;
  within : length l.rest ≤ length l.fn.text;
  room : l.s.dropped + length l.rest ≤ l.fn.start.dropped + length l.fn.text;
}

abbrev pub decreases-loop-b : goal.decreases-loop-b
decreases-loop-b l = length l.rest
