use Rattle.std.proofs.Common.{◌≡◌, ◌≤◌, length}
use Rattle.std.specs.Prelude.{min}
use Rattle.k_hexadecimal.specs.Hexadecimal.{decimal}
use Rattle.k_hexadecimal.proofs.hexadecimal.decimal_number.Given as goal

abbrev pub invariant-loop-b : goal.invariant-loop-b
invariant-loop-b l = record {
  most : l.n ≤ 1208925819614629174706176;
  capped : min (decimal l.n l.rest) 1208925819614629174706176 ≡ min (decimal 0 l.fn.digits) 1208925819614629174706176;
}

abbrev pub decreases-loop-b : goal.decreases-loop-b
decreases-loop-b l = length l.rest
