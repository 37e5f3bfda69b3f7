use Rattle.std.proofs.Common.{◌≡◌, ◌≤◌, length}
use Rattle.std.specs.Prelude.{min}
use Rattle.std.specs.Char.{is_ascii_digit}
use Rattle.k_shaped.specs.Spelling.{value}
use Rattle.k_shaped.specs.Reading.{front}
use Rattle.k_shaped.proofs.parts.number.Given as goal

abbrev pub invariant-loop-b : goal.invariant-loop-b
invariant-loop-b l = record {
  low : l.n ≤ 4096;
  whole : min 4096 (value l.n (front is_ascii_digit l.rest)) ≡ min 4096 (value 0 (front is_ascii_digit l.text));
}

abbrev pub decreases-loop-b : goal.decreases-loop-b
decreases-loop-b l = length l.rest
