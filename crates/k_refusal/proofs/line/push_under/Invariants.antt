use Rattle.std.proofs.Common.{◌≡◌, ◌++◌, drop}
use Rattle.std.specs.List.{flat_map}
use Rattle.k_refusal.specs.Lines.{under_byte}
use Rattle.k_refusal.proofs.line.push_under.Given as goal

abbrev pub invariant-loop-byte : goal.invariant-loop-byte
invariant-loop-byte l = l.text.items ++ flat_map under_byte (drop l.byte-index l.line) ≡ l.fn.text.items ++ flat_map under_byte l.fn.line
