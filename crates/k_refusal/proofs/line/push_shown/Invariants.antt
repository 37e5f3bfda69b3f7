use Rattle.std.proofs.Common.{◌≡◌, ◌++◌, drop, map}
use Rattle.k_refusal.specs.Lines.{shown_byte}
use Rattle.k_refusal.proofs.line.push_shown.Given as goal

abbrev pub invariant-loop-byte : goal.invariant-loop-byte
invariant-loop-byte l = l.text.items ++ map shown_byte (drop l.byte-index l.line) ≡ l.fn.text.items ++ map shown_byte l.fn.line
