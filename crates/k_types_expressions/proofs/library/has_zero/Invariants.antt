use Rattle.std.proofs.Common.{◌≡◌, drop}
use Rattle.k_types_meaning.specs.CallRules.{has_zero}
use Rattle.k_types_expressions.proofs.library.has_zero.Given as goal

abbrev pub invariant-loop-byte : goal.invariant-loop-byte
invariant-loop-byte l = has_zero (drop l.byte-index l.bytes) ≡ has_zero l.bytes
