use Rattle.std.proofs.Common.{◌≡◌, ◌++◌, drop}
use Rattle.k_types_meaning.specs.Initialisers.{bytes_from}
use Rattle.k_typed_parts.proofs.values.put_bytes.Given as goal

abbrev pub invariant-loop-byte : goal.invariant-loop-byte
invariant-loop-byte l = l.values.items ++ bytes_from l.element (drop l.byte-index l.bytes) ≡ l.fn.values.items ++ bytes_from l.fn.from l.fn.bytes
