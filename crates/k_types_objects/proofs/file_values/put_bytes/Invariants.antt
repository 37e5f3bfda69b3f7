use Rattle.std.proofs.Common.{◌≡◌, ◌++◌, length}
use Rattle.k_types_meaning.specs.Initialisers.{bytes_from}
use Rattle.k_types_objects.proofs.file_values.put_bytes.Given as goal

abbrev pub invariant-loop-byte : goal.invariant-loop-byte
invariant-loop-byte l = l.numbers ++ bytes_from l.next l.rest ≡ l.fn.numbers ++ bytes_from l.fn.element l.bytes

abbrev pub decreases-loop-byte : goal.decreases-loop-byte
decreases-loop-byte l = length l.rest
