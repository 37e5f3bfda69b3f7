use Rattle.std.proofs.Common.{◌≡◌, ◌++◌, length}
use Rattle.k_page.specs.Escapes.{escape_from}
use Rattle.k_page.proofs.escape.push_escaped.Given as goal

abbrev pub invariant-loop-byte : goal.invariant-loop-byte
invariant-loop-byte l = l.text.items ++ escape_from l.left l.rest ≡ l.fn.text.items ++ escape_from 0 l.bytes

abbrev pub decreases-loop-byte : goal.decreases-loop-byte
decreases-loop-byte l = length l.rest
