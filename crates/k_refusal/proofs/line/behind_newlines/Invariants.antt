use Rattle.std.proofs.Common.{◌≡◌, length}
use Rattle.k_refusal.specs.Lines.{behind_newlines}
use Rattle.k_refusal.proofs.line.behind_newlines.Given as goal

abbrev pub invariant-loop-byte : goal.invariant-loop-byte
invariant-loop-byte l = behind_newlines l.left l.rest ≡ behind_newlines l.fn.count l.source

abbrev pub decreases-loop-byte : goal.decreases-loop-byte
decreases-loop-byte l = length l.rest
