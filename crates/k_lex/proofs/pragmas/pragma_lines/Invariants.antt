use Rattle.std.proofs.Common.{◌≡◌, ◌+◌, ◌≤◌, ◌++◌, length}
use Rattle.k_lex.specs.PragmaLines.{lines_from, pragma_lines}
use Rattle.k_lex.specs.Shown.{shown, Sound}
use Rattle.k_lex.proofs.pragmas.pragma_lines.Given as goal

abbrev pub invariant-loop-rest : goal.invariant-loop-rest
invariant-loop-rest l = record {
  left : l.lines.items ++ lines_from 0 l.place (shown l.state) l.rest ≡ pragma_lines l.bytes;
  sound : Sound l.state;
  line : l.place.line + length l.rest ≤ 1 + length l.bytes;
  column : l.place.column + length l.rest ≤ 1 + length l.bytes;
}

abbrev pub decreases-loop-rest : goal.decreases-loop-rest
decreases-loop-rest l = length l.rest
