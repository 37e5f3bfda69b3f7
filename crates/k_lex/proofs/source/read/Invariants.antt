use Rattle.std.proofs.Common.{◌≡◌, ◌+◌, ◌≤◌, length}
use Rattle.k_lex.specs.Tokens.{run, first_place, nothing_read}
use Rattle.k_lex.specs.Shown.{shown, Sound}
use Rattle.k_lex.proofs.source.read.Given as goal

abbrev pub invariant-loop-rest : goal.invariant-loop-rest
invariant-loop-rest l = record {
  left : run 0 l.place (shown l.state) l.rest ≡ run 0 first_place (nothing_read l.fn.limits) l.bytes;
  sound : Sound l.state;
  line : l.place.line + length l.rest ≤ 1 + length l.bytes;
  column : l.place.column + length l.rest ≤ 1 + length l.bytes;
}

abbrev pub decreases-loop-rest : goal.decreases-loop-rest
decreases-loop-rest l = length l.rest
