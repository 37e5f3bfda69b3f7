use Rattle.std.proofs.Common.{◌≡◌, ◌++◌, Ok, length}
use Rattle.k_lex_pieces.specs.Bytes.{HasRoom}
use Rattle.k_lex_pieces.specs.Literals.{content}
use Rattle.k_lex_pieces.specs.Outcome.{◌>>=◌}
use Rattle.k_lex_pieces.proofs.literals.content.Given as goal

abbrev pub invariant-loop-rest : goal.invariant-loop-rest
invariant-loop-rest l = record {
  room : HasRoom l.place (length l.rest);
  left : (content l.place 0 l.rest >>= λ vs. Ok (l.out ++ vs)) ≡ content l.fn.place 0 l.text;
}

abbrev pub decreases-loop-rest : goal.decreases-loop-rest
decreases-loop-rest l = length l.rest
