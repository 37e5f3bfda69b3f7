use Rattle.std.proofs.Common.{refl}
use Rattle.k_lex_headers.specs.Texts.{booleans}
use Rattle.k_lex_headers.proofs.texts.booleans.Goals as goal

pub returns : goal.returns
unfolding booleans
returns c = refl
