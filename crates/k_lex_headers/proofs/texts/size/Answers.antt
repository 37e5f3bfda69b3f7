use Rattle.std.proofs.Common.{refl}
use Rattle.k_lex_headers.specs.Texts.{size}
use Rattle.k_lex_headers.proofs.texts.size.Goals as goal

pub returns : goal.returns
unfolding size
returns c = refl
