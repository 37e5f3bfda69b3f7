use Rattle.std.proofs.Common.{refl}
use Rattle.k_lex_headers.specs.Texts.{constants}
use Rattle.k_lex_headers.proofs.texts.constants.Goals as goal

pub returns : goal.returns
unfolding constants
returns c = refl
