use Rattle.std.proofs.Common.{refl}
use Rattle.k_lex_headers.specs.Texts.{limits}
use Rattle.k_lex_headers.proofs.texts.limits.Goals as goal

pub returns : goal.returns
unfolding limits
returns c = refl
