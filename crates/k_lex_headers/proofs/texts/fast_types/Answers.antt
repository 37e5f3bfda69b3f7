use Rattle.std.proofs.Common.{refl}
use Rattle.k_lex_headers.specs.Texts.{fast_types}
use Rattle.k_lex_headers.proofs.texts.fast_types.Goals as goal

pub returns : goal.returns
unfolding fast_types
returns c = refl
