use Rattle.std.proofs.Common.{refl}
use Rattle.k_lex_headers.specs.Texts.{exact_types}
use Rattle.k_lex_headers.proofs.texts.exact_types.Goals as goal

pub returns : goal.returns
unfolding exact_types
returns c = refl
