use Rattle.std.proofs.Common.{refl}
use Rattle.k_lex_headers.specs.Texts.{least_types}
use Rattle.k_lex_headers.proofs.texts.least_types.Goals as goal

pub returns : goal.returns
unfolding least_types
returns c = refl
