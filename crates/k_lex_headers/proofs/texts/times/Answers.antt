use Rattle.std.proofs.Common.{refl}
use Rattle.k_lex_headers.specs.Texts.{times}
use Rattle.k_lex_headers.proofs.texts.times.Goals as goal

pub returns : goal.returns
unfolding times
returns c = refl
