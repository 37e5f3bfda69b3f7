use Rattle.std.proofs.Common.{refl}
use Rattle.k_lex_headers.specs.Texts.{formats}
use Rattle.k_lex_headers.proofs.texts.formats.Goals as goal

pub returns : goal.returns
unfolding formats
returns c = refl
