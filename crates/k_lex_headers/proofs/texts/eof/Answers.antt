use Rattle.std.proofs.Common.{refl}
use Rattle.k_lex_headers.specs.Texts.{eof}
use Rattle.k_lex_headers.proofs.texts.eof.Goals as goal

pub returns : goal.returns
unfolding eof
returns c = refl
