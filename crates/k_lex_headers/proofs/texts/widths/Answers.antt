use Rattle.std.proofs.Common.{refl}
use Rattle.k_lex_headers.specs.Texts.{widths}
use Rattle.k_lex_headers.proofs.texts.widths.Goals as goal

pub returns : goal.returns
unfolding widths
returns c = refl
