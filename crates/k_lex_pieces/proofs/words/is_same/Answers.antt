use Rattle.std.proofs.Common.{◌∙◌}
use Rattle.k_lex_pieces.proofs.Tables.{same_pointwise}
use Rattle.k_lex_pieces.proofs.words.is_same.Goals as goal

pub returns : goal.returns
returns c = c.eq.ensures ∙ same_pointwise c.args.a.now c.args.b.now
