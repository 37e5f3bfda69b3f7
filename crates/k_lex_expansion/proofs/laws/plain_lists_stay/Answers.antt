use Rattle.std.proofs.Common.{refl}
use Rattle.k_lex_expansion.proofs.Unique.{stays}
use Rattle.k_lex_expansion.proofs.laws.plain_lists_stay.Goals as goal

pub returns : goal.returns
returns c = λ macros limit w all. stays macros limit w.list w refl all
