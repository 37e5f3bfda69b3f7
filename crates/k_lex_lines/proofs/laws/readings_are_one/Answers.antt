use Rattle.k_lex_lines.proofs.Unique.{one}
use Rattle.k_lex_lines.proofs.laws.readings_are_one.Goals as goal

pub returns : goal.returns
returns c = one c.expansions_are_one.ensures
