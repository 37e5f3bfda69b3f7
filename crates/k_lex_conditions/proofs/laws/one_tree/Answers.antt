use Rattle.k_lex_conditions.proofs.Decided.{one_tree}
use Rattle.k_lex_conditions.proofs.laws.one_tree.Goals as goal

pub returns : goal.returns
returns c = one_tree
