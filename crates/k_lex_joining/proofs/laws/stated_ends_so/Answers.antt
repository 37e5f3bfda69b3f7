use Rattle.k_lex_joining.proofs.EndLaws
use Rattle.k_lex_joining.proofs.laws.stated_ends_so.Goals as goal

pub returns : goal.returns
returns c = EndLaws.stated_ends_so
