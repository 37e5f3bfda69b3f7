use Rattle.k_lex_lines.proofs.Unread.{group_gives_nothing, rest_gives_nothing}
use Rattle.k_lex_lines.proofs.laws.groups.Goals as goal

pub returns-clause-unread : goal.returns-clause-unread
returns-clause-unread c = group_gives_nothing

pub returns-clause-one : goal.returns-clause-one
returns-clause-one c = rest_gives_nothing
