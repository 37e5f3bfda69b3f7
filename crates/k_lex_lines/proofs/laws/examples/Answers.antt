use Rattle.k_lex_lines.proofs.Examples.{alternatives_give, second_else_is_stray, open_if_is_at_if, found_name_holds, cut_use_is_refused}
use Rattle.k_lex_lines.proofs.laws.examples.Goals as goal

pub returns-clause-alternatives : goal.returns-clause-alternatives
returns-clause-alternatives c = alternatives_give c.plain_lists_stay.ensures

pub returns-clause-stray : goal.returns-clause-stray
returns-clause-stray c = second_else_is_stray

pub returns-clause-open : goal.returns-clause-open
returns-clause-open c = open_if_is_at_if

pub returns-clause-found : goal.returns-clause-found
returns-clause-found c = found_name_holds c.plain_lists_stay.ensures

pub returns-clause-cut : goal.returns-clause-cut
returns-clause-cut c = cut_use_is_refused
