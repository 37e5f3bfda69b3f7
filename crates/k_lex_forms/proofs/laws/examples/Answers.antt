use Rattle.k_lex_forms.proofs.Examples
use Rattle.k_lex_forms.proofs.laws.examples.Goals as goal

pub returns-clause-quote : goal.returns-clause-quote
returns-clause-quote c = Examples.open_quote_breaks_its_line

pub returns-clause-parameter : goal.returns-clause-parameter
returns-clause-parameter c = Examples.macro_has_parameter

pub returns-clause-comment : goal.returns-clause-comment
returns-clause-comment c = Examples.open_comment_is_refused

pub returns-clause-other : goal.returns-clause-other
returns-clause-other c = Examples.other_name_is_unformed
