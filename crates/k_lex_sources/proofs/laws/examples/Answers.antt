use Rattle.k_lex_sources.proofs.Examples
use Rattle.k_lex_sources.proofs.laws.examples.Goals as goal

pub returns-clause-joined : goal.returns-clause-joined
returns-clause-joined c = Examples.joined_string_is_one

pub returns-clause-pragma : goal.returns-clause-pragma
returns-clause-pragma c = Examples.read_pragmas_have_no_quotes

pub returns-clause-trigraph : goal.returns-clause-trigraph
returns-clause-trigraph c = Examples.trigraphs_join_no_lines
