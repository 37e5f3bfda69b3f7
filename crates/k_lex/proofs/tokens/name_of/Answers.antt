use Rattle.k_lex_pieces.proofs.NameLaws.{name_utf8}
use Rattle.k_lex.proofs.tokens.name_of.Goals as goal

pub unreachable-requires : goal.unreachable-requires
unreachable-requires c = c.in-Err.ensures.cases.0 (name_utf8 c.args.spelling.now c.requires)
