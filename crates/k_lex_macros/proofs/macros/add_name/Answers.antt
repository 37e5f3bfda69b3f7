use Rattle.std.proofs.Common.{sym}
use Rattle.k_lex_macros.proofs.IndexLaws
use Rattle.k_lex_macros.proofs.macros.add_name.Goals as goal

pub returns-in_ok-insert : goal.returns-in_ok-insert
returns-in_ok-insert c = IndexLaws.name_added c.args.names.now c.insert.new.self c.in_ok-key.key c.args.name.now c.in_ok-key.ensures.items c.in_ok-insert.ensures.updates

pub returns-else-not-contains : goal.returns-else-not-contains
returns-else-not-contains c = IndexLaws.name_kept c.args.names.now c.args.name.now (sym c.if-not-contains.ensures)
