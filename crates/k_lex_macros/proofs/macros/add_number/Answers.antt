use Rattle.std.proofs.Common.{sym}
use Rattle.k_lex_macros.proofs.IndexLaws
use Rattle.k_lex_macros.proofs.macros.add_number.Goals as goal

pub returns-in_ok-insert : goal.returns-in_ok-insert
returns-in_ok-insert c = IndexLaws.number_added c.args.numbers.now c.insert.new.self c.in_ok-key.key c.args.name.now c.args.number c.in_ok-key.ensures.items (sym c.if-not-contains_key.ensures) c.in_ok-insert.ensures.updates

pub returns-else-not-contains_key : goal.returns-else-not-contains_key
returns-else-not-contains_key c = IndexLaws.number_kept c.args.numbers.now c.args.name.now c.args.number (sym c.if-not-contains_key.ensures)
