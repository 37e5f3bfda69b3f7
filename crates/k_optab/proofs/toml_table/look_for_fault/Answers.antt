use Rattle.k_optab.proofs.TomlTables.{keys_in_order}
use Rattle.k_optab.proofs.toml_table.look_for_fault.Goals as goal

pub returns-in-Err-clause-order : goal.returns-in-Err-clause-order
returns-in-Err-clause-order c = keys_in_order c.args.document.now.entries c.iter-key-items.ensures.ordered

pub returns-clause-order : goal.returns-clause-order
returns-clause-order c = keys_in_order c.args.document.now.entries c.iter-key-items.ensures.ordered
