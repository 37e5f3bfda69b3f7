use Rattle.std.proofs.Common.{List, sym, subst}
use Rattle.k_dict_entries.specs.Entries.{AreInterned}
use Rattle.k_dict_entries.specs.declared.entry.Entry.{Entry}
use Rattle.k_dict_entries.proofs.Pushes.{interned}
use Rattle.k_sum_order.proofs.Ordered.{ordered_earlier}
use Rattle.k_sum_order.proofs.ordering.order.Goals as goal

pub from_table-requires : goal.from_table-requires
from_table-requires c =
    ordered_earlier c.args.entries.now c.order_levels.new.numbers c.order_levels.new.table c.requires.interned.earlier c.in_ok-order_levels.ensures.ordered

pub returns-clause-interned : goal.returns-clause-interned
returns-clause-interned c =
    let P : List Entry → Type 0 = AreInterned in
    subst P (sym c.from_table.ensures)
    (interned c.order_levels.new.table c.in_ok-order_levels.ensures.distinct
    (ordered_earlier c.args.entries.now c.order_levels.new.numbers c.order_levels.new.table c.requires.interned.earlier c.in_ok-order_levels.ensures.ordered))
