use Rattle.k_sum_order.proofs.Steps.{item_below, item_few, item_is, placed_is}
use Rattle.k_sum_order.proofs.placing.place.Goals as goal

pub renumber-requires-clause-below : goal.renumber-requires-clause-below
renumber-requires-clause-below c =
    item_below c.args.entries.now c.args.number c.index-entries-number.result c.requires.within c.index-entries-number.is c.requires.earlier _ c.requires.count

pub renumber-requires-clause-few : goal.renumber-requires-clause-few
renumber-requires-clause-few c =
    item_few c.args.entries.now c.args.number c.index-entries-number.result c.requires.within c.index-entries-number.is c.requires.few

pub returns-in_ok-found-in-Ok-clause-placed : goal.returns-in_ok-found-in-Ok-clause-placed
returns-in_ok-found-in-Ok-clause-placed c =
    placed_is c.args.entries.now c.args.numbers.now c.args.table.now c.intern.new.self c.args.number c.in_ok-found-in-Ok.found c.index-entries-number.result
    c.in-Ok.renumbered c.in-Ok.ensures
    (item_is c.args.entries.now c.args.number c.index-entries-number.result c.requires.within c.index-entries-number.is)
    c.in_ok-found-in-Ok.ensures.answer c.in_ok-found-in-Ok.ensures.distinct.apart
