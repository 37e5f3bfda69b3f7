use Rattle.std.proofs.Common.{sym, subst, List}
use Rattle.std.proofs.lemmas.Result.{IfOk-weaker}
use Rattle.k_dict_entries.specs.Trees.{nodes_of}
use Rattle.k_selfpar.specs.Items.{AreRowsOf, totals}
use Rattle.k_selfpar.specs.Rows.{AreAtLeastOne, AreRows}
use Rattle.k_selfpar.specs.Sums.{AreSmall}
use Rattle.k_selfpar.specs.declared.item.Item.{Item}
use Rattle.k_selfpar.proofs.Profile.{have_children}
use Rattle.k_sum_rows.specs.Runs.{run_trees}
use Rattle.k_sum_rows.proofs.Listed.{at_least_one, bounded_trees, rows_tell, totals_small}
use Rattle.k_sum_rows.proofs.run_rows.rows_of_runs.Goals as goal

pub rows_of-requires-clause-small : goal.rows_of-requires-clause-small
rows_of-requires-clause-small c =
    let P : List Item → Type 0 = λ l. AreSmall (totals c.args.dict.now l) in
    subst P (sym c.as_slice.ensures.value)
    (totals_small c.args.dict.now c.requires.profile c.args.roots.now c.requires.roots c.in_ok-items.items.items c.in_ok-items.ensures)

pub rows_of-requires-clause-children : goal.rows_of-requires-clause-children
rows_of-requires-clause-children c = have_children c.args.dict.now c.requires.profile

pub returns-clause-rows : goal.returns-clause-rows
returns-clause-rows c =
    IfOk-weaker c.rows_of.result (AreRowsOf c.args.dict.now c.as_slice.result.now) (AreRows (nodes_of 0 (run_trees c.args.dict.now c.args.roots.now)))
    (λ rows are.
    let P : List Item → Type 0 = λ l. AreRowsOf c.args.dict.now l rows in
    rows_tell c.args.dict.now c.args.roots.now c.requires.profile.interned.earlier c.in_ok-items.items.items c.in_ok-items.ensures rows (subst P c.as_slice.ensures.value are))
    c.rows_of.ensures

pub returns-clause-at_least_one : goal.returns-clause-at_least_one
returns-clause-at_least_one c =
    IfOk-weaker c.rows_of.result (AreRowsOf c.args.dict.now c.as_slice.result.now) AreAtLeastOne
    (λ rows are.
    let P : List Item → Type 0 = λ l. AreRowsOf c.args.dict.now l rows in
    at_least_one c.args.dict.now c.args.roots.now c.requires.profile.interned.earlier c.in_ok-items.items.items c.in_ok-items.ensures rows
    (bounded_trees c.args.dict.now c.requires.profile c.args.roots.now c.requires.roots) (subst P c.as_slice.ensures.value are))
    c.rows_of.ensures
