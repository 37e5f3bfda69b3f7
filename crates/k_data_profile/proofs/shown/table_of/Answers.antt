use Rattle.std.proofs.Common.{◌≤◌, List, length, subst, arith}
use Rattle.std.proofs.lemmas.Result.{IfOk-weaker}
use Rattle.k_optab.specs.declared.node.Node.{Node}
use Rattle.k_selfpar.specs.Rows.{AreRows}
use Rattle.k_report_profile.specs.Report.{nodes_of_profile}
use Rattle.k_report_profile.proofs.Reported.{at_root, saved_rows}
use Rattle.k_data_profile.specs.Shown.{IsTable}
use Rattle.k_data_profile.proofs.Texts.{rows_table}
use Rattle.k_data_profile.proofs.shown.table_of.Goals as goal

pub rows-requires-clause-root : goal.rows-requires-clause-root
rows-requires-clause-root c =
    let count = c.len-root.ensures.count in let some : 1 ≤ length c.args.saved.now.dict = c.requires.profile.some in omega arith

pub rows-requires-clause-profile : goal.rows-requires-clause-profile
rows-requires-clause-profile c = c.requires.profile

pub rows_csv-requires : goal.rows_csv-requires
rows_csv-requires c =
    let P : List Node → Type 0 = λ l. AreRows l c.in_ok-rows.rows in
    saved_rows c.args.saved.now c.requires c.in_ok-rows.rows
    (subst P (at_root c.args.saved.now c.len-root.result c.len-root.ensures.count) c.in_ok-rows.ensures.rows)

pub returns : goal.returns
returns c =
    let P : List Node → Type 0 = λ l. AreRows l c.in_ok-rows.rows in
    IfOk-weaker c.rows_csv.result _ (λ text. IsTable c.args.saved.now text.items)
    (λ text is. rows_table c.args.saved.now c.in_ok-rows.rows text.items
    (subst P (at_root c.args.saved.now c.len-root.result c.len-root.ensures.count) c.in_ok-rows.ensures.rows) is)
    c.rows_csv.ensures
