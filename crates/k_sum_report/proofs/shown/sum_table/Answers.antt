use Rattle.std.proofs.lemmas.Result.{IfOk-weaker}
use Rattle.k_sum_report.specs.SumReport.{IsSumTable}
use Rattle.k_sum_report.proofs.Named.{sum_rows}
use Rattle.k_sum_report.proofs.shown.sum_table.Goals as goal

pub rows_csv-requires : goal.rows_csv-requires
rows_csv-requires c = sum_rows c.args.sum.now c.requires c.in_ok-rows.rows c.in_ok-rows.ensures.rows

pub returns : goal.returns
returns c =
    IfOk-weaker c.rows_csv.result _ (λ text. IsSumTable c.args.sum.now text.items)
    (λ text is. record { rows = c.in_ok-rows.rows; are_rows = c.in_ok-rows.ensures.rows; is = is })
    c.rows_csv.ensures
