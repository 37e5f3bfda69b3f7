use Rattle.k_top_exists.proofs.RunReports.{run_reports_exist}
use Rattle.k_top_exists.proofs.ReportParts.{contexts_exist, plans_exist}
use Rattle.k_top_exists.proofs.RowsOfTrees.{rows_exist}
use Rattle.k_top_exists.proofs.laws.run_reports.Goals as goal

pub returns : goal.returns
returns c = run_reports_exist rows_exist contexts_exist plans_exist
