use Rattle.k_top_exists.proofs.RunReports.{profile_reports_exist, read_reports_exist}
use Rattle.k_top_exists.proofs.ReportParts.{contexts_exist, plans_exist}
use Rattle.k_top_exists.proofs.RowsOfTrees.{rows_exist}
use Rattle.k_top_exists.proofs.laws.profile_reports.Goals as goal

pub returns-clause-saved : goal.returns-clause-saved
returns-clause-saved c = profile_reports_exist rows_exist contexts_exist plans_exist

pub returns-clause-read : goal.returns-clause-read
returns-clause-read c = read_reports_exist rows_exist contexts_exist plans_exist
