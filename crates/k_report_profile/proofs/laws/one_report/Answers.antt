use Rattle.k_report_profile.proofs.OneRun.{run_report_is_unique}
use Rattle.k_report_profile.proofs.Reported.{report_is_unique}
use Rattle.k_report_profile.proofs.laws.one_report.Goals as goal

pub returns : goal.returns
returns c = record { profile = report_is_unique; run = run_report_is_unique }
