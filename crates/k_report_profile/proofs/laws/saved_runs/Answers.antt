use Rattle.k_report_profile.proofs.Recorded.{run_saved}
use Rattle.k_report_profile.proofs.laws.saved_runs.Goals as goal

pub returns : goal.returns
returns c ran nodes saved is_whole tree few is = run_saved ran is_whole nodes tree saved is few
