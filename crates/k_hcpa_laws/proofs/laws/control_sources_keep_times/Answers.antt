use Rattle.k_hcpa_laws.proofs.Saving.{backs_take_times, keeps_drop_times, restores_take_times, saves_keep_times}
use Rattle.k_hcpa_laws.proofs.laws.control_sources_keep_times.Goals as goal

pub returns-clause-save : goal.returns-clause-save
returns-clause-save c = saves_keep_times

pub returns-clause-keep : goal.returns-clause-keep
returns-clause-keep c = keeps_drop_times

pub returns-clause-back : goal.returns-clause-back
returns-clause-back c = backs_take_times

pub returns-clause-restore : goal.returns-clause-restore
returns-clause-restore c = restores_take_times
