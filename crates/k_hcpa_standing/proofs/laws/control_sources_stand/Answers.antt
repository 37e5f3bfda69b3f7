use Rattle.k_hcpa_standing.proofs.Operations.{backs_stand, keeps_stand, restores_stand, saves_stand}
use Rattle.k_hcpa_standing.proofs.laws.control_sources_stand.Goals as goal

pub returns-clause-save : goal.returns-clause-save
returns-clause-save c = saves_stand

pub returns-clause-keep : goal.returns-clause-keep
returns-clause-keep c = keeps_stand

pub returns-clause-back : goal.returns-clause-back
returns-clause-back c = backs_stand

pub returns-clause-restore : goal.returns-clause-restore
returns-clause-restore c = restores_stand
