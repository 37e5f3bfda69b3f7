use Rattle.k_hcpa_laws.proofs.Alone.{closing_objects_keeps_times, forgetting_keeps_times, jumps_keep_times, opening_objects_keeps_times}
use Rattle.k_hcpa_laws.proofs.laws.others_keep_times.Goals as goal

pub returns-clause-jump : goal.returns-clause-jump
returns-clause-jump c = jumps_keep_times

pub returns-clause-forget : goal.returns-clause-forget
returns-clause-forget c = forgetting_keeps_times

pub returns-clause-open : goal.returns-clause-open
returns-clause-open c = opening_objects_keeps_times

pub returns-clause-close : goal.returns-clause-close
returns-clause-close c = closing_objects_keeps_times
