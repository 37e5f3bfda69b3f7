use Rattle.k_hcpa_laws.proofs.Alone.{addresses_have_no_time, filled_elements_have_no_time}
use Rattle.k_hcpa_laws.proofs.laws.no_operation_has_no_time.Goals as goal

pub returns-clause-address : goal.returns-clause-address
returns-clause-address c = addresses_have_no_time

pub returns-clause-fill : goal.returns-clause-fill
returns-clause-fill c = filled_elements_have_no_time
