use Rattle.k_world.proofs.Sound.{operations_tell_deeds, operations_count, control_stays, tests_control, calls_stay, origins_stay}
use Rattle.k_world.proofs.laws.what_stays.Goals as goal

pub returns-clause-counted : goal.returns-clause-counted
returns-clause-counted c = operations_count

pub returns-clause-deeds : goal.returns-clause-deeds
returns-clause-deeds c = operations_tell_deeds

pub returns-clause-control : goal.returns-clause-control
returns-clause-control c = control_stays

pub returns-clause-tests : goal.returns-clause-tests
returns-clause-tests c = tests_control

pub returns-clause-calls : goal.returns-clause-calls
returns-clause-calls c = calls_stay

pub returns-clause-origins : goal.returns-clause-origins
returns-clause-origins c = origins_stay
