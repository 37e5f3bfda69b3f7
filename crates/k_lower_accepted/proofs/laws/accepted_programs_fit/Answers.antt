use Rattle.k_lower_accepted.proofs.Programs.{programs_fit, programs_are_sound}
use Rattle.k_lower_accepted.proofs.Totals.{programs_are_small}
use Rattle.k_lower_accepted.proofs.laws.accepted_programs_fit.Goals as goal

pub returns-clause-fit : goal.returns-clause-fit
returns-clause-fit c = programs_fit

pub returns-clause-sound : goal.returns-clause-sound
returns-clause-sound c = programs_are_sound

pub returns-clause-small : goal.returns-clause-small
returns-clause-small c = programs_are_small
