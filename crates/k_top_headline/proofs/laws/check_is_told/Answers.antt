use Rattle.k_top_headline.proofs.Checked.{accepted_is_told, refusal_is_told}
use Rattle.k_top_headline.proofs.laws.check_is_told.Goals as goal

pub returns-clause-accepted : goal.returns-clause-accepted
returns-clause-accepted c = accepted_is_told

pub returns-clause-refused : goal.returns-clause-refused
returns-clause-refused c = refusal_is_told
