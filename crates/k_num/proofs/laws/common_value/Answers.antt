use Rattle.k_num.proofs.CommonKinds.{common_keeps, common_keeps_natural, common_lifts}
use Rattle.k_num.proofs.laws.common_value.Goals as goal

pub returns-clause-signed : goal.returns-clause-signed
returns-clause-signed c = common_keeps

pub returns-clause-natural : goal.returns-clause-natural
returns-clause-natural c = common_keeps_natural

pub returns-clause-negative : goal.returns-clause-negative
returns-clause-negative c = common_lifts
