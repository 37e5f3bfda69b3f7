use Rattle.k_num.proofs.CommonKinds.{common_symmetric, common_wider, common_unsigned, common_not_narrower}
use Rattle.k_num.proofs.laws.common_kind.Goals as goal

pub returns-clause-symmetric : goal.returns-clause-symmetric
returns-clause-symmetric c = common_symmetric

pub returns-clause-wider : goal.returns-clause-wider
returns-clause-wider c = common_wider

pub returns-clause-unsigned : goal.returns-clause-unsigned
returns-clause-unsigned c = common_unsigned

pub returns-clause-not_narrower : goal.returns-clause-not_narrower
returns-clause-not_narrower c = common_not_narrower
