use Rattle.k_num.proofs.KindLaws.{held_wider, held_unsigned_wider}
use Rattle.k_num.proofs.CommonKinds.{promoted_keeps}
use Rattle.k_num.proofs.laws.promotion.Goals as goal

pub returns-clause-wider : goal.returns-clause-wider
returns-clause-wider c = held_wider

pub returns-clause-unsigned : goal.returns-clause-unsigned
returns-clause-unsigned c = held_unsigned_wider

pub returns-clause-kept : goal.returns-clause-kept
returns-clause-kept c = promoted_keeps
