use Rattle.std.proofs.lemmas.Nat.{or_lt}
use Rattle.k_num.specs.Kind.{width}
use Rattle.k_num.proofs.binary_operators.or.Goals as goal

pub value_of_bits-requires : goal.value_of_bits-requires
value_of_bits-requires c = or_lt (width c.args.kind) _ _ c.remainder.ensures.below c.remainder-2.ensures.below
