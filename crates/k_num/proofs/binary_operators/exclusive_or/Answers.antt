use Rattle.std.proofs.lemmas.Nat.{xor_lt}
use Rattle.k_num.specs.Kind.{width}
use Rattle.k_num.proofs.binary_operators.exclusive_or.Goals as goal

pub value_of_bits-requires : goal.value_of_bits-requires
value_of_bits-requires c = xor_lt (width c.args.kind) _ _ c.remainder.ensures.below c.remainder-2.ensures.below
