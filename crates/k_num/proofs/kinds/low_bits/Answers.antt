use Rattle.std.proofs.Common.{◌-◌, ap, ◌∙◌, bit_and}
use Rattle.std.proofs.lemmas.Nat.{and_mask}
use Rattle.k_num.specs.Kind.{width}
use Rattle.k_num.proofs.kinds.low_bits.Goals as goal

pub returns : goal.returns
returns c = ap (λ m. bit_and c.args.bits (m - 1)) c.modulus.ensures ∙ and_mask c.args.bits (width c.args.kind)
