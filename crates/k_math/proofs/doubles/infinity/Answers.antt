use Rattle.std.proofs.Common.{refl}
use Rattle.std.specs.Float.Ieee.{div, of_bits}
use Rattle.k_math.proofs.doubles.infinity.Goals as goal

pub returns : goal.returns
unfolding div of_bits
returns c = refl
