-- Scaled pairs are equal by their parts.
use Rattle.std.proofs.Common.{◌≡◌}
use Rattle.std.specs.Prelude.{ℤ}
use Rattle.k_math.specs.declared.pair.Pair.{Pair}
use Rattle.k_math.specs.declared.exponential.Scaled.{Scaled}

abbrev pub scaled : Pair → ℤ → Scaled
scaled v p = record { value = v; power = p }

pub same_parts : {v w : Pair} {p q : ℤ} → v ≡ w → p ≡ q → scaled v p ≡ scaled w q
same_parts value power = λ i. record { value = value i; power = power i }
