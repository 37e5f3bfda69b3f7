-- The limbs of a product, one after the other.
use Rattle.std.proofs.Common.{◌≡◌, ap, ◌∙◌, arith}
use Rattle.std.specs.Prelude.{ℕ, suc, ◌+◌, ◌*◌, ◌/◌, ◌%◌, ◌^◌}
use Rattle.k_math.specs.Reduction.{ratio_at, carried, limb}

total : (m c i bits carry sum : ℕ) → bits ≡ ratio_at (c + 64 * i) → carry ≡ carried m c i → sum ≡ bits * m + carry → sum ≡ ratio_at (c + 64 * i) * m + carried m c i
total m c i bits carry sum bits_are over is = is ∙ ap (λ b. b * m + carry) bits_are ∙ ap (λ k. ratio_at (c + 64 * i) * m + k) over

pub limb_is : (m c i bits carry sum low : ℕ) → bits ≡ ratio_at (c + 64 * i) → carry ≡ carried m c i → sum ≡ bits * m + carry → low ≡ sum % 2 ^ 64 → low ≡ limb m c i
unfolding limb
limb_is m c i bits carry sum low bits_are over is half = half ∙ ap (λ n. n % 2 ^ 64) (total m c i bits carry sum bits_are over is)

next : (i : ℕ) → suc i ≡ i + 1
next i = omega arith

pub carried_is : (m c i bits carry sum high : ℕ) → bits ≡ ratio_at (c + 64 * i) → carry ≡ carried m c i → sum ≡ bits * m + carry → high ≡ sum / 2 ^ 64 → high ≡ carried m c (i + 1)
unfolding carried
carried_is m c i bits carry sum high bits_are over is half = half ∙ ap (λ n. n / 2 ^ 64) (total m c i bits carry sum bits_are over is) ∙ ap (carried m c) (next i)
