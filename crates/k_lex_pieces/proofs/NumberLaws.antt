-- Values of digits.
use Rattle.std.proofs.Common.{ℕ, ◌+◌, ◌*◌, ◌≤◌, List, [], ◌∷◌, arith}
use Rattle.std.proofs.Math.Nat.{mul-le-mul_left}
use Rattle.k_lex_pieces.specs.Bytes.{digit_value}
use Rattle.k_lex_pieces.specs.Numbers.{value}

-- more digits make no smaller number
pub value_grows : (base so_far : ℕ) (ds : List ℕ) → 1 ≤ base → so_far ≤ value base so_far ds
value_grows base so_far [] le = omega arith
value_grows base so_far (d ∷ ds) le =
    omega (arith, value_grows base (so_far * base + digit_value d) ds le, mul-le-mul_left so_far le)
