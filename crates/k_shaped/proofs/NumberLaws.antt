-- A number that is held at 4,096 stays at what the whole number is held at.
use Rattle.std.specs.Prelude.{◌≡◌, ◌+◌, ◌-◌, ◌*◌, ℕ, min, true, List, [], ◌∷◌}
use Rattle.std.proofs.Common.{refl, ap, sym, ◌∙◌, arith}
use Rattle.std.specs.Char.{is_ascii_digit}
use Rattle.k_shaped.specs.Spelling.{value}
use Rattle.k_shaped.specs.Reading.{front}

pub held : (m n : ℕ) (ds : List ℕ) → min 4096 m ≡ min 4096 n → min 4096 (value m ds) ≡ min 4096 (value n ds)
held m n [] e = e
held m n (d ∷ ds) e = held (m * 10 + (d - 48)) (n * 10 + (d - 48)) ds (omega (arith, e))

-- a digit more
pub next_digit : (n m b : ℕ) (rest : List ℕ) → is_ascii_digit b ≡ true → m ≡ min 4096 (n * 10 + (b - 48))
    → min 4096 (value m (front is_ascii_digit rest)) ≡ min 4096 (value n (front is_ascii_digit (b ∷ rest)))
next_digit n m b rest d e =
    held m (n * 10 + (b - 48)) (front is_ascii_digit rest) (omega (arith, e)) ∙ ap (λ l. min 4096 (value n l)) (sym (front_more d))
  where
    front_more : is_ascii_digit b ≡ true → front is_ascii_digit (b ∷ rest) ≡ b ∷ front is_ascii_digit rest
    front_more d = rw d refl
