-- How many numbers there are in one of so many parts.
use Rattle.std.proofs.Common.{◌≡◌, ℕ, ◌*◌, ◌/◌, ◌<◌, ap, ◌∙◌}
use Rattle.std.proofs.Math.Nat.{mul-div_cancel_left}

-- one of so many parts
pub part_of : (each count n part : ℕ) → 0 < count → part ≡ each / count → each ≡ count * n → part ≡ n
part_of each count n part some is whole = is ∙ (ap (λ e. e / count) whole ∙ mul-div_cancel_left n some)
