-- Where a register is, by its number among those of all live calls.
use Rattle.std.proofs.Common.{◌≡◌, ℕ, ◌+◌, ◌-◌, ◌<◌, List, ◌∷◌, None, refl, arith, inl, inr}
use Rattle.std.proofs.lemmas.Bool.{cases_lt, lt-ltb, le-ltb}
use Rattle.k_code.specs.declared.code.Code.{Code}
use Rattle.k_code.specs.Steps.{Frame}
use Rattle.k_hcpa_meaning.specs.Locations.{width, widths, register_at}

-- a register of the calls that wait
pub register_below : (code : Code) (f : Frame) (frames : List Frame) (k : ℕ) → k < widths code frames → register_at code (f ∷ frames) k ≡ register_at code frames k
register_below code f frames k low = rw (lt-ltb k (widths code frames) low) refl

-- a register is one of a call that waits, of the newest one, or of none
pub data Place (code : Code) (f : Frame) (frames : List Frame) (k : ℕ) : Type 0 where
  waits : k < widths code frames → Place code f frames k
  own : (r : ℕ) → k ≡ widths code frames + r → r < width code f.func → Place code f frames k
  none : register_at code (f ∷ frames) k ≡ None → Place code f frames k

pub place_of : (code : Code) (f : Frame) (frames : List Frame) (k : ℕ) → Place code f frames k
place_of code f frames k =
    elim (cases_lt k (widths code frames)) [
      | inl low ↦ waits low
      | inr high ↦ elim (cases_lt k (width code f.func + widths code frames)) [
        | inl within ↦ own (k - widths code frames) (omega arith) (omega arith)
        | inr past ↦ none (rw (le-ltb k (widths code frames) high, le-ltb k (width code f.func + widths code frames) past) refl)
      ]
    ]
