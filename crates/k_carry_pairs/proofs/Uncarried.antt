-- What no level carries gives no pair.
use Rattle.std.proofs.Common.{◌≡◌, ◌||◌, if◌then◌else◌, Bool, true, false, List, [], ◌∷◌, ap, ◌∙◌, refl}
use Rattle.k_num.specs.declared.place.Place.{Place}
use Rattle.k_carry_pairs.specs.declared.found.Found.{Found}
use Rattle.k_carry_pairs.specs.declared.levels.Level.{Level}
use Rattle.k_carry_pairs.specs.declared.origin.Origin.{Origin}
use Rattle.k_carry_pairs.specs.Gathered.{depended, is_carried, put, some_carries}

pub uncarried : (levels : List Level) (origin : Origin) (to : Place) (found : List Found) → some_carries origin.number levels ≡ false → depended levels origin to found ≡ found
uncarried [] origin to found none = refl
uncarried (l ∷ levels) origin to found none = go (is_carried origin.number l) refl none (λ less. uncarried levels origin to found less)
  where
    go : (b : Bool) → is_carried origin.number l ≡ b → (b || some_carries origin.number levels) ≡ false
        → (some_carries origin.number levels ≡ false → depended levels origin to found ≡ found) → depended (l ∷ levels) origin to found ≡ found
    go true is e rest = absurd (cc e)
    go false is e rest =
        ap (λ (x : Bool). depended levels origin to (if x then put (record { region = l.region; pair = record { from = origin.place; to = to } }) found else found)) is
        ∙ rest e
