-- Nothing but backslashes before newlines is left out of a source.
use Rattle.std.proofs.Common.{◌≡◌, ℕ, Bool, true, false, ◌&&◌, not, if◌then◌else◌, List, [], ◌∷◌, refl, ap}
use Rattle.k_num.specs.declared.place.Place.{Place}
use Rattle.k_lex_pieces.specs.Bytes.{after}
use Rattle.k_lex.specs.Tokens.{first_place}
use Rattle.k_lex_sources.specs.Laws.{OnlyJoinsAreLeftOut, located, joins_nowhere}
use Rattle.k_lex_sources.specs.Splicing.{Byte, joins, spliced}

-- a byte that joins nothing stays
stays : (j more : Bool) (x y z : List Byte) → not j && more ≡ true → (more ≡ true → y ≡ z) → (if j then x else y) ≡ z
stays true more x y z none behind = absurd (cc)
stays false more x y z none behind = behind none

-- the same for a text that begins anywhere
located_from : (place : Place) (bytes : List ℕ) → joins_nowhere bytes ≡ true → spliced 0 place bytes ≡ located place bytes
located_from place [] none = refl
located_from place (b ∷ bs) none = stays (joins (b ∷ bs)) (joins_nowhere bs) (spliced 1 (after place b) bs) _ _ none
    (λ behind. ap (λ (more : List Byte). record { what = b; place = place } ∷ more) (located_from (after place b) bs behind))

pub only_joins : OnlyJoinsAreLeftOut
only_joins bytes none = located_from first_place bytes none
