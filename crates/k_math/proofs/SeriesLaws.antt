-- Horner's rule over every second coefficient goes on by two.
use Rattle.std.proofs.Common.{◌≡◌, sym, ap, ◌∙◌}
use Rattle.std.specs.Prelude.{List, ◌∷◌}
use Rattle.k_math.specs.declared.pair.Pair.{Pair}
use Rattle.k_math.specs.Series.{with_next, second_from}

pub by_two : (z p n c d whole : Pair) (rest behind later : List Pair) → rest ≡ c ∷ behind → behind ≡ d ∷ later → n ≡ with_next z p d → second_from z p rest ≡ whole → second_from z n later ≡ whole
unfolding second_from
by_two z p n c d whole rest behind later first second is held =
    ap (λ q. second_from z q later) is ∙ sym (ap (λ l. second_from z p (c ∷ l)) second) ∙ sym (ap (second_from z p) first) ∙ held
