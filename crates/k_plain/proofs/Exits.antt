-- Instances that are left, one after another.
use Rattle.std.proofs.Common.{◌≡◌, ℕ, zero, suc, ◌-◌, ◌<◌, List, [], ◌∷◌, ◌++◌, arith, sym, ap, ◌∙◌}
use Rattle.std.specs.Prelude.{replicate}
use Rattle.std.proofs.lemmas.List.{append_assoc}
use Rattle.k_optab.specs.declared.event.Event.{Event}
use Rattle.k_optab.specs.declared.event.Event.TheVariants.{Exit}

one_first : (n m : ℕ) → 0 < n → m ≡ n - 1 → replicate n Exit ≡ Exit ∷ replicate m Exit
one_first zero m some less = absurd (omega arith)
one_first (suc n) m some less =
    let same : m ≡ n = omega (arith, less) in
    ap (λ (k : ℕ). Exit ∷ replicate k Exit) (sym same)

-- one is listed, and the rest is to come
pub one_exit : (events all : List Event) (n m : ℕ) → 0 < n → m ≡ n - 1 → events ++ replicate n Exit ≡ all → (events ++ Exit ∷ []) ++ replicate m Exit ≡ all
one_exit events all n m some less is =
    append_assoc events (Exit ∷ []) (replicate m Exit) ∙ ap (λ (es : List Event). events ++ es) (sym (one_first n m some less)) ∙ is
