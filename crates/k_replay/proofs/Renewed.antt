-- Flags of operations that can be given, once some are told anew.
use Rattle.std.proofs.Common.{◌≡◌, ◌≢◌, ℕ, ◌+◌, ◌<◌, ◌≤◌, ◌⊎◌, inl, inr, List, [], ◌∷◌, ◌++◌, length, take, get_or, set, Option, Bool, false, Contains, sym, ◌∙◌, ap, subst, arith}
use Rattle.std.proofs.Math.ListN.{length-set}
use Rattle.std.proofs.lemmas.List.{get_or-set_same, get_or-set_other, take_more}
use Rattle.std.proofs.lemmas.List.Elements.{Contains-append_left, Contains-push, Contains-push_cases}
use Rattle.std.proofs.Math.ListN.{get_or-eq_default}
use Rattle.std.proofs.lemmas.Option.{slice_get_past}
use Rattle.std.specs.Prelude.{not, ◌&&◌}
use Rattle.k_replay_record.specs.declared.record.Datum.{Datum}
use Rattle.k_replay_record.specs.declared.record.Step.{Step}
use Rattle.k_replay.specs.Plays.{can_give, has_sources, is_fired, is_held}
use Rattle.k_replay.specs.Kept.{Renews}
use Rattle.k_replay_record.proofs.Lists.{same_or_not}

-- one more is
renews_push : (numbers : List ℕ) (f : ℕ → Bool) (before flags : List Bool) (n : ℕ) → n < length flags
    → Renews numbers f before flags → Renews (numbers ++ n ∷ []) f before (set flags n (f n))
renews_push numbers f before flags n h r = record {
  lengths = length-set flags n (f n) ∙ r.lengths;
  here = λ k c. here k c (same_or_not k n);
  others = λ k absent. others k absent (same_or_not k n);
}
  where
    here : (k : ℕ) → Contains (numbers ++ n ∷ []) k → (k ≡ n) ⊎ (k ≢ n) → get_or (set flags n (f n)) k false ≡ f k
    here k c (inl e) = ap (λ (x : ℕ). get_or (set flags n (f n)) x false) e ∙ get_or-set_same flags n (f n) false h ∙ ap f (sym e)
    here k c (inr ne) = get_or-set_other flags n k (f n) false ne ∙ (elim (Contains-push_cases numbers n k c) [ inl old ↦ r.here k old | inr e ↦ absurd (ne (sym e)) ])

    others : (k : ℕ) → (Contains (numbers ++ n ∷ []) k → ⊥) → (k ≡ n) ⊎ (k ≢ n) → get_or (set flags n (f n)) k false ≡ get_or before k false
    others k absent (inl e) = absurd (absent (subst (λ (x : ℕ). Contains (numbers ++ n ∷ []) x) (sym e) (Contains-push numbers n)))
    others k absent (inr ne) = get_or-set_other flags n k (f n) false ne ∙ r.others k (λ c. absent (Contains-append_left numbers (n ∷ []) k c))

pub renews_step : (numbers : List ℕ) (i d : ℕ) (f : ℕ → Bool) (before flags after : List Bool) → i < length numbers → get_or numbers i d < length flags
    → Renews (take i numbers) f before flags → after ≡ set flags (get_or numbers i d) (f (get_or numbers i d)) → Renews (take (i + 1) numbers) f before after
renews_step numbers i d f before flags after h within r is =
    subst (λ (xs : List ℕ). Renews xs f before after) (sym (take_more numbers i d h))
    (subst (λ (fs : List Bool). Renews (take i numbers ++ get_or numbers i d ∷ []) f before fs) (sym is) (renews_push (take i numbers) f before flags (get_or numbers i d) within r))

-- no operation beyond the steps can be given
pub none_past : (steps : List Step) (held : List (Option ℕ)) (values : List (Option Datum)) (flags : List Bool) (k : ℕ) → length flags ≡ length steps → length steps ≤ k
    → get_or flags k false ≡ can_give steps held values k
none_past steps held values flags k same past =
    get_or-eq_default flags false {n = k} (omega arith) ∙ ap (λ (x : Option Step). has_sources values x && (not (is_fired values k) && not (is_held held k))) (sym (slice_get_past steps k past))
