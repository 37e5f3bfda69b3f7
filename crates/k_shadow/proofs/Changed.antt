-- Maps of which the first n were changed.
use Rattle.std.proofs.Common.{◌≡◌, ℕ, ◌+◌, ◌<◌, ◌≤◌, ◌≢◌, suc, List, [], ◌∷◌, length, map, get_or, set, get_or-set_same, get_or-set_other, refl, ap, sym, ◌∙◌, subst, arith, ⊎_elim}
use Rattle.std.specs.Prelude.{IsSome}
use Rattle.std.specs.Ordering.{nat_cmp}
use Rattle.std.specs.BTreeMap.{BTreeMap, get}
use Rattle.std.proofs.lemmas.Bool.{cases_eq}
use Rattle.std.proofs.lemmas.List.{length-set}
use Rattle.k_shadow.specs.Content.{with_time, set_times}
use Rattle.k_shadow.specs.Maps.{map_time, StandsIn}

module _ (F : ℕ → (ℕ → ℕ) → ℕ → ℕ) where
  -- the first n maps are those that F makes of the old ones, and the others are the old ones
  pub record Changed (n : ℕ) (old new : List (BTreeMap ℕ ℕ)) : Type 0 where
    pub same_length : length new ≡ length old
    pub done : (k : ℕ) (d : BTreeMap ℕ ℕ) → k < n → (at : ℕ) → map_time (get_or new k d) at ≡ F k (map_time (get_or old k d)) at
    pub rest : (k : ℕ) (d : BTreeMap ℕ ℕ) → n ≤ k → get_or new k d ≡ get_or old k d
    pub held : (k : ℕ) (d : BTreeMap ℕ ℕ) (at : ℕ) → IsSome (get nat_cmp (get_or old k d) at) → IsSome (get nat_cmp (get_or new k d) at)

  pub none_changed : (maps : List (BTreeMap ℕ ℕ)) → Changed 0 maps maps
  none_changed maps = record { same_length = refl; done = λ k d h. absurd (omega arith); rest = λ k d h. refl; held = λ k d at h. h }

  -- one map more
  pub changed_more : (n : ℕ) (old new : List (BTreeMap ℕ ℕ)) (m : BTreeMap ℕ ℕ) → n < length old → Changed n old new → ((d : BTreeMap ℕ ℕ) (at : ℕ) → map_time m at ≡ F n (map_time (get_or new n d)) at) → ((d : BTreeMap ℕ ℕ) (at : ℕ) → IsSome (get nat_cmp (get_or new n d) at) → IsSome (get nat_cmp m at)) → Changed (n + 1) old (set new n m)
  changed_more n old new m lt h times held =
      let within : n < length new = omega (arith, h.same_length) in
      record {
        same_length = length-set new n m ∙ h.same_length;
        done = λ k d less at. ⊎_elim
            (λ (e : k ≡ n). let P : ℕ → Type 0 = λ j. map_time (get_or (set new n m) j d) at ≡ F j (map_time (get_or old j d)) at in
            subst P (sym e) (ap (λ x. map_time x at) (get_or-set_same new n m d within) ∙ times d at ∙ ap (λ x. F n (map_time x) at) (h.rest n d (omega arith))))
            (λ (ne : k ≢ n). ap (λ x. map_time x at) (get_or-set_other new n k m d ne) ∙ h.done k d (omega arith) at)
            (cases_eq k n);
        rest = λ k d more. get_or-set_other new n k m d (omega arith) ∙ h.rest k d (omega arith);
        held = λ k d at had. ⊎_elim
            (λ (e : k ≡ n). let P : ℕ → Type 0 = λ j. IsSome (get nat_cmp (get_or (set new n m) j d) at) in
            let Q : ℕ → Type 0 = λ j. IsSome (get nat_cmp (get_or new j d) at) in
            let R : BTreeMap ℕ ℕ → Type 0 = λ x. IsSome (get nat_cmp x at) in
            subst P (sym e) (subst R (sym (get_or-set_same new n m d within)) (held d at (subst Q e (h.held k d at had)))))
            (λ (ne : k ≢ n). let R : BTreeMap ℕ ℕ → Type 0 = λ x. IsSome (get nat_cmp x at) in
            subst R (sym (get_or-set_other new n k m d ne)) (h.held k d at had))
            (cases_eq k n);
      }

-- a location that stood in all maps still does
pub still_stands : (F : ℕ → (ℕ → ℕ) → ℕ → ℕ) (n : ℕ) (old new : List (BTreeMap ℕ ℕ)) → Changed F n old new → (at : ℕ) → StandsIn old at → StandsIn new at
still_stands F n old new h at stands = λ k d lt. h.held k d at (stands k d (omega (arith, h.same_length)))

-- each map was set at a location
pub each_set : (loc : ℕ) (times : List ℕ) (old new : List (BTreeMap ℕ ℕ)) → length new ≡ length old → length times ≡ length old → ((k : ℕ) (d : BTreeMap ℕ ℕ) → k < length old → (at : ℕ) → map_time (get_or new k d) at ≡ with_time loc (get_or times k 0) (map_time (get_or old k d)) at) → map map_time new ≡ set_times loc times (map map_time old)
each_set loc times [] [] same counted h = nothing times
  where
    nothing : (times : List ℕ) → [] ≡ set_times loc times []
    nothing [] = refl
    nothing (t ∷ ts) = refl
each_set loc times [] (m ∷ ms) same counted h = absurd (omega arith)
each_set loc times (o ∷ os) [] same counted h = absurd (omega arith)
each_set loc [] (o ∷ os) (m ∷ ms) same counted h = absurd (omega arith)
each_set loc (t ∷ ts) (o ∷ os) (m ∷ ms) same counted h =
    let later : (k : ℕ) (d : BTreeMap ℕ ℕ) → k < length os → (at : ℕ) → map_time (get_or ms k d) at ≡ with_time loc (get_or ts k 0) (map_time (get_or os k d)) at = λ k d lt at. h (suc k) d (omega arith) at in
    let rest = each_set loc ts os ms (omega arith) (omega arith) later in
    λ i. (λ at. h 0 o (omega arith) at i) ∷ rest i

-- each map was made by one function
pub each_made : (f : (ℕ → ℕ) → ℕ → ℕ) (old new : List (BTreeMap ℕ ℕ)) → length new ≡ length old → ((k : ℕ) (d : BTreeMap ℕ ℕ) → k < length old → (at : ℕ) → map_time (get_or new k d) at ≡ f (map_time (get_or old k d)) at) → map map_time new ≡ map f (map map_time old)
each_made f [] [] same h = refl
each_made f [] (m ∷ ms) same h = absurd (omega arith)
each_made f (o ∷ os) [] same h = absurd (omega arith)
each_made f (o ∷ os) (m ∷ ms) same h =
    let later : (k : ℕ) (d : BTreeMap ℕ ℕ) → k < length os → (at : ℕ) → map_time (get_or ms k d) at ≡ f (map_time (get_or os k d)) at = λ k d lt at. h (suc k) d (omega arith) at in
    let rest = each_made f os ms (omega arith) later in
    λ i. (λ at. h 0 o (omega arith) at i) ∷ rest i
