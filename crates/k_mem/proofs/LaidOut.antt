-- Each call leaves the memory laid out.
use Rattle.std.proofs.Common.{ℕ, ◌≡◌, ◌+◌, ◌^◌, ◌<◌, ◌≤◌, List, [], ◌∷◌, ◌++◌, length, take, drop, map, sum_by, Bool, true, false, Option, Some, None, Result, Ok, Err, ℤ, zero, suc, refl, arith, sym, ap, subst, ◌∙◌}
use Rattle.std.proofs.lemmas.List.Sums.{sum_by-cons, sum_by-append, sum_by-take-drop}
use Rattle.k_mem.specs.declared.fault.MemTrap.{MemTrap}
use Rattle.k_mem.specs.Memory.{Object, Memory, live_elements, FollowOn, Rise, IsLaidOut}
use Rattle.k_mem.specs.Calls.{rewritten, with_rewritten, with_value, with_values, elements_at, next_object, push_of, popped, stored, filled, store_of, fill_of, is_over_limit}
use Rattle.k_mem.specs.Changes.{Change, Push, Pop, Store, Fill, changed, made_or, where_answered}
use Rattle.k_mem.specs.Laws.{NothingIsLaidOut, StaysLaidOut}
use Rattle.k_mem.proofs.Found.{rise_le, number_rewritten, pushed_is}
use Rattle.k_mem.proofs.Numbers.{size, first_rewritten, length_rewritten, length_with_value, length_with_values}
use Rattle.k_mem.proofs.Grown.{length_made, within_limits}

-- the memory without objects is laid out
pub nothing_is_laid_out : NothingIsLaidOut
nothing_is_laid_out = record { follow_on = tt; rise = omega arith; few_elements = omega arith; few_objects = omega arith }

module _ (f : List (Option ℤ) → List (Option ℤ)) (to : ℕ) (long : (xs : List (Option ℤ)) → length (f xs) ≡ length xs) where
  follow_rewritten : (objects : List Object) (start : ℕ) → FollowOn start objects → FollowOn start (map (rewritten f to) objects)
  follow_rewritten [] start follow = tt
  follow_rewritten (o ∷ objects) start follow = (
    first_rewritten f to o ∙ follow.0,
    subst (λ (n : ℕ). FollowOn (start + n) (map (rewritten f to) objects)) (sym (length_rewritten f to o long))
        (follow_rewritten objects (start + length o.elements) follow.1),
  )

  rise_rewritten : (objects : List Object) (low made : ℕ) → Rise low objects made → Rise low (map (rewritten f to) objects) made
  rise_rewritten [] low made rise = rise
  rise_rewritten (o ∷ objects) low made rise =
      subst (λ (n : ℕ). (low ≤ n) × Rise (n + 1) (map (rewritten f to) objects) made) (sym (number_rewritten f to o))
      (rise.0, rise_rewritten objects (o.number + 1) made rise.1)

  -- where each object keeps as many elements, as many are live
  pub size_rewritten : (objects : List Object) → sum_by size (map (rewritten f to) objects) ≡ sum_by size objects
  size_rewritten [] = refl
  size_rewritten (o ∷ objects) =
      let new = sum_by-cons size (rewritten f to o) (map (rewritten f to) objects) in
      let old = sum_by-cons size o objects in
      omega (arith, new, old, size_rewritten objects, length_rewritten f to o long)

  -- rewriting an object by as many elements
  pub laid_rewritten : (m : Memory) → IsLaidOut m → IsLaidOut (with_rewritten f to m)
  laid_rewritten m laid = record {
    follow_on = follow_rewritten m.live 0 laid.follow_on;
    rise = rise_rewritten m.live 0 m.made laid.rise;
    few_elements = omega (arith, size_rewritten m.live, laid.few_elements);
    few_objects = laid.few_objects;
  }

follow_oldest : (objects : List Object) (keep start : ℕ) → FollowOn start objects → FollowOn start (take keep objects)
follow_oldest objects zero start follow = tt
follow_oldest [] (suc keep) start follow = tt
follow_oldest (o ∷ objects) (suc keep) start follow = (follow.0, follow_oldest objects keep (start + length o.elements) follow.1)

rise_oldest : (objects : List Object) (keep low made : ℕ) → Rise low objects made → Rise low (take keep objects) made
rise_oldest objects zero low made rise = rise_le objects low made rise
rise_oldest [] (suc keep) low made rise = rise
rise_oldest (o ∷ objects) (suc keep) low made rise = (rise.0, rise_oldest objects keep (o.number + 1) made rise.1)

-- keeping the oldest objects alone
pub laid_oldest : (m : Memory) (keep : ℕ) → IsLaidOut m → IsLaidOut (popped m keep)
laid_oldest m keep laid = record {
  follow_on = follow_oldest m.live keep 0 laid.follow_on;
  rise = rise_oldest m.live keep 0 m.made laid.rise;
  few_elements = omega (arith, sum_by-take-drop size m.live keep, laid.few_elements);
  few_objects = laid.few_objects;
}

follow_more : (objects : List Object) (start : ℕ) (o : Object) → FollowOn start objects → o.first ≡ start + sum_by size objects
    → FollowOn start (objects ++ o ∷ [])
follow_more [] start o follow first = (omega (arith, first), tt)
follow_more (x ∷ objects) start o follow first =
    (follow.0, follow_more objects (start + length x.elements) o follow.1 (omega (arith, first, sum_by-cons size x objects)))

rise_more : (objects : List Object) (low made : ℕ) (o : Object) → Rise low objects made → o.number ≡ made → Rise low (objects ++ o ∷ []) (made + 1)
rise_more [] low made o rise number = (omega (arith, rise, number), omega (arith, number))
rise_more (x ∷ objects) low made o rise number = (rise.0, rise_more objects (x.number + 1) made o rise.1 number)

-- each call leaves the memory laid out
pub stays_laid_out : StaysLaidOut
stays_laid_out m (Push start n) has laid = go (push_of m start n) refl
  where
    go : (made : Option Memory) → push_of m start n ≡ made → IsLaidOut (made_or m made)
    go None is = laid
    go (Some m') is =
        let pushed = pushed_is m m' start n is in
        let next = next_object m start n in
        let limits = within_limits (live_elements m) n m.made pushed.2 in
        let more = sum_by-append size m.live (next ∷ []) in
        let one = sum_by-cons size next [] in
        let new : IsLaidOut (record { live = m.live ++ next ∷ []; made = m.made + 1 }) = record {
          follow_on = follow_more m.live 0 next laid.follow_on (omega arith);
          rise = rise_more m.live 0 m.made next laid.rise refl;
          few_elements = omega (arith, more, one, limits.0, length_made start n has);
          few_objects = omega (arith, limits.1);
        } in
        let is_next : m' ≡ record { live = m.live ++ next ∷ []; made = m.made + 1 } =
        λ i. record { live = pushed.0 i; made = pushed.1 i } in
        subst IsLaidOut (sym is_next) new
stays_laid_out m (Pop keep) has laid = laid_oldest m keep laid
stays_laid_out m (Store to v) has laid = go (store_of m to)
  where
    go : (answer : Result ℕ MemTrap) → IsLaidOut (where_answered answer (stored m to v) m)
    go (Ok n) = laid_rewritten (with_value to.offset v) to.object (length_with_value to.offset v) m laid
    go (Err trap) = laid
stays_laid_out m (Fill number values) has laid = go (fill_of m number)
  where
    go : {A : Type 0} (answer : Result A MemTrap) → IsLaidOut (where_answered answer (filled m number values) m)
    go (Ok done) = laid_rewritten (with_values values) number (length_with_values values) m laid
    go (Err trap) = laid
