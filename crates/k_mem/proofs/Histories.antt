-- The laws over calls that are made one after another.
use Rattle.std.proofs.Common.{ℕ, ◌≡◌, ◌≢◌, ◌+◌, ◌<◌, ◌≤◌, ◌⊎◌, List, [], ◌∷◌, ◌++◌, length, take, slice_get, Option, Some, None, Result, Ok, Err, ℤ, refl, arith, sym, ap, subst, inl, inr, ◌∙◌}
use Rattle.std.specs.Option.{option_map}
use Rattle.std.proofs.lemmas.Bool.Decides.{eqb_tells}
use Rattle.k_mem.specs.declared.fault.MemTrap.{MemTrap}
use Rattle.k_mem.specs.declared.pointer.Pointer.{Pointer}
use Rattle.k_mem.specs.Memory.{Object, Memory, object_of, IsLaidOut}
use Rattle.k_mem.specs.Calls.{where_live, where_within, value_read, rewritten, with_rewritten, with_value, with_values, popped, element_of, store_of, fill_of, stored, filled, push_of, load_of, next_object}
use Rattle.k_mem.specs.Changes.{Change, Push, Pop, Store, Fill, changed, after, made_or, where_answered, Spares, AllSpare, IsLive}
use Rattle.k_mem.specs.Laws.{DeadForGood, KeepsWhileLive, LoadsAsBefore, LoadsStoredLater}
use Rattle.k_mem.proofs.Found.{with_number, where_live_is, found_number, found_risen, found_before, found_behind, found_oldest, found_rewritten, rewritten_other, pushed_is}
use Rattle.k_mem.proofs.Numbers.{first_rewritten, length_rewritten, length_with_value, length_with_values}
use Rattle.k_mem.proofs.Values.{get-set_other, loads_last_stored}

-- an object that was found is none that wasn't
some_none : {o : Object} {found : Option Object} → found ≡ Some o → found ≡ None → ⊥
some_none some none = cc

-- no object is found among the oldest that isn't found among all
absent_oldest : (objects : List Object) (keep number : ℕ) → with_number objects number ≡ None → with_number (take keep objects) number ≡ None
absent_oldest objects keep number none = go (with_number (take keep objects) number) refl
  where
    go : (found : Option Object) → with_number (take keep objects) number ≡ found → with_number (take keep objects) number ≡ None
    go None is = is
    go (Some o) is = absurd (some_none (found_oldest objects keep number o is) none)

-- no object is found among rewritten ones that wasn't
absent_rewritten : (f : List (Option ℤ) → List (Option ℤ)) (to : ℕ) (m : Memory) (number : ℕ) → object_of m number ≡ None
    → object_of (with_rewritten f to m) number ≡ None
absent_rewritten f to m number none = found_rewritten f to m.live number ∙ ap (option_map (rewritten f to)) none

-- no call takes a number back
made_changed : (m : Memory) (change : Change) → m.made ≤ (changed m change).made
made_changed m (Push start n) = go (push_of m start n) refl
  where
    go : (made : Option Memory) → push_of m start n ≡ made → m.made ≤ (made_or m made).made
    go None is = omega arith
    go (Some m') is = omega (arith, (pushed_is m m' start n is).1)
made_changed m (Pop keep) = omega arith
made_changed m (Store to v) = go (store_of m to)
  where
    go : (answer : Result ℕ MemTrap) → m.made ≤ (where_answered answer (stored m to v) m).made
    go (Ok n) = omega arith
    go (Err trap) = omega arith
made_changed m (Fill number values) = go (fill_of m number)
  where
    go : {A : Type 0} (answer : Result A MemTrap) → m.made ≤ (where_answered answer (filled m number values) m).made
    go (Ok done) = omega arith
    go (Err trap) = omega arith

-- a call leaves a dead object dead
dead_changed : (m : Memory) (change : Change) (number : ℕ) → number < m.made → object_of m number ≡ None → object_of (changed m change) number ≡ None
dead_changed m (Push start n) number below none = go (push_of m start n) refl
  where
    go : (made : Option Memory) → push_of m start n ≡ made → object_of (made_or m made) number ≡ None
    go None is = none
    go (Some m') is =
        let only : with_number (next_object m start n ∷ []) number ≡ None =
        elim (eqb_tells m.made number) [ inl same ↦ absurd (omega (arith, same.1, below)) | inr other ↦ rw other.0 refl ] in
        ap (λ (objects : List Object). with_number objects number) (pushed_is m m' start n is).0
        ∙ found_behind m.live (next_object m start n ∷ []) number none ∙ only
dead_changed m (Pop keep) number below none = absent_oldest m.live keep number none
dead_changed m (Store to v) number below none = go (store_of m to)
  where
    go : (answer : Result ℕ MemTrap) → object_of (where_answered answer (stored m to v) m) number ≡ None
    go (Ok n) = absent_rewritten (with_value to.offset v) to.object m number none
    go (Err trap) = none
dead_changed m (Fill set values) number below none = go (fill_of m set)
  where
    go : {A : Type 0} (answer : Result A MemTrap) → object_of (where_answered answer (filled m set values) m) number ≡ None
    go (Ok done) = absent_rewritten (with_values values) set m number none
    go (Err trap) = none

-- an object that died is never live again, whatever calls are made
pub dead_for_good : DeadForGood
dead_for_good m [] number below none = (none, below)
dead_for_good m (change ∷ changes) number below none =
    dead_for_good (changed m change) changes number (omega (arith, made_changed m change)) (dead_changed m change number below none)

-- as many elements, of the same numbers
pub record IsSame (o o' : Object) : Type 0 where
  pub first : o'.first ≡ o.first
  pub length : length o'.elements ≡ length o.elements

-- what a call makes of a live object: it is live with its element numbers, and what the call spares is as it was
pub record Lives (offset : ℕ) (Spared : Type 0) (o : Object) (found : Option Object) : Type 0 where
  pub object : Object
  pub is : found ≡ Some object
  pub same : IsSame o object
  pub value : Spared → slice_get object.elements offset ≡ slice_get o.elements offset

-- or it died
abbrev LivesOrDies : ℕ → Type 0 → Object → Option Object → Type 0
LivesOrDies offset Spared o found = Lives offset Spared o found ⊎ (found ≡ None)

-- an object that stays as it is
unchanged : (offset : ℕ) (Spared : Type 0) (o : Object) (found : Option Object) → found ≡ Some o → Lives offset Spared o found
unchanged offset Spared o found is = record { object = o; is = is; same = record { first = refl; length = refl }; value = λ _. refl }

-- an object that is rewritten by as many elements
lives_rewritten : (f : List (Option ℤ) → List (Option ℤ)) (to : ℕ) (m : Memory) (at : Pointer) (Spared : Type 0) (o : Object)
    → ((xs : List (Option ℤ)) → length (f xs) ≡ length xs) → (Spared → slice_get (rewritten f to o).elements at.offset ≡ slice_get o.elements at.offset)
    → object_of m at.object ≡ Some o → Lives at.offset Spared o (object_of (with_rewritten f to m) at.object)
lives_rewritten f to m at Spared o long spared found = record {
  object = rewritten f to o;
  is = found_rewritten f to m.live at.object ∙ ap (option_map (rewritten f to)) found;
  same = record { first = first_rewritten f to o; length = length_rewritten f to o long };
  value = spared;
}

-- what a call makes of a live object
lives_changed : (m : Memory) (change : Change) (at : Pointer) (o : Object) → object_of m at.object ≡ Some o
    → LivesOrDies at.offset (Spares change at) o (object_of (changed m change) at.object)
lives_changed m (Push start n) at o found = go (push_of m start n) refl
  where
    go : (made : Option Memory) → push_of m start n ≡ made → LivesOrDies at.offset (Unit {0}) o (object_of (made_or m made) at.object)
    go None is = inl (unchanged at.offset (Unit {0}) o (object_of m at.object) found)
    go (Some m') is = inl (unchanged at.offset (Unit {0}) o (object_of m' at.object)
        (ap (λ (objects : List Object). with_number objects at.object) (pushed_is m m' start n is).0
        ∙ found_before m.live (next_object m start n ∷ []) at.object o found))
lives_changed m (Pop keep) at o found = go (with_number (take keep m.live) at.object) refl
  where
    go : (kept : Option Object) → with_number (take keep m.live) at.object ≡ kept
        → LivesOrDies at.offset (Unit {0}) o (with_number (take keep m.live) at.object)
    go None is = inr is
    go (Some o') is =
        let all = found_oldest m.live keep at.object o' is in
        let same : o' ≡ o = cc (all, found) in
        inl (unchanged at.offset (Unit {0}) o (with_number (take keep m.live) at.object) (is ∙ ap Some same))
lives_changed m (Store to v) at o found = go (store_of m to)
  where
    spared : (to.object ≢ at.object) ⊎ (to.offset ≢ at.offset)
        → slice_get (rewritten (with_value to.offset v) to.object o).elements at.offset ≡ slice_get o.elements at.offset
    spared differs = elim (eqb_tells o.number to.object) [
      | inl same ↦
          let apart : at.offset ≢ to.offset =
          elim differs [ inl objects ↦ λ _. objects (sym same.1 ∙ found_number m.live at.object o found) | inr offsets ↦ λ p. offsets (sym p) ] in
          rw same.0 (get-set_other o.elements to.offset at.offset (Some v) apart)
      | inr other ↦ rw other.0 refl
    ]

    go : (answer : Result ℕ MemTrap) → LivesOrDies at.offset (Spares (Store to v) at) o (object_of (where_answered answer (stored m to v) m) at.object)
    go (Ok n) = inl (lives_rewritten (with_value to.offset v) to.object m at (Spares (Store to v) at) o (length_with_value to.offset v) spared found)
    go (Err trap) = inl (unchanged at.offset (Spares (Store to v) at) o (object_of m at.object) found)
lives_changed m (Fill set values) at o found = go (fill_of m set)
  where
    spared : set ≢ at.object → slice_get (rewritten (with_values values) set o).elements at.offset ≡ slice_get o.elements at.offset
    spared differ =
        ap (λ (x : Object). slice_get x.elements at.offset)
        (rewritten_other (with_values values) set o (λ same. differ (sym same ∙ found_number m.live at.object o found)))

    go : {A : Type 0} (answer : Result A MemTrap)
        → LivesOrDies at.offset (set ≢ at.object) o (object_of (where_answered answer (filled m set values) m) at.object)
    go (Ok done) = inl (lives_rewritten (with_values values) set m at (set ≢ at.object) o (length_with_values values) spared found)
    go (Err trap) = inl (unchanged at.offset (set ≢ at.object) o (object_of m at.object) found)

-- what calls make of a live object, one after another
lives_after : (changes : List Change) (m : Memory) (at : Pointer) (o : Object) → at.object < m.made → object_of m at.object ≡ Some o
    → LivesOrDies at.offset (AllSpare changes at) o (object_of (after m changes) at.object)
lives_after [] m at o below found = inl (unchanged at.offset (Unit {0}) o (object_of m at.object) found)
lives_after (change ∷ changes) m at o below found =
    let made : at.object < (changed m change).made = omega (arith, made_changed m change) in
    elim (lives_changed m change at o found) [
      | inl lives ↦ elim (lives_after changes (changed m change) at lives.object made lives.is) [
        | inl later ↦ inl (record {
          object = later.object;
          is = later.is;
          same = record { first = later.same.first ∙ lives.same.first; length = later.same.length ∙ lives.same.length };
          value = λ spared. later.value spared.1 ∙ lives.value spared.0;
        })
        | inr dead ↦ inr dead
      ]
      | inr dead ↦ inr (dead_for_good (changed m change) changes at.object made dead).0
    ]

-- a load of a spared element of a live object is as before
load_same : (m m' : Memory) (at : Pointer) (Spared : Type 0) (o : Object) → object_of m at.object ≡ Some o
    → Lives at.offset Spared o (object_of m' at.object) → Spared → load_of m' at ≡ load_of m at
load_same m m' at Spared o found lives spared =
    ap (λ (x : Option Object). where_live x (λ x. value_read (slice_get x.elements at.offset) (x.first + at.offset))) lives.is
    ∙ ap (λ (read : Option (Option ℤ)). value_read read (lives.object.first + at.offset)) (lives.value spared)
    ∙ ap (λ (first : ℕ). value_read (slice_get o.elements at.offset) (first + at.offset)) lives.same.first
    ∙ ap (λ (x : Option Object). where_live x (λ x. value_read (slice_get x.elements at.offset) (x.first + at.offset))) (sym found)

-- the number of an element of a live object is as before
element_same : (m m' : Memory) (at : Pointer) (Spared : Type 0) (o : Object) → object_of m at.object ≡ Some o
    → Lives at.offset Spared o (object_of m' at.object) → element_of m' at ≡ element_of m at
element_same m m' at Spared o found lives =
    ap (λ (x : Option Object). where_live x (λ x. where_within (length x.elements) at.offset (Ok (x.first + at.offset)))) lives.is
    ∙ ap (λ (len : ℕ). where_within len at.offset (Ok (lives.object.first + at.offset))) lives.same.length
    ∙ ap (λ (first : ℕ). where_within (length o.elements) at.offset (Ok (first + at.offset))) lives.same.first
    ∙ ap (λ (x : Option Object). where_live x (λ x. where_within (length x.elements) at.offset (Ok (x.first + at.offset)))) (sym found)

-- an element keeps its number while its object lives
pub keeps_while_live : KeepsWhileLive
keeps_while_live m changes at laid live live' =
    let below = (found_risen m.live 0 m.made at.object live.0 laid.rise live.1).1 in
    elim (lives_after changes m at live.0 below live.1) [
      | inl lives ↦ element_same m (after m changes) at (AllSpare changes at) live.0 live.1 lives
      | inr dead ↦ absurd (some_none live'.1 dead)
    ]

-- a load reads what it read before, while the object lives
pub loads_as_before : LoadsAsBefore
loads_as_before m changes at laid spared live live' =
    let below = (found_risen m.live 0 m.made at.object live.0 laid.rise live.1).1 in
    elim (lives_after changes m at live.0 below live.1) [
      | inl lives ↦ load_same m (after m changes) at (AllSpare changes at) live.0 live.1 lives spared
      | inr dead ↦ absurd (some_none live'.1 dead)
    ]

-- a load reads what was stored, while the object lives
pub loads_stored_later : LoadsStoredLater
loads_stored_later m at v n changes laid answer spared live' =
    let live = where_live_is (object_of m at.object) _ n answer in
    let below = (found_risen m.live 0 m.made at.object live.0 laid.rise live.1).1 in
    let written = rewritten (with_value at.offset v) at.object live.0 in
    let found : object_of (stored m at v) at.object ≡ Some written =
    found_rewritten (with_value at.offset v) at.object m.live at.object ∙ ap (option_map (rewritten (with_value at.offset v) at.object)) live.1 in
    elim (lives_after changes (stored m at v) at written below found) [
      | inl lives ↦
          load_same (stored m at v) (after (stored m at v) changes) at (AllSpare changes at) written found lives spared
          ∙ loads_last_stored m at v n answer
      | inr dead ↦ absurd (some_none live'.1 dead)
    ]
