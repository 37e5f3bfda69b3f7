-- The laws on what a load reads, over one call.
use Rattle.std.proofs.Common.{ℕ, ◌≡◌, ◌≢◌, ◌+◌, ◌-◌, ◌<◌, ◌≤◌, ◌⊎◌, List, [], ◌∷◌, ◌++◌, length, take, replicate, map, slice_get, get_or, set, Option, Some, None, Result, Ok, Err, ℤ, pos, refl, arith, sym, ap, subst, inl, inr, ◌∙◌}
use Rattle.std.specs.Option.{option_map, unwrap_or}
use Rattle.std.proofs.Math.ListN.{length-set}
use Rattle.std.proofs.lemmas.Bool.{cases_lt}
use Rattle.std.proofs.lemmas.Bool.Decides.{eqb_tells}
use Rattle.std.proofs.lemmas.List.{get_or-set_same, get_or-set_other, get_or-take, get_or-map, get_or_append_left, get_or-append-add, get_or-replicate, get_or_past, length-map}
use Rattle.std.proofs.lemmas.Option.{slice_get-get_or, slice_get_past, unwrap_or-slice_get}
use Rattle.k_mem.specs.declared.fault.MemTrap.{MemTrap}
use Rattle.k_mem.specs.declared.fault.MemTrap.TheVariants.{ReadOnly}
use Rattle.k_mem.specs.declared.pointer.Pointer.{Pointer}
use Rattle.k_mem.specs.Memory.{Object, Memory, object_of}
use Rattle.k_mem.specs.Calls.{where_live, where_within, value_read, rewritten, with_rewritten, with_value, with_values, load_of, element_of, filled}
use Rattle.k_mem.specs.Laws.{LoadsLastStored, LoadsOthersAsBefore, LoadsValueSet, LoadsZeroBeyond, SetsNoOther}
use Rattle.k_mem.proofs.Found.{where_live_is, within_is, write_is, found_number, found_rewritten, rewritten_here, rewritten_other}
use Rattle.k_mem.proofs.Numbers.{length_with_values, first_rewritten}

-- what an object answers on the value at an offset
abbrev value_in : ℕ → Object → Result (ℤ × ℕ) MemTrap
value_in offset o = value_read (slice_get o.elements offset) (o.first + offset)

-- the entry that was set is the one that was put there
get-set_same : (xs : List (Option ℤ)) (i : ℕ) (x : Option ℤ) → i < length xs → slice_get (set xs i x) i ≡ Some x
get-set_same xs i x below =
    slice_get-get_or (set xs i x) i None (omega (arith, length-set xs i x)) ∙ ap Some (get_or-set_same xs i x None below)

-- every other entry is as before
pub get-set_other : (xs : List (Option ℤ)) (i j : ℕ) (x : Option ℤ) → j ≢ i → slice_get (set xs i x) j ≡ slice_get xs j
get-set_other xs i j x other = elim (cases_lt j (length xs)) [
  | inl below ↦ slice_get-get_or (set xs i x) j None (omega (arith, length-set xs i x)) ∙ ap Some (get_or-set_other xs i j x None other)
      ∙ sym (slice_get-get_or xs j None below)
  | inr past ↦ slice_get_past (set xs i x) j (omega (arith, length-set xs i x)) ∙ sym (slice_get_past xs j past)
]

-- a load of an object that was rewritten reads what f gives
load_here : (f : List (Option ℤ) → List (Option ℤ)) (m : Memory) (at : Pointer) (o : Object) → object_of m at.object ≡ Some o
    → load_of (with_rewritten f at.object m) at ≡ value_read (slice_get (f o.elements) at.offset) (o.first + at.offset)
load_here f m at o found =
    ap (λ (x : Option Object). where_live x (value_in at.offset)) (found_rewritten f at.object m.live at.object ∙ ap (option_map (rewritten f at.object)) found)
    ∙ ap (value_in at.offset) (rewritten_here f at.object o (found_number m.live at.object o found))

-- a load reads what was stored last
pub loads_last_stored : LoadsLastStored
loads_last_stored m at v n answer =
    let live = where_live_is (object_of m at.object) _ n answer in
    let here = write_is live.0.writable (length live.0.elements) at.offset (live.0.first + at.offset) n live.2 in
    load_here (with_value at.offset v) m at live.0 live.1
    ∙ ap (λ (read : Option (Option ℤ)). value_read read (live.0.first + at.offset)) (get-set_same live.0.elements at.offset (Some v) here.0)
    ∙ ap (λ (k : ℕ). let answer : Result (ℤ × ℕ) MemTrap = Ok (v, k) in answer) here.1

-- an object of another number is as it was
pub other_as_before : (f : List (Option ℤ) → List (Option ℤ)) (to number : ℕ) (m : Memory) → to ≢ number
    → object_of (with_rewritten f to m) number ≡ object_of m number
other_as_before f to number m other = found_rewritten f to m.live number ∙ each (object_of m number) (found_number m.live number)
  where
    each : (found : Option Object) → ((o : Object) → found ≡ Some o → o.number ≡ number) → option_map (rewritten f to) found ≡ found
    each None is = refl
    each (Some o) is = ap Some (rewritten_other f to o (λ same. other (sym same ∙ is o refl)))

-- setting an object's elements changes no other object
pub sets_no_other : SetsNoOther
sets_no_other m number other values differ = other_as_before (with_values values) number other m differ

-- a store changes no element but the one written
pub loads_others_as_before : LoadsOthersAsBefore
loads_others_as_before m to at v differs = elim (eqb_tells to.object at.object) [
  | inl same ↦
      let apart : at.offset ≢ to.offset = elim differs [ inl objects ↦ λ _. objects same.1 | inr offsets ↦ λ p. offsets (sym p) ] in
      subst (λ (number : ℕ). load_of (with_rewritten (with_value to.offset v) number m) at ≡ load_of m at) (sym same.1)
      (ap (λ (x : Option Object). where_live x (value_in at.offset)) (found_rewritten (with_value to.offset v) at.object m.live at.object)
      ∙ each apart (object_of m at.object) (found_number m.live at.object))
  | inr other ↦ ap (λ (x : Option Object). where_live x (value_in at.offset)) (other_as_before (with_value to.offset v) to.object at.object m other.1)
]
  where
    each : (at.offset ≢ to.offset) → (found : Option Object) → ((o : Object) → found ≡ Some o → o.number ≡ at.object)
        → where_live (option_map (rewritten (with_value to.offset v) at.object) found) (value_in at.offset) ≡ where_live found (value_in at.offset)
    each apart None is = refl
    each apart (Some o) is =
        ap (value_in at.offset) (rewritten_here (with_value to.offset v) at.object o (is o refl))
        ∙ ap (λ (read : Option (Option ℤ)). value_read read (o.first + at.offset)) (get-set_other o.elements to.offset at.offset (Some v) apart)

-- the element at a place is the value there, or 0
pub get_or-with_values : (values : List ℤ) (xs : List (Option ℤ)) (i : ℕ) → i < length xs → get_or (with_values values xs) i None ≡ Some (get_or values i (pos 0))
get_or-with_values values xs i below =
    get_or-take (length xs) (map (λ (v : ℤ). Some v) values ++ replicate (length xs) (Some (pos 0))) i None below
    ∙ elim (cases_lt i (length values)) [
      | inl within ↦
          get_or_append_left (map (λ (v : ℤ). Some v) values) (replicate (length xs) (Some (pos 0))) None i (omega (arith, length-map values (λ (v : ℤ). Some v)))
          ∙ get_or-map (λ (v : ℤ). Some v) values i (pos 0) None within
      | inr past ↦
          let start : length (map (λ (v : ℤ). Some v) values) + (i - length values) ≡ i = omega (arith, length-map values (λ (v : ℤ). Some v)) in
          subst (λ (k : ℕ). get_or (map (λ (v : ℤ). Some v) values ++ replicate (length xs) (Some (pos 0))) k None ≡ Some (pos 0)) start
          (get_or-append-add (map (λ (v : ℤ). Some v) values) (replicate (length xs) (Some (pos 0))) (i - length values) None
          ∙ get_or-replicate (length xs) (i - length values) (Some (pos 0)) None (omega arith))
          ∙ ap Some (sym (get_or_past values i (pos 0) past))
    ]

-- an element of an object that was set has the value of its place, or 0
loads_set : (m : Memory) (at : Pointer) (values : List ℤ) (n : ℕ) → element_of m at ≡ Ok n
    → load_of (filled m at.object values) at ≡ Ok (get_or values at.offset (pos 0), n)
loads_set m at values n answer =
    let live = where_live_is (object_of m at.object) _ n answer in
    let here = within_is live.2 in
    load_here (with_values values) m at live.0 live.1
    ∙ ap (λ (read : Option (Option ℤ)). value_read read (live.0.first + at.offset))
    (slice_get-get_or (with_values values live.0.elements) at.offset None (omega (arith, here.0, length_with_values values live.0.elements))
    ∙ ap Some (get_or-with_values values live.0.elements at.offset here.0))
    ∙ ap (λ (k : ℕ). let answer : Result (ℤ × ℕ) MemTrap = Ok (get_or values at.offset (pos 0), k) in answer) here.1

-- the value of its place
pub loads_value_set : LoadsValueSet
loads_value_set m at values v n _ answer read =
    let value : get_or values at.offset (pos 0) ≡ v = sym (unwrap_or-slice_get values at.offset (pos 0)) ∙ ap (λ (x : Option ℤ). unwrap_or x (pos 0)) read in
    loads_set m at values n answer ∙ ap (λ (x : ℤ). let answer : Result (ℤ × ℕ) MemTrap = Ok (x, n) in answer) value

-- and 0 beyond the values
pub loads_zero_beyond : LoadsZeroBeyond
loads_zero_beyond m at values n _ answer read =
    let value : get_or values at.offset (pos 0) ≡ pos 0 = sym (unwrap_or-slice_get values at.offset (pos 0)) ∙ ap (λ (x : Option ℤ). unwrap_or x (pos 0)) read in
    loads_set m at values n answer ∙ ap (λ (x : ℤ). let answer : Result (ℤ × ℕ) MemTrap = Ok (x, n) in answer) value
