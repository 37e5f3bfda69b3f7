-- Which object a memory has of a number, after each call.
use Rattle.std.proofs.Common.{ℕ, ◌≡◌, ◌≢◌, ◌+◌, ◌<◌, ◌≤◌, Bool, true, false, cond, List, [], ◌∷◌, ◌++◌, length, take, drop, map, Option, Some, None, Result, Ok, Err, ℤ, refl, arith, sym, ap, subst, inl, inr, ◌∙◌, eqb, ◌⊎◌}
use Rattle.std.specs.Option.{option_map, option_or}
use Rattle.std.specs.List.{find}
use Rattle.std.proofs.lemmas.Bool.Decides.{leb_tells, eqb_tells}
use Rattle.std.proofs.lemmas.List.{take-append-drop}
use Rattle.std.proofs.lemmas.List.Folds.{find-append}
use Rattle.k_mem.specs.declared.fault.MemTrap.{MemTrap}
use Rattle.k_mem.specs.declared.fault.MemTrap.TheVariants.{ReadOnly}
use Rattle.k_mem.specs.declared.start.Start.{Start}
use Rattle.k_mem.specs.Memory.{Object, Memory, object_of, live_elements, Rise}
use Rattle.k_mem.specs.Calls.{where_live, where_within, rewritten, next_object, is_over_limit, push_of}

-- the first of these objects with that number
abbrev pub with_number : List Object → ℕ → Option Object
with_number objects number = find (λ o. eqb o.number number) objects

-- an answer is that of a live object
pub where_live_is : {O A : Type 0} (found : Option O) (answer : O → Result A MemTrap) (a : A) → where_live found answer ≡ Ok a
    → (o : O) × (found ≡ Some o) × (answer o ≡ Ok a)
where_live_is None answer a is = absurd (cc)
where_live_is (Some o) answer a is = (o, refl, is)

-- an answer within an object is at one of its elements
pub within_is : {len offset n k : ℕ} → where_within len offset (Ok n) ≡ Ok k → (offset < len) × (n ≡ k)
within_is {len = len} {offset = offset} answer = elim (leb_tells (offset + 1) len) [ inl below ↦ grind arith | inr past ↦ grind arith ]

-- and so is that of a write
pub write_is : (writable : Bool) (len offset n element : ℕ) → where_within len offset (cond writable (Ok n) (Err ReadOnly)) ≡ Ok element
    → (offset < len) × (n ≡ element)
write_is true len offset n element answer = elim (leb_tells (offset + 1) len) [ inl below ↦ grind arith | inr past ↦ grind arith ]
write_is false len offset n element answer = elim (leb_tells (offset + 1) len) [ inl below ↦ grind arith | inr past ↦ grind arith ]

-- what is found has the number
pub found_number : (objects : List Object) (number : ℕ) (o : Object) → with_number objects number ≡ Some o → o.number ≡ number
found_number [] number o found = absurd (cc)
found_number (x ∷ objects) number o found = elim (eqb_tells x.number number) [
  | inl same ↦
      let here = rw same.0 at found in
      let is : x ≡ o = cc here in
      sym (ap (λ (y : Object). y.number) is) ∙ same.1
  | inr other ↦ found_number objects number o (rw other.0 at found)
]

-- numbers rise to at least the lowest
pub rise_le : (objects : List Object) (low made : ℕ) → Rise low objects made → low ≤ made
rise_le [] low made rise = rise
rise_le (o ∷ objects) low made rise = omega (arith, rise.0, rise_le objects (o.number + 1) made rise.1)

-- what is found among rising numbers is one of them
pub found_risen : (objects : List Object) (low made number : ℕ) (o : Object) → Rise low objects made → with_number objects number ≡ Some o
    → (low ≤ number) × (number < made)
found_risen [] low made number o rise found = absurd (cc)
found_risen (x ∷ objects) low made number o rise found = elim (eqb_tells x.number number) [
  | inl same ↦ (omega (arith, same.1, rise.0), omega (arith, same.1, rise_le objects (x.number + 1) made rise.1))
  | inr other ↦
      let rest = found_risen objects (x.number + 1) made number o rise.1 (rw other.0 at found) in
      (omega (arith, rest.0, rise.0), rest.1)
]

-- what is found is found with more objects behind
pub found_before : (objects more : List Object) (number : ℕ) (o : Object) → with_number objects number ≡ Some o
    → with_number (objects ++ more) number ≡ Some o
found_before objects more number o found =
    find-append (λ (x : Object). eqb x.number number) objects more ∙ ap (λ (x : Option Object). option_or x (with_number more number)) found

-- what is found nowhere is found among more objects only there
pub found_behind : (objects more : List Object) (number : ℕ) → with_number objects number ≡ None
    → with_number (objects ++ more) number ≡ with_number more number
found_behind objects more number none =
    find-append (λ (x : Object). eqb x.number number) objects more ∙ ap (λ (x : Option Object). option_or x (with_number more number)) none

-- what is found among the oldest is found among all
pub found_oldest : (objects : List Object) (keep number : ℕ) (o : Object) → with_number (take keep objects) number ≡ Some o
    → with_number objects number ≡ Some o
found_oldest objects keep number o found =
    subst (λ (all : List Object). with_number all number ≡ Some o) (take-append-drop keep objects)
    (found_before (take keep objects) (drop keep objects) number o found)

-- a rewritten object has its number
pub number_rewritten : (f : List (Option ℤ) → List (Option ℤ)) (to : ℕ) (o : Object) → (rewritten f to o).number ≡ o.number
number_rewritten f to o = elim (eqb o.number to) as (λ b. (let x : Object = cond b (record o { elements = f o.elements }) o in x.number) ≡ o.number)
    [ true ↦ refl | false ↦ refl ]

-- what is found among rewritten objects is what was found, rewritten
pub found_rewritten : (f : List (Option ℤ) → List (Option ℤ)) (to : ℕ) (objects : List Object) (number : ℕ)
    → with_number (map (rewritten f to) objects) number ≡ option_map (rewritten f to) (with_number objects number)
found_rewritten f to [] number = refl
found_rewritten f to (o ∷ objects) number =
    subst (λ (n : ℕ). cond (eqb n number) (Some (rewritten f to o)) (with_number (map (rewritten f to) objects) number)
    ≡ option_map (rewritten f to) (cond (eqb o.number number) (Some o) (with_number objects number))) (sym (number_rewritten f to o))
    (elim (eqb o.number number) as (λ b. cond b (Some (rewritten f to o)) (with_number (map (rewritten f to) objects) number)
    ≡ option_map (rewritten f to) (cond b (Some o) (with_number objects number))) [
      | true ↦ refl
      | false ↦ found_rewritten f to objects number
    ])

-- the object of the number is rewritten
pub rewritten_here : (f : List (Option ℤ) → List (Option ℤ)) (to : ℕ) (o : Object) → o.number ≡ to
    → rewritten f to o ≡ record o { elements = f o.elements }
rewritten_here f to o same = elim (eqb_tells o.number to) [
  | inl here ↦ rw here.0 refl
  | inr other ↦ absurd (other.1 same)
]

-- and no other
pub rewritten_other : (f : List (Option ℤ) → List (Option ℤ)) (to : ℕ) (o : Object) → o.number ≢ to → rewritten f to o ≡ o
rewritten_other f to o other = elim (eqb_tells o.number to) [
  | inl here ↦ absurd (other here.1)
  | inr there ↦ rw there.0 refl
]

-- what a push makes, where it makes something
pub pushed_is : (m m' : Memory) (start : Start) (count : ℕ) → push_of m start count ≡ Some m'
    → (m'.live ≡ m.live ++ next_object m start count ∷ []) × (m'.made ≡ m.made + 1) × (is_over_limit (live_elements m) count m.made ≡ false)
pushed_is m m' start count pushed =
    let next : Memory = record { live = m.live ++ next_object m start count ∷ []; made = m.made + 1 } in
    let is : (b : Bool) → cond b None (Some next) ≡ Some m' → (next ≡ m') × (b ≡ false) =
    λ b. elim b as (λ b. cond b None (Some next) ≡ Some m' → (next ≡ m') × (b ≡ false)) [ true ↦ λ none. absurd (cc) | false ↦ λ some. (cc, refl) ] in
    let same : (next ≡ m') × (is_over_limit (live_elements m) count m.made ≡ false) = is (is_over_limit (live_elements m) count m.made) pushed in
    (sym (ap (λ (n : Memory). n.live) same.0), sym (ap (λ (n : Memory). n.made) same.0), same.1)
