-- What operations and objects leave of a world: the numbers of its live objects, its calls and what is left.
use Rattle.std.proofs.Common.{◌≡◌, ℕ, zero, suc, ◌+◌, ◌-◌, ◌<◌, List, [], ◌∷◌, ◌++◌, length, map, take, drop, replicate, Option, Some, None, Result, Ok, Err, Bool, true, false, ℤ, nat_eq, refl, sym, ◌∙◌, subst, ap, arith}
use Rattle.std.specs.Prelude.{if◌then◌else◌, slice_get, ◌==◌}
use Rattle.std.specs.List.{fold}
use Rattle.std.proofs.lemmas.Bool.{eqb-false}
use Rattle.std.proofs.lemmas.List.{map-append, take-map, length-map}
use Rattle.std.proofs.lemmas.Option.{none-some, same_Some}
use Rattle.k_num.specs.declared.initial.Initial.{Initial}
use Rattle.k_num.specs.declared.place.Place.{Place}
use Rattle.k_optab.specs.declared.class.Class.{Class}
use Rattle.k_ending.specs.declared.ending.Trap.{Trap}
use Rattle.k_mem.specs.declared.pointer.Pointer.{Pointer}
use Rattle.k_mem.specs.declared.start.Start.{Start}
use Rattle.k_mem.specs.Memory.{Object, Memory, live_elements}
use Rattle.k_mem.specs.Calls.{rewritten, with_value, with_values, stored, filled, next_object, is_over_limit}
use Rattle.k_world.specs.declared.act.Act.{Act}
use Rattle.k_world.specs.declared.act.Act.TheVariants as does
use Rattle.k_world.specs.declared.value.Read.{Read}
use Rattle.k_world.specs.declared.value.Value.{Value}
use Rattle.k_world.specs.Acts.{hidden, effect, store_effect, output_effect, written, pointer_and_number}
use Rattle.k_world.specs.Changes.{with_elements, object_made, string_object, string_made, item_stored, memory_filled, objects_kept}
use Rattle.k_world.specs.Operands.{sources, values_of}
use Rattle.k_world.specs.Operations.{operation, counted}
use Rattle.k_world.specs.WorldLaws.{WhereMade}
use Rattle.k_world.specs.Worlds.{World}
use Rattle.k_world.proofs.Effects.{effect_frame}
use Rattle.k_world.proofs.Sound.{operation_cases}
use Rattle.k_code.proofs.Levels.{levels, operation_levels}

-- the numbers of the objects of a memory
abbrev pub numbers_in : Memory → List ℕ
numbers_in m = map (λ (o : Object). o.number) m.live

-- the numbers of the live objects
abbrev pub numbers : World → List ℕ
numbers w = numbers_in w.memory

rewritten_number : (f : List (Option ℤ) → List (Option ℤ)) (n : ℕ) (o : Object) → (rewritten f n o).number ≡ o.number
rewritten_number f n o = by (o.number == n)
  where
    by : (b : Bool) → (if b then record o { elements = f o.elements } else o).number ≡ o.number
    by true = refl
    by false = refl

rewritten_numbers : (f : List (Option ℤ) → List (Option ℤ)) (n : ℕ) (objects : List Object)
    → map (λ (o : Object). o.number) (map (rewritten f n) objects) ≡ map (λ (o : Object). o.number) objects
rewritten_numbers f n [] = refl
rewritten_numbers f n (o ∷ objects) = λ i. rewritten_number f n o i ∷ rewritten_numbers f n objects i

stored_numbers : (m : Memory) (p : Pointer) (v : ℤ) → numbers_in (stored m p v) ≡ numbers_in m
stored_numbers m p v = rewritten_numbers (with_value p.offset v) p.object m.live

items_numbers : (n : ℕ) (items : List Initial) (m : Memory) → numbers_in (fold (item_stored n) m items) ≡ numbers_in m
items_numbers n [] m = refl
items_numbers n (i ∷ items) m =
    items_numbers n items (item_stored n m i) ∙ stored_numbers m (record { object = n; offset = i.element }) i.number

pub filled_numbers : (m : Memory) (n : ℕ) (items : List Initial) → numbers_in (memory_filled m n items) ≡ numbers_in m
filled_numbers m n items = items_numbers n items (filled m n []) ∙ rewritten_numbers (with_values []) n m.live

items_made : (n : ℕ) (items : List Initial) (m : Memory) → (fold (item_stored n) m items).made ≡ m.made
items_made n [] m = refl
items_made n (i ∷ items) m = items_made n items (item_stored n m i)

pub filled_made : (m : Memory) (n : ℕ) (items : List Initial) → (memory_filled m n items).made ≡ m.made
filled_made m n items = items_made n items (filled m n [])

store_numbers : (number : ℕ) (s : Option (Pointer × ℤ)) (w : World) → numbers (store_effect number s w) ≡ numbers w
store_numbers number None w = refl
store_numbers number (Some s) w = stored_numbers w.memory s.0 s.1

output_numbers : (number : ℕ) (bytes : Result (List ℕ) Trap) (w : World) → numbers (output_effect number bytes w) ≡ numbers w
output_numbers number (Ok bytes) w = refl
output_numbers number (Err t) w = refl

effect_numbers : (what : Act) (number : ℕ) (values : List Value) (w : World) → numbers (effect what number values w) ≡ numbers w
unfolding effect
effect_numbers (does.Binary op kind) number values w = refl
effect_numbers (does.Unary op kind) number values w = refl
effect_numbers (does.Convert kind) number values w = refl
effect_numbers does.Move number values w = refl
effect_numbers (does.Offset minus scale) number values w = refl
effect_numbers (does.PtrCompare op) number values w = refl
effect_numbers (does.PtrDistance scale) number values w = refl
effect_numbers does.Load number values w = refl
effect_numbers does.Store number values w = store_numbers number (pointer_and_number values) w
effect_numbers does.Input number values w = refl
effect_numbers (does.Output what) number values w = output_numbers number (written what values) w
effect_numbers does.Test number values w = refl
effect_numbers does.Call number values w = refl

-- One world has the live objects and the calls of another.
pub record HasSame (before after : World) : Type 0 where
  pub numbers : numbers after ≡ numbers before
  pub size : after.size ≡ before.size
  pub calls : after.calls ≡ before.calls

-- and an operation fewer is left
pub record OneFewer (before after : World) : Type 0 where
  pub same : HasSame before after
  pub left : after.left + 1 ≡ before.left
  pub levels : levels after.events ≡ levels before.events

-- an operation that is made
pub operation_kept : (class : Class) (latency : ℕ) (place : Place) (what : Act) (reads : List Read) (w : World) → WhereMade OneFewer w (operation class latency place what reads w)
operation_kept class latency place what reads w =
    operation_cases (WhereMade OneFewer w) class latency place what reads w (λ end early. tt) (λ some v. kept some)
  where
    kept : nat_eq w.left 0 ≡ false → OneFewer w (effect what w.made (values_of reads) (counted class latency place what reads w))
    kept some =
        let frame = effect_frame what w.made (values_of reads) (counted class latency place what reads w) in
        let h : w.left ≡ 0 → ⊥ = eqb-false w.left 0 some in
        let fewer : (effect what w.made (values_of reads) (counted class latency place what reads w)).left ≡ w.left - 1 = ap (λ (x : World). x.left) frame in
        record {
          same = record {
            numbers = effect_numbers what w.made (values_of reads) (counted class latency place what reads w);
            size = ap (λ (x : World). x.size) frame;
            calls = ap (λ (x : World). x.calls) frame;
          };
          left = omega (arith, h, fewer);
          levels = ap (λ (x : World). levels x.events) frame ∙ operation_levels w.events class latency (sources reads (hidden what (values_of reads) w) w.control) place;
        }

-- One world has an object more than another.
pub record OneMore (before after : World) : Type 0 where
  pub numbers : numbers after ≡ numbers before ++ before.memory.made ∷ []
  pub made : after.memory.made ≡ before.memory.made + 1
  pub size : after.size ≡ before.size
  pub calls : after.calls ≡ before.calls
  pub left : after.left ≡ before.left
  pub events : after.events ≡ before.events

-- an object with the next number is made, where there is room for it
more_kept : (w after : World) (o : Object) (count : ℕ) → o.number ≡ w.memory.made → (full : Bool)
    → with_elements count w (if full then None else Some (record { live = w.memory.live ++ o ∷ []; made = w.memory.made + 1 })) ≡ Some after → OneMore w after
more_kept w after o count next true e = absurd (none-some after e)
more_kept w after o count next false e =
    let new : World = record w {
      memory = record { live = w.memory.live ++ o ∷ []; made = w.memory.made + 1 };
      origins = w.origins ++ replicate count None;
    } in
    let same : new ≡ after = same_Some new after e in
    subst (λ v. OneMore w v) same (record {
      numbers = map-append (λ (o : Object). o.number) w.memory.live (o ∷ []) ∙ ap (λ n. numbers w ++ n ∷ []) next;
      made = refl;
      size = refl;
      calls = refl;
      left = refl;
      events = refl;
    })

-- an object that is made
pub made_kept : (w after : World) (start : Start) (count : ℕ) → object_made w start count ≡ Some after → OneMore w after
made_kept w after start count e =
    more_kept w after (next_object w.memory start count) count refl (is_over_limit (live_elements w.memory) count w.memory.made) e

-- so is a string's
pub string_kept : (w after : World) (bytes : List ℕ) → string_made w bytes ≡ Some after → OneMore w after
string_kept w after bytes e =
    more_kept w after (string_object w.memory bytes) (length bytes) refl (is_over_limit (live_elements w.memory) (length bytes) w.memory.made) e

-- the numbers of the objects that are kept
pub kept_numbers : (w : World) (keep : ℕ) → numbers (objects_kept w keep) ≡ take keep (numbers w)
kept_numbers w keep = sym (take-map (λ (o : Object). o.number) keep w.memory.live)

-- as many objects as numbers
pub live_length : (w : World) → length w.memory.live ≡ length (numbers w)
live_length w = sym (length-map w.memory.live (λ (o : Object). o.number))

-- the element of a list that is there
pub get_within : {X : Type 0} (xs : List X) (k : ℕ) → k < length xs → (x : X) × (slice_get xs k ≡ Some x)
get_within [] k low = absurd (omega arith)
get_within (x ∷ xs) zero low = (x, refl)
get_within (x ∷ xs) (suc k) low = get_within xs k (omega arith)

pub get_take : {X : Type 0} (n : ℕ) (xs : List X) (k : ℕ) → k < n → slice_get (take n xs) k ≡ slice_get xs k
get_take zero xs k low = absurd (omega arith)
get_take (suc n) [] k low = refl
get_take (suc n) (x ∷ xs) zero low = refl
get_take (suc n) (x ∷ xs) (suc k) low = get_take n xs k (omega arith)

pub get_drop : {X : Type 0} (n : ℕ) (xs : List X) (k : ℕ) → slice_get (drop n xs) k ≡ slice_get xs (n + k)
get_drop zero xs k = ap (λ m. slice_get xs m) (let e : k ≡ 0 + k = omega arith in e)
get_drop (suc n) [] k = refl
get_drop (suc n) (x ∷ xs) k = get_drop n xs k ∙ ap (λ m. slice_get (x ∷ xs) m) (let e : suc (n + k) ≡ suc n + k = omega arith in e)

pub get_first : {X : Type 0} (xs ys : List X) (k : ℕ) → k < length xs → slice_get (xs ++ ys) k ≡ slice_get xs k
get_first [] ys k low = absurd (omega arith)
get_first (x ∷ xs) ys zero low = refl
get_first (x ∷ xs) ys (suc k) low = get_first xs ys k (omega arith)

pub get_last : {X : Type 0} (xs : List X) (x : X) (k : ℕ) → k ≡ length xs → slice_get (xs ++ x ∷ []) k ≡ Some x
get_last [] x zero e = refl
get_last [] x (suc k) e = absurd (omega arith)
get_last (y ∷ xs) x zero e = absurd (omega arith)
get_last (y ∷ xs) x (suc k) e = get_last xs x k (omega arith)
