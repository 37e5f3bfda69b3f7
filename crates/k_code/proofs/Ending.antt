-- Runs of valid code: what holds before each step, and that they end.
use Rattle.std.proofs.Common.{◌≡◌, ℕ, zero, suc, ◌+◌, ◌-◌, ◌*◌, ◌<◌, ◌≤◌, inl, inr, List, [], ◌∷◌, ◌++◌, length, Option, Some, None, refl, sym, ◌∙◌, subst, ap, arith}
use Rattle.std.specs.Prelude.{◌⊎◌, slice_get}
use Rattle.std.proofs.lemmas.Bool.{cases_lt}
use Rattle.std.proofs.lemmas.List.{length_push}
use Rattle.std.proofs.lemmas.Option.{none-some}
use Rattle.k_num.specs.declared.initial.Initial.{Initial}
use Rattle.k_num.specs.declared.place.Place.{Place}
use Rattle.k_ending.specs.declared.ending.End.{End}
use Rattle.k_mem.specs.declared.start.Start.TheVariants.{Zero}
use Rattle.k_world.specs.Changes.{object_made, string_made, object_filled}
use Rattle.k_world.specs.Worlds.{World, fresh}
use Rattle.k_code.specs.declared.code.Code.{Code}
use Rattle.k_code.specs.declared.code.CodeFunc.{CodeFunc}
use Rattle.k_code.specs.declared.code.CodeObject.{CodeObject}
use Rattle.k_code.specs.declared.code.CodeObject.TheVariants as object
use Rattle.k_code.specs.declared.balance.Balance.{Balance}
use Rattle.k_code.specs.Balances.{nothing_open}
use Rattle.k_code.specs.Endings.{rest_of, ahead_of, ahead, GoesOn, CyclesMakeOperations, EndsWithin, ValidCodeEnds}
use Rattle.k_code.specs.Stands.{opened_by, Stands, AllStand, StaysBalanced}
use Rattle.k_code.specs.Reads.{LevelsAreRegions}
use Rattle.k_code.specs.Runs.{begun_with, with_object, place_of, or_limit, with_objects, main_called, start, steps, run_of}
use Rattle.k_code.specs.Steps.{Waiting, Configuration, Run, Going, Over, step, entered, size_of}
use Rattle.k_code.specs.Valid.{end_of, body_of, IsValid}
use Rattle.k_code.proofs.Decided.{body_length}
use Rattle.k_code.proofs.Kept.{numbers, OneMore, made_kept, string_kept, filled_numbers, filled_made, live_length, get_within, get_first, get_last}
use Rattle.k_code.proofs.Levels.{levels, enter_levels}
use Rattle.k_code.proofs.Running.{live, total_size, Sound, IsStep, step_sound}
use Rattle.k_code.proofs.Standing.{stands_first, here_at, rest_some}
use Rattle.k_code.proofs.Stepping.{over_stays}

-- so many objects of the program were made, and nothing else has happened
record Begun (budget count : ℕ) (w : World) : Type 0 where
  live : length (numbers w) ≡ count
  made : w.memory.made ≡ count
  each : (k : ℕ) → k < count → slice_get (numbers w) k ≡ Some k
  size : w.size ≡ 0
  left : w.left ≡ budget
  events : w.events ≡ []

more_begun : (budget count : ℕ) (w after : World) → Begun budget count w → OneMore w after → Begun budget (count + 1) after
more_begun budget count w after b more =
    let long : length (numbers w) ≡ count = b.live in
    let made : w.memory.made ≡ count = b.made in
    let made_after : after.memory.made ≡ w.memory.made + 1 = more.made in
    let longer : length (numbers after) ≡ length (numbers w) + 1 = ap length more.numbers ∙ length_push (numbers w) w.memory.made in
    record {
      live = omega (arith, long, longer);
      made = omega (arith, made, made_after);
      each = λ k h. ap (λ l. slice_get l k) more.numbers ∙ at k h (cases_lt k count);
      size = more.size ∙ b.size;
      left = more.left ∙ b.left;
      events = more.events ∙ b.events;
    }
  where
    at : (k : ℕ) → k < count + 1 → (k < count) ⊎ (count ≤ k) → slice_get (numbers w ++ w.memory.made ∷ []) k ≡ Some k
    at k h (inl low) =
        let long : length (numbers w) ≡ count = b.live in
        get_first (numbers w) (w.memory.made ∷ []) k (omega (arith, long, low)) ∙ b.each k low
    at k h (inr high) =
        let long : length (numbers w) ≡ count = b.live in
        let made : w.memory.made ≡ count = b.made in
        let same : k ≡ count = omega (arith, h, high) in
        let last : k ≡ length (numbers w) = omega (arith, same, long) in
        get_last (numbers w) w.memory.made k last ∙ ap (λ n. Some n) (made ∙ sym same)

filled_begun : (budget count : ℕ) (w : World) (n : ℕ) (values : List Initial) → Begun budget count w → Begun budget count (object_filled w n values)
filled_begun budget count w n values b =
    let same : numbers (object_filled w n values) ≡ numbers w = filled_numbers w.memory n values in
    record {
      live = ap length same ∙ b.live;
      made = filled_made w.memory n values ∙ b.made;
      each = λ k h. ap (λ l. slice_get l k) same ∙ b.each k h;
      size = b.size;
      left = b.left;
      events = b.events;
    }

-- an object that is made, and begun
abbrev IfBegun : ℕ → ℕ → Option World → Type 0
IfBegun budget count None = Unit {0}
IfBegun budget count (Some w) = Begun budget count w

plain_begun : (budget count : ℕ) (w : World) (first : List Initial) (number : ℕ) → Begun budget count w → (elements : ℕ) (o : Option World) → object_made w Zero elements ≡ o
    → IfBegun budget (count + 1) (begun_with first number o)
plain_begun budget count w first number b elements None e = tt
plain_begun budget count w first number b elements (Some after) e =
    filled_begun budget (count + 1) after number first (more_begun budget count w after b (made_kept w after Zero elements e))

literal_begun : (budget count : ℕ) (w : World) (bytes : List ℕ) → Begun budget count w → (o : Option World) → string_made w bytes ≡ o → IfBegun budget (count + 1) o
literal_begun budget count w bytes b None e = tt
literal_begun budget count w bytes b (Some after) e = more_begun budget count w after b (string_kept w after bytes e)

object_begun : (budget count : ℕ) (o : CodeObject) (w : World) → Begun budget count w → IfBegun budget (count + 1) (with_object o w)
unfolding with_object
object_begun budget count (object.Plain elements first place) w b = plain_begun budget count w first w.memory.made b elements (object_made w Zero elements) refl
object_begun budget count (object.Literal bytes place) w b = literal_begun budget count w bytes b (string_made w bytes) refl

module _ (code : Code) (valid : IsValid code) where
  -- a run that goes on is sound, with so many operations left
  abbrev IsSoundRun : Run → Type 0
  IsSoundRun (Going c) = Sound code valid c
  IsSoundRun (Over end w) = Unit {0}

  -- how much lies ahead of a run
  abbrev measure : Configuration → ℕ
  measure c = c.world.left * 536870912 + ahead code c

  abbrev IsBelow : ℕ → Run → Type 0
  IsBelow bound (Going c) = measure c ≤ bound
  IsBelow bound (Over end w) = Unit {0}

  limit_begun : (P : Run → Type 0) (place : Place) (w : World) (on : World → Run) (budget count : ℕ) (o : Option World) → IfBegun budget count o
      → ((end : End) (v : World) → P (Over end v)) → ((v : World) → Begun budget count v → P (on v)) → P (or_limit place w on o)
  limit_begun P place w on budget count None b over each = over _ w
  limit_begun P place w on budget count (Some v) b over each = each v b

  objects_begun : (P : Run → Type 0) (on : World → Run) (budget : ℕ) (objects : List CodeObject) (count : ℕ) (w : World) → Begun budget count w
      → ((end : End) (v : World) → P (Over end v)) → ((v : World) → Begun budget (count + length objects) v → P (on v)) → P (with_objects objects on w)
  objects_begun P on budget [] count w b over each = each w (subst (λ n. Begun budget n w) (let e : count ≡ count + 0 = omega arith in e) b)
  objects_begun P on budget (o ∷ objects) count w b over each =
      limit_begun P (place_of o) w (with_objects objects on) budget (count + 1) (with_object o w) (object_begun budget count o w b) over
      (λ v c. objects_begun P on budget objects (count + 1) v c over (λ x d. each x (subst (λ n. Begun budget n x) (let e : count + 1 + length objects ≡ count + suc (length objects) = omega arith in e) d)))

  start_begun : (P : Run → Type 0) (input : List ℕ) (budget : ℕ) → ((end : End) (v : World) → P (Over end v))
      → ((f : CodeFunc) → slice_get code.funcs code.main ≡ Some f → (v : World) → Begun budget (length code.objects) v → P (entered f code.main [] [] v))
      → P (start code input budget)
  unfolding start
  start_begun P input budget over each =
      objects_begun P (main_called code (slice_get code.funcs code.main)) budget code.objects 0 (fresh budget input) first over
      (λ v b. main (slice_get code.funcs code.main) refl v (subst (λ n. Begun budget n v) (let e : 0 + length code.objects ≡ length code.objects = omega arith in e) b))
    where
      first : Begun budget 0 (fresh budget input)
      first = record { live = refl; made = refl; each = λ k h. absurd (omega arith); size = refl; left = refl; events = refl }

      main : (o : Option CodeFunc) → slice_get code.funcs code.main ≡ o → (v : World) → Begun budget (length code.objects) v → P (main_called code o v)
      main None e v b = let g = get_within code.funcs code.main valid.main in absurd (none-some g.0 (sym e ∙ g.1))
      main (Some f) e v b = each f e v b

  entered_sound : (f : CodeFunc) → slice_get code.funcs code.main ≡ Some f → (budget : ℕ) (v : World) → Begun budget (length code.objects) v
      → IsSoundRun (entered f code.main [] [] v)
  entered_sound f is budget v b =
      let none : live v - live v ≡ 0 = omega arith in
      let empty : nothing_open ≡ record { saved = 0; objects = live v - live v; regions = 0 } = λ i. record { saved = 0; objects = sym none i; regions = 0 } in
      let own : size_of (slice_get code.funcs code.main) ≡ f.size = ap size_of is in
      let zero_size : v.size ≡ 0 = b.size in
      let small : f.size ≤ 1048576 = (valid.funcs code.main f is).greatest_size in
      record {
        stands = subst (λ x. Stands code valid code.main f.entry x) empty (stands_first code valid code.main f is);
        base = omega arith;
        waiting = live_length v ∙ b.live;
        files = b.each;
        size = omega (arith, own, zero_size);
        fits = omega (arith, zero_size, small);
        levels = (let one = enter_levels v.events f.region in let none : levels v.events ≡ 0 = ap levels b.events in omega (arith, one, none));
      }

  start_sound : (input : List ℕ) (budget : ℕ) → IsSoundRun (start code input budget)
  start_sound input budget = start_begun IsSoundRun input budget (λ end v. tt) (λ f is v b. entered_sound f is budget v b)

  step_stays : (r : Run) → IsSoundRun r → IsSoundRun (step code r)
  step_stays (Going c) s = by (step code (Going c)) (step_sound code valid c s)
    where
      by : (r : Run) → IsStep code valid c r → IsSoundRun r
      by (Going d) h = h.0
      by (Over end w) h = tt
  step_stays (Over end w) s = subst IsSoundRun (sym (over_stays code end w)) tt

  steps_stay : (n : ℕ) (r : Run) → IsSoundRun r → IsSoundRun (steps code n r)
  steps_stay zero r s = s
  steps_stay (suc n) r s = step_stays (steps code n r) (steps_stay n r s)

  pub run_sound : (input : List ℕ) (budget n : ℕ) (c : Configuration) → run_of code input budget n ≡ Going c → Sound code valid c
  run_sound input budget n c is = subst IsSoundRun is (steps_stay n (start code input budget) (start_sound input budget))

  -- what lies ahead is bounded by the sizes of the live calls
  rest_bounded : (number pc : ℕ) (opened : Balance) → Stands code valid number pc opened → rest_of code (slice_get code.funcs number) pc ≤ 512 * size_of (slice_get code.funcs number)
  rest_bounded number pc opened s =
      let v = valid.funcs number s.func s.is in
      let one : rest_of code (slice_get code.funcs number) pc ≡ end_of code.funcs (length code.instrs) s.func.entry - pc = ap (λ f. rest_of code f pc) s.is in
      let two : size_of (slice_get code.funcs number) ≡ s.func.size = ap size_of s.is in
      let long = body_length code s.func.entry v.entry in
      let short : length (body_of code s.func.entry) ≤ 512 * s.func.size = v.short in
      let at : pc ≡ s.func.entry + s.place = s.here in
      omega (arith, one, two, long, short, at)

  waiting_bounded : (waiting : List Waiting) (base : ℕ) → AllStand code valid waiting base → ahead_of code waiting ≤ 512 * total_size code waiting
  waiting_bounded [] base h = omega arith
  waiting_bounded (w ∷ waiting) base h =
      let one = rest_bounded w.frame.func w.back (opened_by w.frame base) h.0 in
      let two = waiting_bounded waiting w.frame.base h.2 in
      omega (arith, one, two)

  pub ahead_bounded : (c : Configuration) → Sound code valid c → ahead code c ≤ 536870912
  ahead_bounded c s =
      let one = rest_bounded c.frame.func c.pc (opened_by c.frame (live c.world)) s.stands in
      let two = waiting_bounded c.waiting c.frame.base s.waiting in
      let total : c.world.size ≡ size_of (slice_get code.funcs c.frame.func) + total_size code c.waiting = s.size in
      let fits : c.world.size ≤ 1048576 = s.fits in
      omega (arith, one, two, total, fits)

  -- each step lowers the measure
  measure_falls : (c d : Configuration) → Sound code valid c → Sound code valid d → GoesOn code c d → measure d < measure c
  measure_falls c d s t g =
      elim g [
        | inl fewer ↦ let bound = ahead_bounded d t in
            let some : 0 < ahead code c = ahead_some c s in
            omega (arith, fewer, bound, some)
        | inr less ↦ omega (arith, less.0, less.1)
      ]
    where
      ahead_some : (c : Configuration) → Sound code valid c → 0 < ahead code c
      ahead_some c s =
          let h = here_at code valid c.frame.func c.pc (opened_by c.frame (live c.world)) s.stands in
          let r = rest_some code valid c.frame.func c.pc (opened_by c.frame (live c.world)) h in
          omega (arith, r)

  step_falls : (bound : ℕ) (r : Run) → IsSoundRun r → IsBelow (suc bound) r → IsBelow bound (step code r)
  step_falls bound (Going c) s low = by (step code (Going c)) (step_sound code valid c s)
    where
      by : (r : Run) → IsStep code valid c r → IsBelow bound r
      by (Going d) h = let falls = measure_falls c d s h.0 h.1 in let l : measure c ≤ suc bound = low in let r : measure d ≤ bound = omega (arith, falls, l) in r
      by (Over end w) h = tt
  step_falls bound (Over end w) s low = subst (IsBelow bound) (sym (over_stays code end w)) tt

  steps_fall : (n bound : ℕ) (r : Run) → IsSoundRun r → IsBelow (n + bound) r → IsBelow bound (steps code n r)
  steps_fall zero bound r s low = subst (λ b. IsBelow b r) (let e : zero + bound ≡ bound = omega arith in e) low
  steps_fall (suc n) bound r s low =
      step_falls bound (steps code n r) (steps_stay n r s) (steps_fall n (suc bound) r s (subst (λ b. IsBelow b r) (let e : suc n + bound ≡ n + suc bound = omega arith in e) low))

  abbrev HasLeft : ℕ → Run → Type 0
  HasLeft budget (Going c) = c.world.left ≡ budget
  HasLeft budget (Over end w) = Unit {0}

  left_low : (budget : ℕ) (r : Run) → IsSoundRun r → HasLeft budget r → IsBelow ((budget + 1) * 536870912) r
  left_low budget (Going c) s is =
      let bound = ahead_bounded c s in
      let left : c.world.left ≡ budget = is in
      let low : measure c ≤ (budget + 1) * 536870912 = omega (arith, bound, left) in
      low
  left_low budget (Over end w) s is = tt

  start_low : (input : List ℕ) (budget : ℕ) → IsBelow ((budget + 1) * 536870912) (start code input budget)
  start_low input budget = start_begun (IsBelow ((budget + 1) * 536870912)) input budget (λ end v. tt)
      (λ f is v b. left_low budget (entered f code.main [] [] v) (entered_sound f is budget v b) b.left)

  -- a run whose measure is 0 has ended
  none_ahead : (r : Run) → IsSoundRun r → IsBelow 0 r → (end : End) × ((w : World) × (r ≡ Over end w))
  none_ahead (Going c) s low =
      let h = here_at code valid c.frame.func c.pc (opened_by c.frame (live c.world)) s.stands in
      let r = rest_some code valid c.frame.func c.pc (opened_by c.frame (live c.world)) h in
      let l : measure c ≤ 0 = low in
      absurd (omega (arith, r, l))
  none_ahead (Over end w) s low = (end, (w, refl))

  pub ends : (input : List ℕ) (budget : ℕ) → EndsWithin code input budget ((budget + 1) * 536870912 + 1)
  ends input budget =
      let n : ℕ = (budget + 1) * 536870912 in
      let low = steps_fall n 0 (start code input budget) (start_sound input budget) (subst (λ b. IsBelow b (start code input budget)) (let e : (budget + 1) * 536870912 ≡ n + 0 = omega arith in e) (start_low input budget)) in
      let r = none_ahead (run_of code input budget n) (steps_stay n (start code input budget) (start_sound input budget)) low in
      record { count = n; few = omega arith; end = r.0; world = r.1.0; is = r.1.1 }

not_going : (end : End) (w : World) (c : Configuration) → Over end w ≡ Going c → ⊥
not_going end w c e = cc

same_going : (c d : Configuration) → Going c ≡ Going d → c ≡ d
same_going c d e = cc

pub stays_balanced : StaysBalanced
stays_balanced code valid input budget n c is =
    let s = run_sound code valid input budget n c is in
    (s.stands, s.base, s.waiting)

pub levels_are_regions : LevelsAreRegions
levels_are_regions code valid input budget n c is = (run_sound code valid input budget n c is).levels

pub cycles_make_operations : CyclesMakeOperations
cycles_make_operations code valid input budget n before after is =
    let s = run_sound code valid input budget n before is in
    (ahead_bounded code valid before s, λ next. by (step code (Going before)) (step_sound code valid before s) (sym (ap (step code) is) ∙ later next))
  where
    later : run_of code input budget (n + 1) ≡ Going after → step code (run_of code input budget n) ≡ Going after
    later next = subst (λ m. run_of code input budget m ≡ Going after) (let e : n + 1 ≡ suc n = omega arith in e) next

    by : (r : Run) → IsStep code valid before r → r ≡ Going after → GoesOn code before after
    by (Going d) h e = subst (λ x. GoesOn code before x) (same_going d after e) h.1
    by (Over end w) h e = absurd (not_going end w after e)

pub valid_code_ends : ValidCodeEnds
valid_code_ends code valid input budget low =
    let e = ends code valid input budget in
    record { count = e.count; few = (let f : e.count < (budget + 1) * 536870912 + 1 = e.few in omega (arith, f, low)); end = e.end; world = e.world; is = e.is }
