-- Each function and each loop has the region of its number.
use Rattle.std.proofs.Common.{◌≡◌, ℕ, zero, suc, ◌+◌, ◌*◌, ◌≤◌, ◌<◌, List, [], ◌∷◌, ◌++◌, map, length, slice_get, Some, refl, sym, ◌∙◌, subst, ap, arith}
use Rattle.std.proofs.lemmas.List.{length-append, length-map}
use Rattle.std.proofs.lemmas.Option.{none-some, same_Some}
use Rattle.k_optab.specs.declared.region.Region.{Region}
use Rattle.k_types_meaning.specs.declared.tree.unit.TFunc.{TFunc}
use Rattle.k_types_meaning.specs.declared.tree.unit.TUnit.{TUnit}
use Rattle.k_types_meaning.specs.Numbered.{IsNumbered, LoopsBefore, function_numbers, functions_numbers, numbers_from}
use Rattle.k_evaluation.specs.Calls.{function_region}
use Rattle.k_evaluation.specs.Loops.{loop_region}
use Rattle.k_regions.specs.declared.loops.LoopAt.{LoopAt}
use Rattle.k_regions.specs.Laws.{AreItsRegions, RegionsHaveTheirNumbers, ThereAreNoOthers}
use Rattle.k_regions.specs.Regions.{body_itself, function_itself, loop_itself, loops_of, regions_in, regions_of, regions_of_loops}
use Rattle.k_regions.proofs.Listed.{function_listed, number_of}

-- LISTS
pub at_front : {A : Type 0} (xs ys : List A) (k : ℕ) (x : A) → slice_get xs k ≡ Some x → slice_get (xs ++ ys) k ≡ Some x
at_front [] ys k x h = absurd (none-some x h)
at_front (z ∷ xs) ys zero x h = h
at_front (z ∷ xs) ys (suc k) x h = at_front xs ys k x h

behind : {A : Type 0} (xs ys : List A) (k : ℕ) → slice_get (xs ++ ys) (length xs + k) ≡ slice_get ys k
behind [] ys k = ap (slice_get ys) (let e : 0 + k ≡ k = omega arith in e)
behind (x ∷ xs) ys k = ap (slice_get (x ∷ (xs ++ ys))) (let e : length (x ∷ xs) + k ≡ suc (length xs + k) = omega arith in e) ∙ behind xs ys k

pub below_length : {A : Type 0} (xs : List A) (k : ℕ) (x : A) → slice_get xs k ≡ Some x → k < length xs
below_length [] k x h = absurd (none-some x h)
below_length (z ∷ xs) zero x h = omega arith
below_length (z ∷ xs) (suc k) x h = let low : k < length xs = below_length xs k x h in omega (arith, low)

mapped : {A B : Type 0} (f : A → B) (xs : List A) (k : ℕ) (x : A) → slice_get xs k ≡ Some x → slice_get (map f xs) k ≡ Some (f x)
mapped f [] k x h = absurd (none-some x h)
mapped f (z ∷ xs) zero x h = ap (λ y. Some (f y)) (same_Some z x h)
mapped f (z ∷ xs) (suc k) x h = mapped f xs k x h

-- these numbers count up from this one
abbrev Counts : ℕ → List ℕ → Type 0
Counts c xs = (k v : ℕ) → slice_get xs k ≡ Some v → v ≡ c + k

counted : (c n : ℕ) → Counts c (numbers_from c n)
counted c zero k v h = absurd (none-some v h)
counted c (suc n) zero v h = let e : c ≡ v = same_Some c v h in omega (arith, e)
counted c (suc n) (suc k) v h = let e : v ≡ suc c + k = counted (suc c) n k v h in omega (arith, e)

counts_first : (c : ℕ) (xs ys : List ℕ) → Counts c (xs ++ ys) → Counts c xs
counts_first c xs ys h k v is = h k v (at_front xs ys k v is)

counts_second : (c : ℕ) (xs ys : List ℕ) → Counts c (xs ++ ys) → Counts (c + length xs) ys
counts_second c xs ys h k v is = let e : v ≡ c + (length xs + k) = h (length xs + k) v (behind xs ys k ∙ is) in omega (arith, e)

-- THE REGIONS OF LOOPS
pub loops_length : (name : List ℕ) (loops : List LoopAt) → length (regions_of_loops name loops) ≡ 2 * length loops
loops_length name [] = refl
loops_length name (l ∷ loops) = let e : length (regions_of_loops name loops) ≡ 2 * length loops = loops_length name loops in omega (arith, e)

-- the loop of this number among them, and its body
record StandsAt (regions : List Region) (p : ℕ) (name : List ℕ) (l : LoopAt) : Type 0 where
  itself : slice_get regions p ≡ Some (loop_itself name l)
  body : slice_get regions (suc p) ≡ Some (body_itself name l)

loop_at : (name : List ℕ) (loops : List LoopAt) (k : ℕ) (l : LoopAt) (p : ℕ) → slice_get loops k ≡ Some l → p ≡ 2 * k → StandsAt (regions_of_loops name loops) p name l
loop_at name [] k l p h is = absurd (none-some l h)
loop_at name (x ∷ loops) zero l p h is =
    let same : x ≡ l = same_Some x l h in
    subst (λ (q : ℕ). StandsAt (regions_of_loops name (x ∷ loops)) q name l) (let e : 0 ≡ p = omega (arith, is) in e)
    (record { itself = ap (λ (y : LoopAt). Some (loop_itself name y)) same; body = ap (λ (y : LoopAt). Some (body_itself name y)) same })
loop_at name (x ∷ loops) (suc k) l zero h is = absurd (omega (arith, is))
loop_at name (x ∷ loops) (suc k) l (suc zero) h is = absurd (omega (arith, is))
loop_at name (x ∷ loops) (suc k) l (suc (suc p)) h is =
    let rest = loop_at name loops k l p h (let e : p ≡ 2 * k = omega (arith, is) in e) in record { itself = rest.itself; body = rest.body }

-- THE REGIONS OF FUNCTIONS, where so many loops and functions come before these
record Placed (regions : List Region) (c n : ℕ) (f : TFunc) : Type 0 where
  between : ℕ
  before : f.loops ≡ c + between
  itself : slice_get regions (n + 2 * between) ≡ Some (function_itself f)
  loops : (k : ℕ) (l : LoopAt) → slice_get (loops_of f) k ≡ Some l → (l.number ≡ f.loops + k) × StandsAt regions (n + 1 + 2 * (between + k)) f.name l

listed_length : (f : TFunc) → length (loops_of f) ≡ length (function_numbers f).loops
listed_length f = sym (length-map (loops_of f) number_of) ∙ ap length (function_listed f)

-- the first function
module _ (f : TFunc) (fs : List TFunc) where
  abbrev own : List Region
  own = regions_of_loops f.name (loops_of f)

  abbrev rest : List Region
  rest = regions_in fs

  stands_first : (p : ℕ) (l : LoopAt) → StandsAt own p f.name l → StandsAt (own ++ rest) p f.name l
  stands_first p l h = record {
    itself = at_front own rest p (loop_itself f.name l) h.itself;
    body = at_front own rest (suc p) (body_itself f.name l) h.body;
  }

  first_loop : (c : ℕ) → f.loops ≡ c → Counts c (function_numbers f).loops → (k : ℕ) (l : LoopAt) → slice_get (loops_of f) k ≡ Some l
      → (l.number ≡ f.loops + k) × StandsAt (regions_in (f ∷ fs)) (0 + 1 + 2 * (0 + k)) f.name l
  first_loop c here counts k l is =
      let at : slice_get (function_numbers f).loops k ≡ Some l.number = subst (λ (ns : List ℕ). slice_get ns k ≡ Some l.number) (function_listed f) (mapped number_of (loops_of f) k l is) in
      let number : l.number ≡ c + k = counts k l.number at in
      let stands : StandsAt (own ++ rest) (2 * k) f.name l = stands_first (2 * k) l (loop_at f.name (loops_of f) k l (2 * k) is refl) in (
        omega (arith, number, here),
        subst (λ (p : ℕ). StandsAt (regions_in (f ∷ fs)) p f.name l) (let e : suc (2 * k) ≡ 0 + 1 + 2 * (0 + k) = omega arith in e)
            (record { itself = stands.itself; body = stands.body }),
      )

  first_placed : (c : ℕ) → f.loops ≡ c → Counts c (function_numbers f).loops → Placed (regions_in (f ∷ fs)) c 0 f
  first_placed c here counts = record {
    between = 0;
    before = omega (arith, here);
    itself = refl;
    loops = first_loop c here counts;
  }

  -- what stands behind the regions of the first function
  later : (p q : ℕ) → p ≡ suc (2 * length (function_numbers f).loops + q) → slice_get (regions_in (f ∷ fs)) p ≡ slice_get rest q
  later p q is =
      let many : length own ≡ 2 * length (function_numbers f).loops = loops_length f.name (loops_of f) ∙ ap (λ (n : ℕ). 2 * n) (listed_length f) in
      let place : p ≡ suc (length own + q) = omega (arith, many, is) in
      ap (slice_get (regions_in (f ∷ fs))) place ∙ behind own rest q

  later_placed : (c n : ℕ) (g : TFunc) → Placed rest (c + length (function_numbers f).loops) n g → Placed (regions_in (f ∷ fs)) c (suc n) g
  later_placed c n g h =
      let m : ℕ = length (function_numbers f).loops in
      let there : g.loops ≡ c + m + h.between = h.before in record {
        between = m + h.between;
        before = omega (arith, there);
        itself = later (suc n + 2 * (m + h.between)) (n + 2 * h.between) (let e : suc n + 2 * (m + h.between) ≡ suc (2 * m + (n + 2 * h.between)) = omega arith in e) ∙ h.itself;
        loops = λ k l is.
            let stands = (h.loops k l is).1 in (
              (h.loops k l is).0,
              record {
                itself = later (suc n + 1 + 2 * (m + h.between + k)) (n + 1 + 2 * (h.between + k))
                    (let e : suc n + 1 + 2 * (m + h.between + k) ≡ suc (2 * m + (n + 1 + 2 * (h.between + k))) = omega arith in e) ∙ stands.itself;
                body = later (suc (suc n + 1 + 2 * (m + h.between + k))) (suc (n + 1 + 2 * (h.between + k)))
                    (let e : suc (suc n + 1 + 2 * (m + h.between + k)) ≡ suc (2 * m + suc (n + 1 + 2 * (h.between + k))) = omega arith in e) ∙ stands.body;
              },
            );
      }

all_placed : (fs : List TFunc) (c : ℕ) → LoopsBefore c fs → Counts c (functions_numbers fs).loops → (n : ℕ) (g : TFunc)
    → slice_get fs n ≡ Some g → Placed (regions_in fs) c n g
all_placed [] c before counts n g is = absurd (none-some g is)
all_placed (f ∷ fs) c before counts zero g is =
    subst (Placed (regions_in (f ∷ fs)) c 0) (same_Some f g is)
    (first_placed f fs c before.0 (counts_first c (function_numbers f).loops (functions_numbers fs).loops counts))
all_placed (f ∷ fs) c before counts (suc n) g is =
    later_placed f fs c n g
    (all_placed fs (c + length (function_numbers f).loops) before.1 (counts_second c (function_numbers f).loops (functions_numbers fs).loops counts) n g is)

-- THE LAWS
its_regions : (regions : List Region) (n : ℕ) (f : TFunc) → Placed regions 0 n f → AreItsRegions regions n f
its_regions regions n f h =
    let before : f.loops ≡ 0 + h.between = h.before in record {
      itself = ap (slice_get regions) (let e : function_region n f ≡ n + 2 * h.between = omega (arith, before) in e) ∙ h.itself;
      listed = function_listed f;
      loops = λ k l is.
          let number : l.number ≡ f.loops + k = (h.loops k l is).0 in
          let place : loop_region n l.number ≡ n + 1 + 2 * (h.between + k) = omega (arith, before, number) in record {
            itself = ap (slice_get regions) place ∙ (h.loops k l is).1.itself;
            body = ap (slice_get regions) (let e : loop_region n l.number + 1 ≡ suc (n + 1 + 2 * (h.between + k)) = omega (arith, place) in e) ∙ (h.loops k l is).1.body;
          };
    }

pub have_numbers : RegionsHaveTheirNumbers
unfolding regions_of
have_numbers typed h n f is =
    let loops : List ℕ = (functions_numbers typed.functions).loops in
    its_regions (regions_of typed) n f (all_placed typed.functions 0 h.6 (subst (Counts 0) (sym h.2) (counted 0 (length loops))) n f is)

in_length : (fs : List TFunc) → length (regions_in fs) ≡ length fs + 2 * length (functions_numbers fs).loops
in_length [] = refl
in_length (f ∷ fs) =
    let own : List Region = regions_of_loops f.name (loops_of f) in
    let both : length (own ++ regions_in fs) ≡ length own + length (regions_in fs) = length-append own (regions_in fs) in
    let first : length own ≡ 2 * length (function_numbers f).loops = loops_length f.name (loops_of f) ∙ ap (λ (n : ℕ). 2 * n) (listed_length f) in
    let rest : length (regions_in fs) ≡ length fs + 2 * length (functions_numbers fs).loops = in_length fs in
    let loops : length ((function_numbers f).loops ++ (functions_numbers fs).loops) ≡ length (function_numbers f).loops + length (functions_numbers fs).loops =
    length-append (function_numbers f).loops (functions_numbers fs).loops in
    omega (arith, both, first, rest, loops)

pub no_others : ThereAreNoOthers
unfolding regions_of
no_others typed h = in_length typed.functions ∙ ap (λ (n : ℕ). length typed.functions + 2 * n) (sym h.5)

-- the region of a function and those of its loops are no more than all
first_length : (g : TFunc) (rest : List Region) → length (regions_of_loops g.name (loops_of g) ++ rest) ≡ 2 * length (loops_of g) + length rest
first_length g rest = length-append (regions_of_loops g.name (loops_of g)) rest ∙ ap (λ (m : ℕ). m + length rest) (loops_length g.name (loops_of g))

fits_in : (fs : List TFunc) (n : ℕ) (f : TFunc) → slice_get fs n ≡ Some f → 1 + 2 * length (loops_of f) ≤ length (regions_in fs)
fits_in [] n f is = absurd (none-some f is)
fits_in (g ∷ fs) zero f is =
    let all : length (regions_of_loops g.name (loops_of g) ++ regions_in fs) ≡ 2 * length (loops_of g) + length (regions_in fs) = first_length g (regions_in fs) in
    subst (λ (h : TFunc). 1 + 2 * length (loops_of h) ≤ length (regions_in (g ∷ fs))) (same_Some g f is) (omega (arith, all))
fits_in (g ∷ fs) (suc n) f is =
    let all : length (regions_of_loops g.name (loops_of g) ++ regions_in fs) ≡ 2 * length (loops_of g) + length (regions_in fs) = first_length g (regions_in fs) in
    let rest : 1 + 2 * length (loops_of f) ≤ length (regions_in fs) = fits_in fs n f is in
    omega (arith, all, rest)

pub function_fits : (typed : TUnit) (n : ℕ) (f : TFunc) → slice_get typed.functions n ≡ Some f → 1 + 2 * length (loops_of f) ≤ length (regions_of typed)
unfolding regions_of
function_fits typed n f is = fits_in typed.functions n f is
