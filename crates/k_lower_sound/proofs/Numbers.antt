-- The marks have of each loop, by its number, whether it is counted.
use Rattle.std.proofs.Common.{ℕ, zero, suc, ◌≡◌, ◌+◌, Bool, List, [], ◌∷◌, ◌++◌, map, length, slice_get, Some, refl, sym, ◌∙◌, ap, subst, arith}
use Rattle.std.proofs.lemmas.List.{length-map}
use Rattle.std.proofs.lemmas.Option.{none-some, same_Some}
use Rattle.k_types_meaning.specs.declared.tree.unit.TVariable.{TVariable}
use Rattle.k_types_meaning.specs.declared.tree.unit.TFunc.{TFunc}
use Rattle.k_types_meaning.specs.declared.tree.unit.TUnit.{TUnit}
use Rattle.k_types_meaning.specs.Numbered.{IsNumbered, function_numbers, functions_numbers, numbers_from}
use Rattle.k_marks_meaning.specs.Loops.{Loop, is_counted}
use Rattle.k_marks_meaning.specs.Marking.{counted_in, function_inside}
use Rattle.k_regions.specs.declared.loops.LoopAt.{LoopAt}
use Rattle.k_regions.specs.Regions.{loops_of}
use Rattle.k_regions.proofs.Listed.{function_listed, number_of}
use Rattle.k_lower_sound.proofs.Lengths.{function_alike}

-- these numbers count up from this one
abbrev pub Up : ℕ → List ℕ → Type 0
Up c [] = Unit {0}
Up c (n ∷ ns) = (n ≡ c) × Up (suc c) ns

pub up_from : (c k : ℕ) → Up c (numbers_from c k)
up_from c zero = tt
up_from c (suc k) = (refl, up_from (suc c) k)

up_front : (c : ℕ) (ns ms : List ℕ) → Up c (ns ++ ms) → Up c ns
up_front c [] ms h = tt
up_front c (n ∷ ns) ms h = (h.0, up_front (suc c) ns ms h.1)

up_behind : (c d : ℕ) (ns ms : List ℕ) → c + length ns ≡ d → Up c (ns ++ ms) → Up d ms
up_behind c d [] ms is h = subst (λ (k : ℕ). Up k ms) (let e : c ≡ d = omega (arith, is) in e) h
up_behind c d (n ∷ ns) ms is h = up_behind (suc c) d ns ms (omega (arith, is)) h.1

module _ (table : List Bool) where
  -- from this place on, a table has these
  abbrev At : ℕ → List Bool → Type 0
  At c [] = Unit {0}
  At c (b ∷ bs) = (slice_get table c ≡ Some b) × At (suc c) bs

  at_front : (c : ℕ) (as_ bs : List Bool) → At c (as_ ++ bs) → At c as_
  at_front c [] bs h = tt
  at_front c (a ∷ as_) bs h = (h.0, at_front (suc c) as_ bs h.1)

  at_behind : (c d : ℕ) (as_ bs : List Bool) → c + length as_ ≡ d → At c (as_ ++ bs) → At d bs
  at_behind c d [] bs is h = subst (λ (k : ℕ). At k bs) (let e : c ≡ d = omega (arith, is) in e) h
  at_behind c d (a ∷ as_) bs is h = at_behind (suc c) d as_ bs (omega (arith, is)) h.1

  at_all : (c : ℕ) (bs : List Bool) → ((k : ℕ) → slice_get table (c + k) ≡ slice_get bs k) → At c bs
  at_all c [] each = tt
  at_all c (b ∷ bs) each = (
    ap (slice_get table) (let e : c ≡ c + 0 = omega arith in e) ∙ each 0,
    at_all (suc c) bs (λ k. ap (slice_get table) (let e : suc c + k ≡ c + suc k = omega arith in e) ∙ each (suc k)),
  )

  -- THE TABLE has of each loop, by its number, whether it is counted
  abbrev pub Agree : List TVariable → List LoopAt → List Loop → Type 0
  Agree vs [] [] = Unit {0}
  Agree vs (x ∷ xs) [] = ⊥
  Agree vs [] (l ∷ ls) = ⊥
  Agree vs (x ∷ xs) (l ∷ ls) = (slice_get table x.number ≡ Some (is_counted vs l)) × Agree vs xs ls

  pub agree_front : (vs : List TVariable) (xs ys : List LoopAt) (ls ms : List Loop) → length xs ≡ length ls → Agree vs (xs ++ ys) (ls ++ ms) → Agree vs xs ls
  agree_front vs [] ys [] ms long h = tt
  agree_front vs (x ∷ xs) ys [] ms long h = absurd (omega (arith, long))
  agree_front vs [] ys (l ∷ ls) ms long h = absurd (omega (arith, long))
  agree_front vs (x ∷ xs) ys (l ∷ ls) ms long h = (h.0, agree_front vs xs ys ls ms (let e : length xs ≡ length ls = omega (arith, long) in e) h.1)

  pub agree_behind : (vs : List TVariable) (xs ys : List LoopAt) (ls ms : List Loop) → length xs ≡ length ls → Agree vs (xs ++ ys) (ls ++ ms) → Agree vs ys ms
  agree_behind vs [] ys [] ms long h = h
  agree_behind vs (x ∷ xs) ys [] ms long h = absurd (omega (arith, long))
  agree_behind vs [] ys (l ∷ ls) ms long h = absurd (omega (arith, long))
  agree_behind vs (x ∷ xs) ys (l ∷ ls) ms long h = agree_behind vs xs ys ls ms (let e : length xs ≡ length ls = omega (arith, long) in e) h.1

  agree_here : (vs : List TVariable) (c : ℕ) (xs : List LoopAt) (ls : List Loop) → length xs ≡ length ls → Up c (map number_of xs) → At c (map (is_counted vs) ls) → Agree vs xs ls
  agree_here vs c [] [] long up at = tt
  agree_here vs c (x ∷ xs) [] long up at = absurd (omega (arith, long))
  agree_here vs c [] (l ∷ ls) long up at = absurd (omega (arith, long))
  agree_here vs c (x ∷ xs) (l ∷ ls) long up at =
      (ap (slice_get table) up.0 ∙ at.0, agree_here vs (suc c) xs ls (let e : length xs ≡ length ls = omega (arith, long) in e) up.1 at.1)

  -- of functions whose loops have the numbers from this one on
  functions_agree : (c : ℕ) (fs : List TFunc) (n : ℕ) (f : TFunc) → Up c (functions_numbers fs).loops → At c (counted_in fs) → slice_get fs n ≡ Some f
      → Agree f.variables (loops_of f) (function_inside f).loops
  functions_agree c [] n f up at is = absurd (none-some f is)
  functions_agree c (g ∷ fs) zero f up at is =
      subst (λ (x : TFunc). Agree x.variables (loops_of x) (function_inside x).loops) (same_Some g f is)
      (agree_here g.variables c (loops_of g) (function_inside g).loops (function_alike g)
      (subst (Up c) (sym (function_listed g)) (up_front c (function_numbers g).loops (functions_numbers fs).loops up))
      (at_front c (map (is_counted g.variables) (function_inside g).loops) (counted_in fs) at))
  functions_agree c (g ∷ fs) (suc n) f up at is =
      let numbers : length (function_numbers g).loops ≡ length (loops_of g) = ap length (sym (function_listed g)) ∙ length-map (loops_of g) number_of in
      let loops : length (loops_of g) ≡ length (function_inside g).loops = function_alike g in
      let marks : length (map (is_counted g.variables) (function_inside g).loops) ≡ length (function_inside g).loops = length-map (function_inside g).loops (is_counted g.variables) in
      functions_agree (c + length (function_numbers g).loops) fs n f (up_behind c (c + length (function_numbers g).loops) (function_numbers g).loops (functions_numbers fs).loops refl up)
      (at_behind c (c + length (function_numbers g).loops) (map (is_counted g.variables) (function_inside g).loops) (counted_in fs) (omega (arith, numbers, loops, marks)) at) is

-- THE LOOPS of a function of a numbered source
pub loops_agree : (unit : TUnit) (n : ℕ) (f : TFunc) → IsNumbered unit → slice_get unit.functions n ≡ Some f → Agree (counted_in unit.functions) f.variables (loops_of f) (function_inside f).loops
loops_agree unit n f numbered is =
    let ns : List ℕ = (functions_numbers unit.functions).loops in
    functions_agree (counted_in unit.functions) 0 unit.functions n f (subst (Up 0) (sym numbered.2) (up_from 0 (length ns)))
    (at_all (counted_in unit.functions) 0 (counted_in unit.functions) (λ k. ap (slice_get (counted_in unit.functions)) (let e : 0 + k ≡ k = omega arith in e))) is
