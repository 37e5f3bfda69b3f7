-- Main is among the functions of a typed source without faults.
use Rattle.std.proofs.Common.{◌≡◌, ℕ, zero, suc, ◌+◌, Bool, true, false, List, [], ◌∷◌, ◌++◌, map, length, slice_get, Some, refl, sym, ◌∙◌, subst, ap, drop, ◌≤◌, arith}
use Rattle.std.specs.Prelude.{◌&&◌, ◌||◌, if◌then◌else◌, codes}
use Rattle.std.specs.Cmp.Lexicographic.{same_text}
use Rattle.std.specs.Str.{bytes_eq}
use Rattle.std.proofs.lemmas.Option.{none-some, same_Some}
use Rattle.k_tree.specs.declared.tree.unit.Item.{Item}
use Rattle.k_tree.specs.declared.tree.unit.Item.TheVariants as item
use Rattle.k_tree.specs.declared.tree.unit.Unit as source
use Rattle.k_types_meaning.specs.declared.fault.TypeFault.TheVariants as fault
use Rattle.k_types_meaning.specs.declared.tree.unit.TFunc.{TFunc}
use Rattle.k_types_meaning.specs.declared.tree.unit.TUnit.{TUnit}
use Rattle.k_types_meaning.specs.Bare.{IsTyped}
use Rattle.k_types_meaning.specs.Functions.{has_none, params_of, result_type}
use Rattle.k_types_meaning.specs.Made.{faults_of}
use Rattle.k_types_meaning.specs.Names.{place_in}
use Rattle.k_types_meaning.specs.Units.{all_names, call_faults, defined_by, defined_in, faults, has_main, is_int, main_faults, unit_placed}
use Rattle.k_regions.proofs.Functions.{functions_named, name_of}

-- MAIN
second_nil : {A : Type 0} (xs ys : List A) → xs ++ ys ≡ [] → ys ≡ []
second_nil [] ys h = h
second_nil (x ∷ xs) ys h = absurd (let e : suc (length (xs ++ ys)) ≡ 0 = ap length h in omega (arith, e))

main_there : (unit : source.Unit) → faults unit ≡ [] → has_main unit.items ≡ true
unfolding faults
main_there unit none = by (has_main unit.items) refl
  where
    last : main_faults unit ≡ []
    last = second_nil (call_faults unit) (main_faults unit) (second_nil (faults_of (unit_placed unit).made) (call_faults unit ++ main_faults unit) none)

    by : (b : Bool) → has_main unit.items ≡ b → has_main unit.items ≡ true
    by true is = is
    by false is =
        let one : fault.NoMain unit.end ∷ [] ≡ [] = subst (λ (b : Bool). (if b then [] else fault.NoMain unit.end ∷ []) ≡ []) is last in
        absurd (let e : length (fault.NoMain unit.end ∷ []) ≡ 0 = ap length one in omega (arith, e))

-- a name is at its place
abbrev IsAtItsPlace : List (List ℕ) → List ℕ → Type 0
IsAtItsPlace names x = slice_get names (place_in names x) ≡ Some x

at_head : (names : List (List ℕ)) (y x : List ℕ) (b : Bool) → bytes_eq y x ≡ b → (b ≡ false → IsAtItsPlace names x)
    → slice_get (y ∷ names) (if b then 0 else 1 + place_in names x) ≡ Some x
at_head names y x true is rest = ap Some (same_text y x (sym is))
at_head names y x false is rest =
    subst (λ n. slice_get (y ∷ names) n ≡ Some x) (let e : suc (place_in names x) ≡ 1 + place_in names x = omega arith in e) (rest refl)

main_placed : (items : List Item) → has_main items ≡ true → IsAtItsPlace (all_names (map defined_in items)) (codes "main")
main_placed [] h = absurd cc
main_placed (item.Function p head body close ∷ items) h =
    at_head (all_names (map defined_in items)) head.name (codes "main") (bytes_eq head.name (codes "main")) refl
    (λ other. main_placed items (subst (λ (b : Bool). ((b && (is_int (result_type head) && has_none (params_of head.params))) || has_main items) ≡ true) other h))
main_placed (item.Prototype p head ∷ items) h = main_placed items h
main_placed (item.Objects p specs list ∷ items) h = main_placed items h

-- an item of a list that gives this
given_by : {A B : Type 0} (f : A → B) (xs : List A) (n : ℕ) (y : B) → slice_get (map f xs) n ≡ Some y → (x : A) × (slice_get xs n ≡ Some x) × (f x ≡ y)
given_by f [] n y h = absurd (none-some y h)
given_by f (x ∷ xs) zero y h = (x, refl, same_Some (f x) y h)
given_by f (x ∷ xs) (suc n) y h = given_by f xs n y h

-- the function of main's number has this name
pub main_found : (unit : source.Unit) (typed : TUnit) → IsTyped unit typed → faults unit ≡ []
    → (f : TFunc) × (slice_get typed.functions typed.main ≡ Some f) × (name_of f ≡ codes "main")
unfolding IsTyped
main_found unit typed h none =
    given_by name_of typed.functions typed.main (codes "main")
    (ap (λ (names : List (List ℕ)). slice_get names typed.main) (functions_named unit typed h)
    ∙ ap (λ (u : TUnit). slice_get (defined_by unit) u.main) h.2 ∙ main_placed unit.items (main_there unit none))
