-- What an operation leaves of a world.
use Rattle.std.proofs.Common.{◌≡◌, ℕ, ℤ, List, [], ◌∷◌, map, Option, Some, None, Result, Ok, Err, true, false, cond, eqb, refl, subst}
use Rattle.k_ending.specs.declared.ending.Trap.{Trap}
use Rattle.k_mem.specs.declared.pointer.Pointer.{Pointer}
use Rattle.k_mem.specs.Memory.{Object}
use Rattle.k_mem.specs.Calls.{rewritten, with_value}
use Rattle.k_world.specs.declared.act.Act.{Act}
use Rattle.k_world.specs.declared.act.Act.TheVariants as act
use Rattle.k_world.specs.declared.value.Value.{Value}
use Rattle.k_world.specs.Acts.{effect, pointer_and_number, written, store_effect, output_effect}
use Rattle.k_world.specs.Operands.{values_of}
use Rattle.k_world.specs.Operations.{Gives, counted, operation}
use Rattle.k_world.specs.Worlds.{World}
use Rattle.k_world.specs.WorldLaws.{WhereMade, IsCounted}
use Rattle.k_world.proofs.Sound.{operation_cases, operations_count, control_stays, tests_control, calls_stay}
use Rattle.k_world_laws.specs.Laws.{OneFewerIsLeft, OneMoreIsMade, OtherActsKeepControl, TestBecomesControl, CallsAreKept, SizeIsKept, NumbersAreKept, numbers_of}

pub one_fewer_is_left : OneFewerIsLeft
one_fewer_is_left class latency place what reads before after held is =
    (subst (WhereMade IsCounted before) is (operations_count class latency place what reads before)).1

pub one_more_is_made : OneMoreIsMade
one_more_is_made class latency place what reads before after held is =
    (subst (WhereMade IsCounted before) is (operations_count class latency place what reads before)).0

pub other_acts_keep_control : OtherActsKeepControl
other_acts_keep_control class latency place what reads before after held is other =
    subst (WhereMade (λ v w. w.control ≡ v.control) before) is (control_stays class latency place what reads before other)

pub test_becomes_control : TestBecomesControl
test_becomes_control class latency place what reads before after held is test =
    subst (WhereMade (λ v w. w.control ≡ Some v.made) before)
    (subst (λ (a : Act). operation class latency place a reads before ≡ Gives held after) test is) (tests_control class latency place reads before)

pub calls_are_kept : CallsAreKept
calls_are_kept class latency place what reads before after held is =
    (subst (WhereMade (λ v w. (w.calls ≡ v.calls) × (w.size ≡ v.size) × (w.memory.made ≡ v.memory.made)) before) is
    (calls_stay class latency place what reads before)).0

pub size_is_kept : SizeIsKept
size_is_kept class latency place what reads before after held is =
    (subst (WhereMade (λ v w. (w.calls ≡ v.calls) × (w.size ≡ v.size) × (w.memory.made ≡ v.memory.made)) before) is
    (calls_stay class latency place what reads before)).1

-- a rewritten object has its number
number_rewritten : (f : List (Option ℤ) → List (Option ℤ)) (to : ℕ) (o : Object) → (rewritten f to o).number ≡ o.number
number_rewritten f to o = elim (eqb o.number to) as (λ b. (let x : Object = cond b (record o { elements = f o.elements }) o in x.number) ≡ o.number)
    [ true ↦ refl | false ↦ refl ]

numbers_rewritten : (f : List (Option ℤ) → List (Option ℤ)) (to : ℕ) (objects : List Object)
    → map (λ o. o.number) (map (rewritten f to) objects) ≡ map (λ o. o.number) objects
numbers_rewritten f to [] = refl
numbers_rewritten f to (o ∷ objects) =
    let here = number_rewritten f to o in
    let rest = numbers_rewritten f to objects in
    λ i. here i ∷ rest i

store_numbers : (number : ℕ) (s : Option (Pointer × ℤ)) (w : World) → numbers_of (store_effect number s w).memory ≡ numbers_of w.memory
store_numbers number None w = refl
store_numbers number (Some s) w = numbers_rewritten (with_value s.0.offset s.1) s.0.object w.memory.live

output_numbers : (number : ℕ) (bytes : Result (List ℕ) Trap) (w : World) → numbers_of (output_effect number bytes w).memory ≡ numbers_of w.memory
output_numbers number (Ok bytes) w = refl
output_numbers number (Err t) w = refl

-- an act lets no object die and makes none
effect_numbers : (what : Act) (number : ℕ) (values : List Value) (w : World) → numbers_of (effect what number values w).memory ≡ numbers_of w.memory
unfolding effect
effect_numbers (act.Binary op kind) number values w = refl
effect_numbers (act.Unary op kind) number values w = refl
effect_numbers (act.Convert kind) number values w = refl
effect_numbers act.Move number values w = refl
effect_numbers (act.Offset minus scale) number values w = refl
effect_numbers (act.PtrCompare op) number values w = refl
effect_numbers (act.PtrDistance scale) number values w = refl
effect_numbers act.Load number values w = refl
effect_numbers act.Store number values w = store_numbers number (pointer_and_number values) w
effect_numbers act.Input number values w = refl
effect_numbers (act.Output what) number values w = output_numbers number (written what values) w
effect_numbers act.Test number values w = refl
effect_numbers act.Call number values w = refl

pub numbers_are_kept : NumbersAreKept
numbers_are_kept class latency place what reads before after held is =
    subst (WhereMade (λ v w. numbers_of w.memory ≡ numbers_of v.memory) before) is
    (operation_cases (WhereMade (λ v w. numbers_of w.memory ≡ numbers_of v.memory) before) class latency place what reads before (λ end early. tt)
    (λ some v. effect_numbers what before.made (values_of reads) (counted class latency place what reads before)))
