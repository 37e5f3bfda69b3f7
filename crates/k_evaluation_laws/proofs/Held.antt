-- What right states say of numbers: each is held by its kind.
use Rattle.std.proofs.Common.{◌≡◌, ℕ, zero, suc, ℤ, IsTrue, List, [], ◌∷◌, slice_get, Option, Some, None, sym, ◌∙◌, ap, subst}
use Rattle.std.proofs.lemmas.Option.{none-some, same_Some}
use Rattle.k_num.specs.declared.numbers.Kind.{Kind}
use Rattle.k_num.specs.Kind.{is_held}
use Rattle.k_types_meaning.specs.declared.tree.unit.TVariable.{TVariable}
use Rattle.k_mem.specs.Memory.{Object}
use Rattle.k_world.specs.declared.value.Held.{Held}
use Rattle.k_world.specs.declared.value.Value.{Value}
use Rattle.k_world.specs.declared.value.Value.TheVariants as value
use Rattle.k_world.specs.Operands.{value_in}
use Rattle.k_evaluation.specs.States.{held_in}
use Rattle.k_marks_laws.specs.Counted.{step_of}
use Rattle.k_marks_laws.specs.Turns.{HoldsNumber}
use Rattle.k_marks_laws.proofs.Closed.{variable_is_counted_in_sources}
use Rattle.k_marks_laws.proofs.Counting.{counted_is_converted}
use Rattle.k_evaluation_laws.specs.Kinds.{Sort, ANumber, sort_of, AreNumbersOf, AreObjectsOf, IsIn, IsObjectOf, IsSlotOf}
use Rattle.k_evaluation_laws.specs.Laws.{ElementsAreHeld, VariableIsConverted, VariablesAreHeld}
use Rattle.k_evaluation_laws.proofs.Slots.{slots_at}

number_in : (kinds : List Kind) (elements : ℕ) (kind : Kind) (v : Value) (z : ℤ) → IsIn kinds elements (ANumber kind) v → v ≡ value.Number z → IsTrue (is_held kind z)
number_in kinds zero kind (value.Number y) z h is = subst (λ (x : ℤ). IsTrue (is_held kind x)) (cc is) h
number_in kinds (suc count) kind (value.Number y) z h is = subst (λ (x : ℤ). IsTrue (is_held kind x)) (cc is) h
number_in kinds zero kind (value.Pointer p) z h is = absurd (cc is)
number_in kinds (suc count) kind (value.Pointer p) z h is = absurd (cc is)

in_slot : (kinds : List Kind) (v : TVariable) (kind : Kind) (slot : Option Held) (z : ℤ) → sort_of v.of ≡ ANumber kind → IsSlotOf kinds v slot → value_in slot ≡ Some (value.Number z) → IsTrue (is_held kind z)
in_slot kinds v kind None z of h is = absurd (cc is)
in_slot kinds v kind (Some held) z of h is =
    number_in kinds v.elements kind held.value z (subst (λ (s : Sort). IsIn kinds v.elements s held.value) of h) (same_Some held.value (value.Number z) is)

pub variables_are_held : VariablesAreHeld
variables_are_held kinds vs s n kind z right v holds =
    in_slot kinds v.0 kind (held_in s n) z (ap sort_of v.2) (slots_at kinds vs s.vars n v.0 right.vars v.1) holds

object_at : (kinds : List Kind) (os : List Object) (m : ℕ) (o : Object) → AreObjectsOf kinds os → slice_get os m ≡ Some o → IsObjectOf kinds o
object_at kinds [] m o h is = absurd (none-some o is)
object_at kinds (x ∷ os) zero o h is = subst (IsObjectOf kinds) (same_Some x o is) h.0
object_at kinds (x ∷ os) (suc m) o h is = object_at kinds os m o h.1 is

element_at : (kind : Kind) (es : List (Option ℤ)) (n : ℕ) (z : ℤ) → AreNumbersOf kind es → slice_get es n ≡ Some (Some z) → IsTrue (is_held kind z)
element_at kind [] n z h is = absurd (none-some (Some z) is)
element_at kind (None ∷ es) zero z h is = absurd (none-some z (same_Some None (Some z) is))
element_at kind (None ∷ es) (suc n) z h is = element_at kind es n z h is
element_at kind (Some y ∷ es) zero z h is = subst (λ (x : ℤ). IsTrue (is_held kind x)) (same_Some y z (same_Some (Some y) (Some z) is)) h.0
element_at kind (Some y ∷ es) (suc n) z h is = element_at kind es n z h.1 is

pub elements_are_held : ElementsAreHeld
elements_are_held kinds vs s m n o kind z right there known is =
    let h : IsObjectOf kinds o = object_at kinds s.world.memory.live m o right.world.objects there in
    element_at kind o.elements n z (subst (λ (k : Kind). AreNumbersOf k o.elements) (same_Some h.kind kind (sym h.known ∙ known)) h.numbers) is

pub variable_is_converted : VariableIsConverted
variable_is_converted unit program depth number f l i kind c before k kinds s t x right there turns =
    subst (HoldsNumber t i.variable) (counted_is_converted kind (step_of l.step) x k (variables_are_held kinds f.variables s i.variable kind x right c.of there))
    (variable_is_counted_in_sources unit program depth number f l i kind c before k s t x there turns)
