-- What a change of a variable in a register comes to.
use Rattle.std.proofs.Common.{◌≡◌, ℕ, zero, suc, ◌≤◌, ℤ, List, [], ◌∷◌, map, Option, Some, Ok, Bool, true, false, refl, sym, ◌∙◌, ap, subst, slice_get, slice_set}
use Rattle.k_num.specs.declared.place.Place.{Place}
use Rattle.k_num.specs.declared.numbers.Bin.{Bin}
use Rattle.k_num.specs.declared.numbers.Kind.{Kind}
use Rattle.k_num.specs.Combining.{combined, is_modular}
use Rattle.k_num.specs.Kind.{width}
use Rattle.k_optab.specs.declared.class.Class.TheVariants as class
use Rattle.k_types_meaning.specs.declared.types.TType.{TType}
use Rattle.k_types_meaning.specs.declared.types.TType.TheVariants as ttype
use Rattle.k_types_meaning.specs.declared.tree.expression.Change.TheVariants as change
use Rattle.k_types_meaning.specs.declared.tree.expression.Node.{Node}
use Rattle.k_world.specs.declared.act.Act.TheVariants as act
use Rattle.k_world.specs.declared.value.Held.{Held}
use Rattle.k_world.specs.declared.value.Value.{Value}
use Rattle.k_world.specs.declared.value.Value.TheVariants.{Number}
use Rattle.k_world.specs.Acts.{Given, work}
use Rattle.k_world.specs.Operands.{values_of, value_in}
use Rattle.k_world.specs.Worlds.{World}
use Rattle.k_evaluation.specs.declared.operand.Operand.{Operand}
use Rattle.k_evaluation.specs.declared.operand.Operand.TheVariants.{Register}
use Rattle.k_evaluation.specs.declared.operand.Target.TheVariants.{InRegister}
use Rattle.k_evaluation.specs.States.{Program, State, Outcome, Goes, Stops, follow, ◌>>=◌, gives, held_by, held_in, read, makes, sets}
use Rattle.k_evaluation.specs.Meanings.{kind_of}
use Rattle.k_evaluation.specs.Assignments.{writes, combined as combines, changes_old}
use Rattle.k_marks_laws.specs.Turns.{HoldsNumber}
use Rattle.k_marks_laws.proofs.Values.{value_by, one_value_is, in_ok, MakesValue, makes_value, ComputesAt, combines_number}

-- WHERE A PART GOES ON, the variable holds this number
abbrev pub Reaches : {A : Type 0} → ℕ → ℤ → Outcome A → Type 0
Reaches n z (Goes a t) = HoldsNumber t n z
Reaches n z (Stops end w) = Unit {0}

-- a slot that holds something is there, so it holds what it is set to
slot_set : (slots : List (Option Held)) (n : ℕ) (x : Value) (held : Held) → value_in (held_by (slice_get slots n)) ≡ Some x
    → held_by (slice_get (slice_set slots n (Some held)) n) ≡ Some held
slot_set [] n x held is = absurd cc
slot_set (slot ∷ slots) zero x held is = refl
slot_set (slot ∷ slots) (suc n) x held is = slot_set slots n x held is

move_work : (v : Value) (w : World) → work act.Move (v ∷ []) w ≡ Ok v
unfolding work
move_work v w = refl

moved_value : (s : State) (a : Operand) (v u : Value) → value_by s.vars a ≡ Some v → work act.Move (values_of (map (read s) (a ∷ []))) s.world ≡ Ok u → u ≡ v
moved_value s a v u is gave =
    sym (in_ok v u (sym (move_work v s.world) ∙ (ap (λ (vs : List Value). work act.Move vs s.world) (sym (one_value_is s a v is)) ∙ gave)))

-- A REGISTER THAT HOLDS SOMETHING IS WRITTEN
written_reaches : (s : State) (n : ℕ) (x : Value) (z : ℤ) (r : Given) (o : Outcome Held) → value_in (held_in s n) ≡ Some x → MakesValue s r o
    → ((u : Value) → r ≡ Ok u → u ≡ Number z)
    → Reaches n z (follow o (λ held. sets n (Some held) >>= λ done. gives (Register n false)))
written_reaches s n x z r (Goes held t) there h from =
    ap value_in (slot_set t.vars n x held (subst (λ (vars : List (Option Held)). value_in (held_by (slice_get vars n)) ≡ Some x) (sym h.0) there)) ∙ ap Some (from held.value h.1)
written_reaches s n x z r (Stops end w) there h from = tt

pub writes_reach : (program : Program) (place : Place) (n : ℕ) (broken : Bool) (a : Operand) (x : Value) (z : ℤ) (s : State)
    → value_in (held_in s n) ≡ Some x → value_by s.vars a ≡ Some (Number z) → Reaches n z (writes program place (InRegister n broken) a s)
writes_reach program place n broken a x z s there is =
    written_reaches s n x z (work act.Move (values_of (map (read s) (a ∷ []))) s.world) (makes program class.Move place act.Move (a ∷ []) s) there
    (makes_value program class.Move place act.Move (a ∷ []) s) (λ u gave. moved_value s a (Number z) u is gave)

-- a number that is computed is written
pub computed_reaches : (program : Program) (place : Place) (n : ℕ) (broken : Bool) (x : Value) (z : ℤ) (vars : List (Option Held)) (o : Outcome Operand)
    → value_in (held_by (slice_get vars n)) ≡ Some x → ComputesAt vars (λ v. v ≡ z) o → Reaches n z (follow o (writes program place (InRegister n broken)))
computed_reaches program place n broken x z vars (Goes a t) there h =
    writes_reach program place n broken a x z t
    (subst (λ (us : List (Option Held)). value_in (held_by (slice_get us n)) ≡ Some x) (sym h.0) there)
    (subst (λ (us : List (Option Held)). value_by us a ≡ Some (Number z)) (sym h.0) (h.2 ∙ ap (λ (k : ℤ). Some (Number k)) h.3))
computed_reaches program place n broken x z vars (Stops end w) there h = tt

-- A VARIABLE IN A REGISTER IS CHANGED by a number: it then holds what the operator combines
pub changes_reach : (program : Program) (node : Node) (n : ℕ) (broken : Bool) (kind wide : Kind) (op : Bin) (by_of : Option Kind) (by : Operand) (x y : ℤ) (s : State)
    → is_modular op ≡ true → node.of ≡ ttype.Number kind → width kind ≤ width wide → HoldsNumber s n x → value_by s.vars by ≡ Some (Number y)
    → Reaches n (combined op kind x y) (changes_old program node (change.Number op wide) by_of (InRegister n broken) by s)
changes_reach program node n broken kind wide op by_of by x y s modular of wider there also =
    computed_reaches program node.place n broken (Number x) (combined op kind x y) s.vars
    (combines program node.place op wide (kind_of node.of) by_of (Register n broken) by s) there
    (subst (λ (t : TType). ComputesAt s.vars (λ v. v ≡ combined op kind x y) (combines program node.place op wide (kind_of t) by_of (Register n broken) by s)) (sym of)
    (combines_number s.vars program node.place op kind wide by_of (Register n broken) by x y modular wider there also s refl))
