-- Parts of a run keep states right: what they carry is of its sort where what waits is.
use Rattle.std.proofs.Common.{◌≡◌, ℕ, zero, suc, IfOk, Bool, true, false, List, [], ◌∷◌, ◌++◌, map, slice_get, Option, Some, None, Ok, Err, nat_eq, refl, sym, ◌∙◌, ap, subst, arith}
use Rattle.k_num.specs.declared.initial.Initial.{Initial}
use Rattle.k_num.specs.declared.numbers.Kind.{Kind}
use Rattle.k_num.specs.declared.numbers.Kind.TheVariants.{I8}
use Rattle.k_num.specs.declared.place.Place.{Place}
use Rattle.k_optab.specs.declared.class.Class.{Class}
use Rattle.k_optab.specs.Latencies.{latency}
use Rattle.k_ending.specs.declared.ending.Trap.{Trap}
use Rattle.k_types_meaning.specs.declared.tree.unit.TVariable.{TVariable}
use Rattle.k_mem.specs.declared.start.Start.{Start}
use Rattle.k_mem.specs.Memory.{Memory}
use Rattle.k_world.specs.declared.act.Act.{Act}
use Rattle.k_world.specs.declared.value.Held.{Held}
use Rattle.k_world.specs.declared.value.Read.{Read}
use Rattle.k_world.specs.declared.value.Value.{Value}
use Rattle.k_world.specs.declared.value.Value.TheVariants as value
use Rattle.k_world.specs.Acts.{Given, work}
use Rattle.k_world.specs.Changes.{object_made, string_made}
use Rattle.k_world.specs.Operands.{are_set, values_of}
use Rattle.k_world.specs.Operations.{Made, Gives, Ends, operation, acted, counted}
use Rattle.k_world.specs.WorldLaws.{AreBytes}
use Rattle.k_world.specs.Worlds.{World}
use Rattle.k_world.proofs.Operations.{operation_out, operation_unset, operation_acts}
use Rattle.k_evaluation.specs.declared.operand.Operand.{Operand}
use Rattle.k_evaluation.specs.declared.operand.Operand.TheVariants.{Constant, Holding, Register}
use Rattle.k_evaluation.specs.declared.operand.Target.{Target}
use Rattle.k_evaluation.specs.declared.operand.Target.TheVariants.{InRegister, InMemory}
use Rattle.k_evaluation.specs.States.{Program, State, Outcome, Goes, Stops, Part, follow, ◌>>=◌, gives, traps, read, held_in, made, makes, computes, sets, enters, exits, region, control, settles, settled}
use Rattle.k_evaluation.specs.Objects.{made_object, makes_object, makes_string, with_items_at, fills, live, keeps, block}
use Rattle.k_evaluation_laws.specs.Kinds.{Sort, NoValue, ANumber, APointer, sort_of, kind_in, IsValue, IsIn, IsSlotOf, AreObjectsOf, IsRightWorld, IsRight, Grows}
use Rattle.k_evaluation_laws.proofs.Acts.{IfHeld, IsAddress, WritesRight, address_of_pointer, held_so, effect_right}
use Rattle.k_evaluation_laws.proofs.Memory.{AreItemsOf, IfMade, IsPlain, filled_right, object_right, string_right, kept_right}
use Rattle.k_evaluation_laws.proofs.Slots.{grows_not, grows_then, grows_by, last_there, value_later, slots_later, slots_set, slots_at}

-- WHERE A PART RUNS: in a call with these variables, of a program whose objects had these kinds at the start
pub record Here : Type 0 where
  pub vars : List TVariable
  pub start : List Kind

-- HOW A VARIABLE IS READ, which has so many elements and is of a sort: one in a register as that sort, one that is memory as the pointer to its object
abbrev pub GivesSort : ℕ → Sort → Sort → Type 0
GivesSort elements NoValue s = ⊥
GivesSort zero (ANumber kind) s = s ≡ ANumber kind
GivesSort (suc count) (ANumber kind) s = s ≡ APointer kind
GivesSort elements (APointer kind) s = s ≡ APointer kind

abbrev pub Reads : Here → ℕ → Sort → Type 0
Reads vs n s = (v : TVariable) × (slice_get vs.vars n ≡ Some v) × GivesSort v.elements (sort_of v.of) s

-- a variable is read as a sort, if it is used as one
abbrev pub ReadsAs : Here → ℕ → Sort → Type 0
ReadsAs vs n NoValue = Unit {0}
ReadsAs vs n (ANumber kind) = Reads vs n (ANumber kind)
ReadsAs vs n (APointer kind) = Reads vs n (APointer kind)

-- an operand is of a sort
abbrev pub IsOperand : List Kind → Here → Sort → Operand → Type 0
IsOperand kinds vs s (Constant v) = IsValue kinds s v
IsOperand kinds vs s (Holding held) = IsValue kinds s held.value
IsOperand kinds vs s (Register n broken) = ReadsAs vs n s

-- a variable is a register of a sort
abbrev pub IsRegister : Here → ℕ → Sort → Type 0
IsRegister vs n s = (v : TVariable) × (slice_get vs.vars n ≡ Some v) × (v.elements ≡ 0) × (sort_of v.of ≡ s)

-- a constant is the address of an element of a kind
abbrev pub IsElement : List Kind → Kind → Operand → Type 0
IsElement kinds kind (Constant v) = IsAddress kinds kind v
IsElement kinds kind (Holding held) = ⊥
IsElement kinds kind (Register n broken) = ⊥

-- WHAT WAITS OR IS CARRIED: an operand of a sort, a register of a sort that is written, the address of an element, a result that may not be there, and the
-- pointer to an object of a kind
pub data Waiting : Type 0 where
  AValue : Sort → Operand → Waiting
  AVariable : Sort → ℕ → Waiting
  AnElement : Kind → Operand → Waiting
  AResult : Sort → Option Held → Waiting

abbrev pub Holds : List Kind → Here → Waiting → Type 0
Holds kinds vs (AValue s a) = IsOperand kinds vs s a
Holds kinds vs (AVariable s n) = IsRegister vs n s
Holds kinds vs (AnElement kind a) = IsElement kinds kind a
Holds kinds vs (AResult s slot) = IfHeld (IsValue kinds s) slot

abbrev pub AllHold : List Kind → Here → List Waiting → Type 0
AllHold kinds vs [] = Unit {0}
AllHold kinds vs (x ∷ xs) = Holds kinds vs x × AllHold kinds vs xs

module _ (kinds more : List Kind) (vs : Here) (grows : Grows kinds more) where
  operand_later : (s : Sort) (a : Operand) → IsOperand kinds vs s a → IsOperand more vs s a
  operand_later s (Constant v) h = value_later kinds more s v grows h
  operand_later s (Holding held) h = value_later kinds more s held.value grows h
  operand_later s (Register n broken) h = h

  address_later : (kind : Kind) (v : Value) → IsAddress kinds kind v → IsAddress more kind v
  address_later kind (value.Number z) h = tt
  address_later kind (value.Pointer p) h = grows p.object kind h

  element_later : (kind : Kind) (a : Operand) → IsElement kinds kind a → IsElement more kind a
  element_later kind (Constant v) h = address_later kind v h
  element_later kind (Holding held) h = absurd h
  element_later kind (Register n broken) h = absurd h

  holds_later : (x : Waiting) → Holds kinds vs x → Holds more vs x
  holds_later (AValue s a) h = operand_later s a h
  holds_later (AVariable s n) h = h
  holds_later (AnElement kind a) h = element_later kind a h
  holds_later (AResult s slot) h = held_so (IsValue kinds s) (IsValue more s) slot (λ v one. value_later kinds more s v grows one) h

  pub all_later : (xs : List Waiting) → AllHold kinds vs xs → AllHold more vs xs
  all_later [] h = tt
  all_later (x ∷ xs) h = (holds_later x h.0, all_later xs h.1)

pub hold_both : (kinds : List Kind) (vs : Here) (xs ys : List Waiting) → AllHold kinds vs xs → AllHold kinds vs ys → AllHold kinds vs (xs ++ ys)
hold_both kinds vs [] ys h k = k
hold_both kinds vs (x ∷ xs) ys h k = (h.0, hold_both kinds vs xs ys h.1 k)

pub hold_front : (kinds : List Kind) (vs : Here) (xs ys : List Waiting) → AllHold kinds vs (xs ++ ys) → AllHold kinds vs xs
hold_front kinds vs [] ys h = tt
hold_front kinds vs (x ∷ xs) ys h = (h.0, hold_front kinds vs xs ys h.1)

pub hold_behind : (kinds : List Kind) (vs : Here) (xs ys : List Waiting) → AllHold kinds vs (xs ++ ys) → AllHold kinds vs ys
hold_behind kinds vs [] ys h = h
hold_behind kinds vs (x ∷ xs) ys h = hold_behind kinds vs xs ys h.1

-- WHAT COMES OF A PART: where it goes on, the state is right for some more objects, and what it carries holds
abbrev pub Fine : {A : Type 0} → Here → (A → List Waiting) → List Kind → Outcome A → Type 0
Fine vs carries kinds (Goes a t) = (more : List Kind) × Grows kinds more × IsRight more vs.vars t × AllHold more vs (carries a)
Fine vs carries kinds (Stops end w) = Unit {0}

-- A PART KEEPS STATES RIGHT, and carries this where what waits holds
pub record Brings {A : Type 0} (vs : Here) (waiting : List Waiting) (carries : A → List Waiting) (part : Part A) : Type 0 where
  pub brings : (kinds : List Kind) (s : State) → Grows vs.start kinds → IsRight kinds vs.vars s → AllHold kinds vs waiting → Fine vs carries kinds (part s)

-- what it carries that gives nothing that is used
abbrev pub of_none : {A : Type 0} → A → List Waiting
of_none a = []

-- an operand of a sort
abbrev pub of_operand : Sort → Operand → List Waiting
of_operand s a = AValue s a ∷ []

-- what an operation gave
abbrev pub of_held : Sort → Held → List Waiting
of_held s held = AValue s (Holding held) ∷ []

-- a place of a sort
abbrev pub of_target : Sort → Target → List Waiting
of_target s (InRegister n broken) = AVariable s n ∷ []
of_target s (InMemory a) = AValue (APointer (kind_in s)) a ∷ []

-- ONE PART BEHIND ANOTHER
pub fine_from : {B : Type 0} (vs : Here) (carries : B → List Waiting) (kinds more : List Kind) (o : Outcome B) → Grows kinds more → Fine vs carries more o → Fine vs carries kinds o
fine_from vs carries kinds more (Goes b t) grows h = (h.0, grows_then kinds more h.0 grows h.1, h.2, h.3)
fine_from vs carries kinds more (Stops end w) grows h = tt

fine_follow : {A B : Type 0} (vs : Here) (carries : A → List Waiting) (carried : B → List Waiting) (kinds : List Kind) (o : Outcome A) (next : A → Part B)
    → Fine vs carries kinds o
    → ((a : A) (more : List Kind) (t : State) → Grows kinds more → IsRight more vs.vars t → AllHold more vs (carries a) → Fine vs carried more (next a t))
    → Fine vs carried kinds (follow o next)
fine_follow vs carries carried kinds (Goes a t) next h k = fine_from vs carried kinds h.0 (next a t) h.1 (k a h.0 t h.1 h.2 h.3)
fine_follow vs carries carried kinds (Stops end w) next h k = tt

pub binds : {A B : Type 0} (vs : Here) (waiting : List Waiting) (carries : A → List Waiting) (carried : B → List Waiting) (part : Part A) (next : A → Part B)
    → Brings vs waiting carries part → ((a : A) → Brings vs (carries a ++ waiting) carried (next a)) → Brings vs waiting carried (part >>= next)
binds vs waiting carries carried part next first second = record {
  brings = λ kinds s begins right wait.
      fine_follow vs carries carried kinds (part s) next (first.brings kinds s begins right wait)
      (λ a more t grows well gave. (second a).brings more t (grows_then vs.start kinds more begins grows) well (hold_both more vs (carries a) waiting gave (all_later kinds more vs grows waiting wait)));
}

-- a part that needs fewer of them
pub needs : {A : Type 0} (vs : Here) (waiting fewer : List Waiting) (carries : A → List Waiting) (part : Part A)
    → ((kinds : List Kind) → AllHold kinds vs waiting → AllHold kinds vs fewer) → Brings vs fewer carries part → Brings vs waiting carries part
needs vs waiting fewer carries part from h = record { brings = λ kinds s begins right wait. h.brings kinds s begins right (from kinds wait) }

-- a part that needs none
pub anywhere : {A : Type 0} (vs : Here) (waiting : List Waiting) (carries : A → List Waiting) (part : Part A) → Brings vs [] carries part → Brings vs waiting carries part
anywhere vs waiting carries part h = record { brings = λ kinds s begins right wait. h.brings kinds s begins right tt }

-- a part that carries more than is needed
fine_so : {A : Type 0} (vs : Here) (carries fewer : A → List Waiting) (kinds : List Kind) (o : Outcome A)
    → ((a : A) (more : List Kind) → AllHold more vs (carries a) → AllHold more vs (fewer a)) → Fine vs carries kinds o → Fine vs fewer kinds o
fine_so vs carries fewer kinds (Goes a t) so h = (h.0, h.1, h.2, so a h.0 h.3)
fine_so vs carries fewer kinds (Stops end w) so h = tt

pub so : {A : Type 0} (vs : Here) (waiting : List Waiting) (carries fewer : A → List Waiting) (part : Part A)
    → ((a : A) (kinds : List Kind) → AllHold kinds vs (carries a) → AllHold kinds vs (fewer a)) → Brings vs waiting carries part → Brings vs waiting fewer part
so vs waiting carries fewer part from h = record { brings = λ kinds s begins right wait. fine_so vs carries fewer kinds (part s) from (h.brings kinds s begins right wait) }

pub gives_right : {A : Type 0} (vs : Here) (waiting : List Waiting) (carries : A → List Waiting) (a : A)
    → ((kinds : List Kind) → AllHold kinds vs waiting → AllHold kinds vs (carries a)) → Brings vs waiting carries (gives a)
gives_right vs waiting carries a from = record { brings = λ kinds s begins right wait. (kinds, grows_not kinds, right, from kinds wait) }

-- what is so in each state behind the start
pub gives_known : {A : Type 0} (vs : Here) (waiting : List Waiting) (carries : A → List Waiting) (a : A)
    → ((kinds : List Kind) → Grows vs.start kinds → AllHold kinds vs (carries a)) → Brings vs waiting carries (gives a)
gives_known vs waiting carries a from = record { brings = λ kinds s begins right wait. (kinds, grows_not kinds, right, from kinds begins) }

pub traps_right : {A : Type 0} (vs : Here) (waiting : List Waiting) (carries : A → List Waiting) (trap : Trap) (place : Place) → Brings vs waiting carries (traps {A = A} trap place)
traps_right vs waiting carries trap place = record { brings = λ kinds s begins right wait. tt }

-- A VARIABLE IS SET
pub sets_right : (vs : Here) (waiting : List Waiting) (n : ℕ) (slot : Option Held)
    → ((kinds : List Kind) (v : TVariable) → AllHold kinds vs waiting → slice_get vs.vars n ≡ Some v → IsSlotOf kinds v slot) → Brings vs waiting of_none (sets n slot)
sets_right vs waiting n slot from = record {
  brings = λ kinds s begins right wait.
      (kinds, grows_not kinds, record { vars = slots_set kinds vs.vars s.vars n slot right.vars (λ v there. from kinds v wait there); world = right.world }, tt);
}

-- EVENTS AND THE CONTROL SOURCE
-- a world that differs in nothing that is spoken of
abbrev pub same_world : (kinds : List Kind) (u v : World) → v.memory ≡ u.memory → v.input ≡ u.input → IsRightWorld kinds u → IsRightWorld kinds v
same_world kinds u v memory input h = record {
  objects = subst (λ (m : Memory). AreObjectsOf kinds m.live) (sym memory) h.objects;
  made = h.made ∙ sym (ap (λ (m : Memory). m.made) memory);
  input = subst AreBytes (sym input) h.input;
}

still : (kinds : List Kind) (vs : Here) (s : State) (w : World) → w.memory ≡ s.world.memory → w.input ≡ s.world.input → IsRight kinds vs.vars s → IsRight kinds vs.vars (record s { world = w })
still kinds vs s w memory input right = record { vars = right.vars; world = same_world kinds s.world w memory input right.world }

pub settles_right : (vs : Here) (waiting : List Waiting) (stays : Bool) (c : Option ℕ) → Brings vs waiting of_none (settles stays c)
settles_right vs waiting true c = gives_right vs waiting of_none tt (λ kinds wait. tt)
settles_right vs waiting false c = record {
  brings = λ kinds s begins right wait. (kinds, grows_not kinds, still kinds vs s (record s.world { control = c }) refl refl right, tt);
}

pub control_right : (vs : Here) (waiting : List Waiting) → Brings vs waiting of_none control
control_right vs waiting = record { brings = λ kinds s begins right wait. (kinds, grows_not kinds, right, tt) }

enters_right : (vs : Here) (waiting : List Waiting) (number : ℕ) → Brings vs waiting of_none (enters number)
enters_right vs waiting number = record { brings = λ kinds s begins right wait. (kinds, grows_not kinds, still kinds vs s _ refl refl right, tt) }

exits_right : (vs : Here) (waiting : List Waiting) → Brings vs waiting of_none exits
exits_right vs waiting = record { brings = λ kinds s begins right wait. (kinds, grows_not kinds, still kinds vs s _ refl refl right, tt) }

-- what a part carried is there behind what carries nothing
gives_carried : {A : Type 0} (vs : Here) (waiting : List Waiting) (carries : A → List Waiting) (a : A) → Brings vs (carries a ++ waiting) carries (gives a)
gives_carried vs waiting carries a = gives_right vs (carries a ++ waiting) carries a (λ kinds wait. hold_front kinds vs (carries a) waiting wait)

pub region_right : {A : Type 0} (vs : Here) (waiting : List Waiting) (carries : A → List Waiting) (number : ℕ) (part : Part A)
    → Brings vs waiting carries part → Brings vs waiting carries (region number part)
region_right {A = A} vs waiting carries number part h =
    binds {B = A} vs waiting of_none carries (enters number) (λ entered. part >>= λ a. exits >>= λ left. gives a) (enters_right vs waiting number)
    (λ entered. binds {B = A} vs waiting carries carries part (λ a. exits >>= λ left. gives a) h
    (λ a. binds {B = A} vs (carries a ++ waiting) of_none carries exits (λ left. gives a) (exits_right vs (carries a ++ waiting)) (λ left. gives_carried vs waiting carries a)))

pub settled_right : {A : Type 0} (vs : Here) (waiting : List Waiting) (carries : A → List Waiting) (stays : Bool) (part : Part A)
    → Brings vs waiting carries part → Brings vs waiting carries (settled stays part)
settled_right {A = A} vs waiting carries stays part h =
    binds {B = A} vs waiting of_none carries control (λ c. part >>= λ a. settles stays c >>= λ done. gives a) (control_right vs waiting)
    (λ c. binds {B = A} vs waiting carries carries part (λ a. settles stays c >>= λ done. gives a) h
    (λ a. binds {B = A} vs (carries a ++ waiting) of_none carries (settles stays c) (λ done. gives a) (settles_right vs (carries a ++ waiting) stays c) (λ done. gives_carried vs waiting carries a)))

-- OPERANDS AS THEY ARE READ
slot_read : (kinds : List Kind) (v : TVariable) (n : ℕ) (t s : Sort) (slot : Option Held) → GivesSort n t s → IfHeld (IsIn kinds n t) slot → IfHeld (IsValue kinds s) slot
slot_read kinds v n t s None h k = tt
slot_read kinds v n NoValue s (Some held) h k = absurd h
slot_read kinds v zero (ANumber kind) s (Some held) h k = subst (λ (x : Sort). IsValue kinds x held.value) (sym h) k
slot_read kinds v (suc n) (ANumber kind) s (Some held) h k = subst (λ (x : Sort). IsValue kinds x held.value) (sym h) k
slot_read kinds v zero (APointer kind) s (Some held) h k = subst (λ (x : Sort). IsValue kinds x held.value) (sym h) k
slot_read kinds v (suc n) (APointer kind) s (Some held) h k = subst (λ (x : Sort). IsValue kinds x held.value) (sym h) k

slot_is : (kinds : List Kind) (v : TVariable) (slot : Option Held) → IsSlotOf kinds v slot → IfHeld (IsIn kinds v.elements (sort_of v.of)) slot
slot_is kinds v None h = tt
slot_is kinds v (Some held) h = h

any_value : (kinds : List Kind) (slot : Option Held) → IfHeld (IsValue kinds NoValue) slot
any_value kinds None = tt
any_value kinds (Some held) = tt

reads_value : (kinds : List Kind) (vs : Here) (s : State) (n : ℕ) (sort : Sort) → IsRight kinds vs.vars s → Reads vs n sort → IfHeld (IsValue kinds sort) (held_in s n)
reads_value kinds vs s n sort right h =
    slot_read kinds h.0 h.0.elements (sort_of h.0.of) sort (held_in s n) h.2 (slot_is kinds h.0 (held_in s n) (slots_at kinds vs.vars s.vars n h.0 right.vars h.1))

pub operand_read : (kinds : List Kind) (vs : Here) (s : State) (sort : Sort) (a : Operand) → IsRight kinds vs.vars s → IsOperand kinds vs sort a
    → IfHeld (IsValue kinds sort) (read s a).slot
operand_read kinds vs s sort (Constant v) right h = h
operand_read kinds vs s sort (Holding held) right h = h
operand_read kinds vs s NoValue (Register n broken) right h = any_value kinds (held_in s n)
operand_read kinds vs s (ANumber kind) (Register n broken) right h = reads_value kinds vs s n (ANumber kind) right h
operand_read kinds vs s (APointer kind) (Register n broken) right h = reads_value kinds vs s n (APointer kind) right h

-- the address of an element of a kind
pub address_read : (kinds : List Kind) (vs : Here) (s : State) (kind : Kind) (a : Operand) → IsRight kinds vs.vars s → IsOperand kinds vs (APointer kind) a
    → IfHeld (IsAddress kinds kind) (read s a).slot
address_read kinds vs s kind a right h =
    held_so (IsValue kinds (APointer kind)) (IsAddress kinds kind) (read s a).slot (λ v one. address_of_pointer kinds kind v one) (operand_read kinds vs s (APointer kind) a right h)

pub element_read : (kinds : List Kind) (s : State) (kind : Kind) (a : Operand) → IsElement kinds kind a → IfHeld (IsAddress kinds kind) (read s a).slot
element_read kinds s kind (Constant v) h = h
element_read kinds s kind (Holding held) h = absurd h
element_read kinds s kind (Register n broken) h = absurd h

-- a value of no sort is any
pub unused_operand : (kinds : List Kind) (vs : Here) (a : Operand) → IsOperand kinds vs NoValue a
unused_operand kinds vs (Constant v) = tt
unused_operand kinds vs (Holding held) = tt
unused_operand kinds vs (Register n broken) = tt

-- a register that is written is read as its sort
register_read : (vs : Here) (n : ℕ) (elements : ℕ) (t s : Sort) → elements ≡ 0 → t ≡ s → (s ≡ NoValue → ⊥) → GivesSort elements t s
register_read vs n elements t s none is some =
    subst (λ (x : Sort). GivesSort elements x s) (sym is) (subst (λ (k : ℕ). GivesSort k s s) (sym none) (by s some))
  where
    by : (x : Sort) → (x ≡ NoValue → ⊥) → GivesSort 0 x x
    by NoValue other = absurd (other refl)
    by (ANumber kind) other = refl
    by (APointer kind) other = refl

pub variable_operand : (kinds : List Kind) (vs : Here) (s : Sort) (n : ℕ) (broken : Bool) → IsRegister vs n s → IsOperand kinds vs s (Register n broken)
variable_operand kinds vs NoValue n broken h = tt
variable_operand kinds vs (ANumber kind) n broken h = (h.0, h.1, register_read vs n h.0.elements (sort_of h.0.of) (ANumber kind) h.2 h.3 (λ is. cc is))
variable_operand kinds vs (APointer kind) n broken h = (h.0, h.1, register_read vs n h.0.elements (sort_of h.0.of) (APointer kind) h.2 h.3 (λ is. cc is))

-- AN OPERATION
-- what an operation of an act gives and leaves
abbrev MadeRight : List Kind → (Value → Type 0) → Made → Type 0
MadeRight kinds P (Gives held w) = P held.value × IsRightWorld kinds w
MadeRight kinds P (Ends end w) = Unit {0}

operation_right : (kinds : List Kind) (P : Value → Type 0) (class : Class) (takes : ℕ) (place : Place) (what : Act) (reads : List Read) (w : World) → IsRightWorld kinds w
    → IfOk (work what (values_of reads) w) P → WritesRight kinds what (values_of reads) → MadeRight kinds P (operation class takes place what reads w)
operation_right kinds P class takes place what reads w right given writes = left (nat_eq w.left 0) refl
  where
    acts : (r : Given) → IfOk r P → MadeRight kinds P (acted class takes place what reads w r)
    acts (Ok v) one =
        (one, effect_right kinds (counted class takes place what reads w) what w.made (values_of reads) writes (same_world kinds w (counted class takes place what reads w) refl refl right))
    acts (Err t) one = tt

    set : nat_eq w.left 0 ≡ false → (b : Bool) → are_set reads ≡ b → MadeRight kinds P (operation class takes place what reads w)
    set some true is = subst (MadeRight kinds P) (sym (operation_acts class takes place what reads w some is)) (acts (work what (values_of reads) w) given)
    set some false is = subst (MadeRight kinds P) (sym (operation_unset class takes place what reads w some is)) tt

    left : (b : Bool) → nat_eq w.left 0 ≡ b → MadeRight kinds P (operation class takes place what reads w)
    left true none = subst (MadeRight kinds P) (sym (operation_out class takes place what reads w none)) tt
    left false some = set some (are_set reads) refl

made_fine : (vs : Here) (kinds : List Kind) (sort : Sort) (s : State) (m : Made) → IsRight kinds vs.vars s → MadeRight kinds (IsValue kinds sort) m → Fine vs (of_held sort) kinds (made s m)
made_fine vs kinds sort s (Gives held w) right h = (kinds, grows_not kinds, record { vars = right.vars; world = h.1 }, (h.0, tt))
made_fine vs kinds sort s (Ends end w) right h = tt

-- an operation whose act gives a value of a sort, and writes a number of its kind
pub makes_right : (vs : Here) (waiting : List Waiting) (sort : Sort) (program : Program) (class : Class) (place : Place) (what : Act) (operands : List Operand)
    → ((kinds : List Kind) (s : State) → IsRight kinds vs.vars s → AllHold kinds vs waiting
    → IfOk (work what (values_of (map (read s) operands)) s.world) (IsValue kinds sort) × WritesRight kinds what (values_of (map (read s) operands)))
    → Brings vs waiting (of_held sort) (makes program class place what operands)
makes_right vs waiting sort program class place what operands gives_it = record {
  brings = λ kinds s begins right wait.
      let it = gives_it kinds s right wait in
      made_fine vs kinds sort s (operation class (latency program.latencies class) place what (map (read s) operands) s.world) right
      (operation_right kinds (IsValue kinds sort) class (latency program.latencies class) place what (map (read s) operands) s.world right.world it.0 it.1);
}

pub computes_right : (vs : Here) (waiting : List Waiting) (sort : Sort) (program : Program) (class : Class) (place : Place) (what : Act) (operands : List Operand)
    → ((kinds : List Kind) (s : State) → IsRight kinds vs.vars s → AllHold kinds vs waiting
    → IfOk (work what (values_of (map (read s) operands)) s.world) (IsValue kinds sort) × WritesRight kinds what (values_of (map (read s) operands)))
    → Brings vs waiting (of_operand sort) (computes program class place what operands)
computes_right vs waiting sort program class place what operands gives_it =
    binds vs waiting (of_held sort) (of_operand sort) (makes program class place what operands) (λ held. gives (Holding held))
    (makes_right vs waiting sort program class place what operands gives_it)
    (λ held. gives_right vs (of_held sort held ++ waiting) (of_operand sort) (Holding held) (λ kinds wait. (wait.0, tt)))

-- OBJECTS
made_object_fine : (vs : Here) (kinds : List Kind) (kind : Kind) (place : Place) (s : State) (w : Option World) → IsRight kinds vs.vars s → IfMade (IsRightWorld (kinds ++ kind ∷ [])) w
    → Fine vs (of_held (APointer kind)) kinds (made_object place s w)
made_object_fine vs kinds kind place s None right h = tt
made_object_fine vs kinds kind place s (Some w) right h =
    let there : slice_get (kinds ++ kind ∷ []) s.world.memory.made ≡ Some kind =
    ap (slice_get (kinds ++ kind ∷ [])) (sym right.world.made) ∙ last_there kinds kind in (
      kinds ++ kind ∷ [],
      grows_by kinds (kind ∷ []),
      record { vars = slots_later kinds (kinds ++ kind ∷ []) vs.vars s.vars (grows_by kinds (kind ∷ [])) right.vars; world = h },
      ((there, omega arith), tt),
    )

pub makes_object_right : (vs : Here) (waiting : List Waiting) (kind : Kind) (place : Place) (start : Start) (count : ℕ) → IsPlain start
    → Brings vs waiting (of_held (APointer kind)) (makes_object place start count)
makes_object_right vs waiting kind place start count plain = record {
  brings = λ kinds s begins right wait. made_object_fine vs kinds kind place s (object_made s.world start count) right (object_right kinds s.world start count kind plain right.world);
}

pub makes_string_right : (vs : Here) (waiting : List Waiting) (place : Place) (bytes : List ℕ) → Brings vs waiting (of_held (APointer I8)) (makes_string place bytes)
makes_string_right vs waiting place bytes = record {
  brings = λ kinds s begins right wait. made_object_fine vs kinds I8 place s (string_made s.world (bytes ++ 0 ∷ [])) right (string_right kinds s.world (bytes ++ 0 ∷ []) right.world);
}

-- the elements of an object are set to items of its kind
items_right : (kinds : List Kind) (kind : Kind) (v : Value) (items : List Initial) (w : World) → IsAddress kinds kind v → AreItemsOf kind items → IsRightWorld kinds w
    → IsRightWorld kinds (with_items_at v items w)
items_right kinds kind (value.Number z) items w one held h = h
items_right kinds kind (value.Pointer p) items w one held h = filled_right kinds w p.object kind items h one held

pub fills_right : (vs : Here) (waiting : List Waiting) (kind : Kind) (home : Held) (items : List Initial)
    → ((kinds : List Kind) → AllHold kinds vs waiting → IsValue kinds (APointer kind) home.value) → AreItemsOf kind items → Brings vs waiting of_none (fills home items)
fills_right vs waiting kind home items from held = record {
  brings = λ kinds s begins right wait. (
    kinds,
    grows_not kinds,
    record {
      vars = right.vars;
      world = items_right kinds kind home.value items s.world (address_of_pointer kinds kind home.value (from kinds wait)) held right.world;
    },
    tt,
  );
}

live_right : (vs : Here) (waiting : List Waiting) → Brings vs waiting of_none live
live_right vs waiting = record { brings = λ kinds s begins right wait. (kinds, grows_not kinds, right, tt) }

keeps_right : (vs : Here) (waiting : List Waiting) (count : ℕ) → Brings vs waiting of_none (keeps count)
keeps_right vs waiting count = record {
  brings = λ kinds s begins right wait. (kinds, grows_not kinds, record { vars = right.vars; world = kept_right kinds s.world count right.world }, tt);
}

pub block_right : {A : Type 0} (vs : Here) (waiting : List Waiting) (carries : A → List Waiting) (part : Part A)
    → Brings vs waiting carries part → Brings vs waiting carries (block part)
block_right {A = A} vs waiting carries part h =
    binds {B = A} vs waiting of_none carries live (λ count. part >>= λ a. keeps count >>= λ kept. gives a) (live_right vs waiting)
    (λ count. binds {B = A} vs waiting carries carries part (λ a. keeps count >>= λ kept. gives a) h
    (λ a. binds {B = A} vs (carries a ++ waiting) of_none carries (keeps count) (λ kept. gives a) (keeps_right vs (carries a ++ waiting) count) (λ kept. gives_carried vs waiting carries a)))
