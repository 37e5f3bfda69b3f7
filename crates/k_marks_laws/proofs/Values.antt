-- What operations give: the value of their act on what their operands hold; and what a change of a number in a register comes to.
use Rattle.std.proofs.Common.{◌≡◌, ℕ, ◌≤◌, ℤ, List, [], ◌∷◌, map, Option, Some, None, Result, Ok, Err, IfOk, Bool, true, false, nat_eq, IsTrue, if◌then◌else◌, refl, sym, ◌∙◌, ap, subst, slice_get}
use Rattle.k_num.specs.declared.place.Place.{Place}
use Rattle.k_num.specs.declared.numbers.Bin.{Bin}
use Rattle.k_num.specs.declared.numbers.Bin.TheVariants.{Add, Sub, Mul, And, Or, Xor, Shl, Shr}
use Rattle.k_num.specs.declared.numbers.Kind.{Kind}
use Rattle.k_num.specs.declared.numbers.Kind.TheVariants.{I8, U8, I16, U16, I32, U32, I64, U64}
use Rattle.k_num.specs.declared.numbers.NumTrap.{NumTrap}
use Rattle.k_num.specs.Arithmetic.{value}
use Rattle.k_num.specs.Combining.{combined, is_modular}
use Rattle.k_num.specs.Kind.{width, is_held, converted}
use Rattle.k_num.specs.ArithmeticLaws.{gives_number}
use Rattle.k_num.proofs.ArithmeticLaws.{held_value}
use Rattle.k_num.proofs.Combining.{assigned_is_combined}
use Rattle.k_num.proofs.KindLaws.{held_converted, converted_held, converted-converted}
use Rattle.k_optab.specs.declared.class.Class.{Class}
use Rattle.k_optab.specs.declared.class.Class.TheVariants as class
use Rattle.k_ending.specs.declared.ending.End.TheVariants.{Trapped, OutOfSteps}
use Rattle.k_ending.specs.declared.ending.Trap.TheVariants.{Uninit}
use Rattle.k_ending.specs.Traps.{trap_of}
use Rattle.k_types_meaning.specs.Types.{same_kind}
use Rattle.k_world.specs.declared.act.Act.{Act}
use Rattle.k_world.specs.declared.act.Act.TheVariants as act
use Rattle.k_world.specs.declared.value.Held.{Held}
use Rattle.k_world.specs.declared.value.Read.{Read}
use Rattle.k_world.specs.declared.value.Value.{Value}
use Rattle.k_world.specs.declared.value.Value.TheVariants.{Number}
use Rattle.k_world.specs.Acts.{Given, work, right_kind, then_given}
use Rattle.k_world.specs.Operands.{are_set, values_of, value_before, value_in}
use Rattle.k_world.specs.Operations.{Made, Gives, Ends, operation, acted}
use Rattle.k_world.specs.Worlds.{World}
use Rattle.k_optab.specs.Latencies.{latency}
use Rattle.k_evaluation.specs.declared.operand.Operand.{Operand}
use Rattle.k_evaluation.specs.declared.operand.Operand.TheVariants.{Constant, Holding, Register}
use Rattle.k_evaluation.specs.States.{Program, State, Outcome, Goes, Stops, Part, follow, ◌>>=◌, gives, held_by, read, made, makes, computes}
use Rattle.k_evaluation.specs.Operators.{converts, binary_on, class_of}
use Rattle.k_evaluation.specs.Assignments.{converts_between, converts_side, converts_back, side_kind, combined as combines}

-- what is in a result that is fine
pub in_ok : {A E : Type 0} (a b : A) → ◌≡◌ {A = Result A E} (Ok a) (Ok b) → a ≡ b
in_ok {A = A} {E = E} a b is = ap (λ (r : Result A E). or_else r) is
  where
    or_else : Result A E → A
    or_else (Ok x) = x
    or_else (Err e) = a

-- what an operand holds, by what the variables hold
abbrev pub slot_in : List (Option Held) → Operand → Option Held
slot_in vars (Constant v) = Some (record { value = v; source = None })
slot_in vars (Holding held) = Some held
slot_in vars (Register n broken) = held_by (slice_get vars n)

-- what its value is
abbrev pub value_by : List (Option Held) → Operand → Option Value
value_by vars a = value_in (slot_in vars a)

pub read_slot : (s : State) (a : Operand) → (read s a).slot ≡ slot_in s.vars a
read_slot s (Constant v) = refl
read_slot s (Holding held) = refl
read_slot s (Register n broken) = refl

pub read_value : (s : State) (a : Operand) → value_in (read s a).slot ≡ value_by s.vars a
read_value s a = ap value_in (read_slot s a)

-- AN OPERATION gives the value of its act
abbrev pub GivesWork : Given → Made → Type 0
GivesWork r (Gives held w) = r ≡ Ok held.value
GivesWork r (Ends end w) = Unit {0}

module _ (class : Class) (takes : ℕ) (place : Place) (what : Act) (reads : List Read) (w : World) where
  acted_works : (r : Given) → GivesWork r (acted class takes place what reads w r)
  acted_works (Ok v) = refl
  acted_works (Err t) = tt

  tried_works : (out set : Bool) (r : Given) → GivesWork r (if out then Ends OutOfSteps w else if set then acted class takes place what reads w r else Ends (Trapped Uninit place) w)
  tried_works true set r = tt
  tried_works false true r = acted_works r
  tried_works false false r = tt

  pub operation_works : GivesWork (work what (values_of reads) w) (operation class takes place what reads w)
  unfolding operation
  operation_works = tried_works (nat_eq w.left 0) (are_set reads) (work what (values_of reads) w)

-- the variables stay, and this is what the act gives
abbrev pub MakesValue : State → Given → Outcome Held → Type 0
MakesValue s r (Goes held t) = (t.vars ≡ s.vars) × (r ≡ Ok held.value)
MakesValue s r (Stops end w) = Unit {0}

made_value : (s : State) (r : Given) (m : Made) → GivesWork r m → MakesValue s r (made s m)
made_value s r (Gives held w) works = (refl, works)
made_value s r (Ends end w) works = tt

pub makes_value : (program : Program) (class : Class) (place : Place) (what : Act) (operands : List Operand) (s : State)
    → MakesValue s (work what (values_of (map (read s) operands)) s.world) (makes program class place what operands s)
makes_value program class place what operands s =
    made_value s (work what (values_of (map (read s) operands)) s.world) (operation class (latency program.latencies class) place what (map (read s) operands) s.world)
    (operation_works class (latency program.latencies class) place what (map (read s) operands) s.world)

-- THE VALUES OF OPERANDS
abbrev value_or : Value → Option Value → Value
value_or d None = d
value_or d (Some v) = v

front_value : (slot : Option Held) (v : Value) (rest : List Value) → value_in slot ≡ Some v → value_before slot rest ≡ v ∷ rest
front_value None v rest is = absurd cc
front_value (Some held) v rest is = ap (λ (o : Option Value). value_or v o ∷ rest) is

pub read_front : (s : State) (a : Operand) (v : Value) (rest : List Value) → value_by s.vars a ≡ Some v → value_before (read s a).slot rest ≡ v ∷ rest
read_front s a v rest is = front_value (read s a).slot v rest (read_value s a ∙ is)

pub one_value_is : (s : State) (a : Operand) (v : Value) → value_by s.vars a ≡ Some v → values_of (map (read s) (a ∷ [])) ≡ v ∷ []
one_value_is s a v is = read_front s a v [] is

pub two_values_are : (s : State) (a b : Operand) (v w : Value) → value_by s.vars a ≡ Some v → value_by s.vars b ≡ Some w
    → values_of (map (read s) (a ∷ b ∷ [])) ≡ v ∷ w ∷ []
two_values_are s a b v w is also =
    read_front s a v (values_of (map (read s) (b ∷ []))) is ∙ ap (λ (rest : List Value). v ∷ rest) (one_value_is s b w also)

-- a value before others, where there is one
abbrev pub before_value : Option Value → List Value → List Value
before_value None rest = rest
before_value (Some v) rest = v ∷ rest

pub value_before_is : (slot : Option Held) (rest : List Value) → value_before slot rest ≡ before_value (value_in slot) rest
value_before_is None rest = refl
value_before_is (Some held) rest = refl

-- A PART COMPUTES A NUMBER: where the variables are these, it leaves them so and gives an operand that is a number like this
abbrev pub ComputesAt : List (Option Held) → (ℤ → Type 0) → Outcome Operand → Type 0
ComputesAt vars P (Goes a t) = (t.vars ≡ vars) × (z : ℤ) × (value_by vars a ≡ Some (Number z)) × P z
ComputesAt vars P (Stops end w) = Unit {0}

abbrev pub Computes : List (Option Held) → (ℤ → Type 0) → Part Operand → Type 0
Computes vars P part = (s : State) → s.vars ≡ vars → ComputesAt vars P (part s)

pub computes_gives : (vars : List (Option Held)) (P : ℤ → Type 0) (a : Operand) (z : ℤ) → value_by vars a ≡ Some (Number z) → P z → Computes vars P (gives a)
computes_gives vars P a z is p s same = (same, z, is, p)

-- a part behind a number
computes_follow : (vars : List (Option Held)) (P Q : ℤ → Type 0) (o : Outcome Operand) (next : Operand → Part Operand) → ComputesAt vars P o
    → ((a : Operand) (z : ℤ) → value_by vars a ≡ Some (Number z) → P z → Computes vars Q (next a)) → ComputesAt vars Q (follow o next)
computes_follow vars P Q (Goes a t) next h k = k a h.1 h.2 h.3 t h.0
computes_follow vars P Q (Stops end w) next h k = tt

pub computes_behind : (vars : List (Option Held)) (P Q : ℤ → Type 0) (part : Part Operand) (next : Operand → Part Operand) → Computes vars P part
    → ((a : Operand) (z : ℤ) → value_by vars a ≡ Some (Number z) → P z → Computes vars Q (next a)) → Computes vars Q (part >>= next)
computes_behind vars P Q part next first second s same = computes_follow vars P Q (part s) next (first s same) second

-- what is computed in one way is in each that follows from it
so_at : (vars : List (Option Held)) (P Q : ℤ → Type 0) (o : Outcome Operand) → ((z : ℤ) → P z → Q z) → ComputesAt vars P o → ComputesAt vars Q o
so_at vars P Q (Goes a t) from h = (h.0, h.1, h.2, from h.1 h.3)
so_at vars P Q (Stops end w) from h = tt

pub computes_so : (vars : List (Option Held)) (P Q : ℤ → Type 0) (part : Part Operand) → ((z : ℤ) → P z → Q z) → Computes vars P part → Computes vars Q part
computes_so vars P Q part from h s same = so_at vars P Q (part s) from (h s same)

-- an operation that gives a number
held_computes : (vars : List (Option Held)) (P : ℤ → Type 0) (s : State) (r : Given) (o : Outcome Held) → s.vars ≡ vars → MakesValue s r o
    → ((v : Value) → r ≡ Ok v → (z : ℤ) × (v ≡ Number z) × P z) → ComputesAt vars P (follow o (λ held. gives (Holding held)))
held_computes vars P s r (Goes held t) same h from = let found = from held.value h.1 in (h.0 ∙ same, found.0, ap Some found.1, found.2)
held_computes vars P s r (Stops end w) same h from = tt

pub computes_number : (vars : List (Option Held)) (P : ℤ → Type 0) (program : Program) (class : Class) (place : Place) (what : Act) (operands : List Operand)
    → ((s : State) → s.vars ≡ vars → (v : Value) → work what (values_of (map (read s) operands)) s.world ≡ Ok v → (z : ℤ) × (v ≡ Number z) × P z)
    → Computes vars P (computes program class place what operands)
computes_number vars P program class place what operands from s same =
    held_computes vars P s (work what (values_of (map (read s) operands)) s.world) (makes program class place what operands s) same
    (makes_value program class place what operands s) (from s same)

-- what an operand's value is where the variables are these
at_vars : (vars : List (Option Held)) (s : State) (a : Operand) (v : Value) → s.vars ≡ vars → value_by vars a ≡ Some v → value_by s.vars a ≡ Some v
at_vars vars s a v same is = subst (λ (us : List (Option Held)). value_by us a ≡ Some v) (sym same) is

-- A CONVERSION
convert_work : (kind : Kind) (z : ℤ) (w : World) → work (act.Convert kind) (Number z ∷ []) w ≡ Ok (Number (converted kind z))
unfolding work
convert_work kind z w = refl

-- the value of a conversion that was made
pub converted_value : (s : State) (kind : Kind) (a : Operand) (z : ℤ) (v : Value) → value_by s.vars a ≡ Some (Number z)
    → work (act.Convert kind) (values_of (map (read s) (a ∷ []))) s.world ≡ Ok v → v ≡ Number (converted kind z)
converted_value s kind a z v is gave =
    sym (in_ok (Number (converted kind z)) v (sym (convert_work kind z s.world)
    ∙ (ap (λ (vs : List Value). work (act.Convert kind) vs s.world) (sym (one_value_is s a (Number z) is)) ∙ gave)))

pub converts_number : (vars : List (Option Held)) (program : Program) (place : Place) (kind : Kind) (a : Operand) (z : ℤ) → value_by vars a ≡ Some (Number z)
    → Computes vars (λ y. y ≡ converted kind z) (converts program place (Some kind) a)
converts_number vars program place kind a z is =
    computes_number vars (λ y. y ≡ converted kind z) program class.Conv place (act.Convert kind) (a ∷ [])
    (λ s same v gave. (converted kind z, converted_value s kind a z v (at_vars vars s a (Number z) same is) gave, refl))

-- A BINARY OPERATION
binary_given : (r : Result ℤ NumTrap) (v : Value) → then_given trap_of Number r ≡ Ok v → (y : ℤ) × (v ≡ Number y) × (r ≡ Ok y)
binary_given (Ok y) v is = (y, sym (in_ok (Number y) v is), refl)
binary_given (Err t) v is = absurd cc

pub binary_works : (op : Bin) (kind : Kind) (a b : ℤ) (w : World) (v : Value) → work (act.Binary op kind) (Number a ∷ Number b ∷ []) w ≡ Ok v
    → (y : ℤ) × (v ≡ Number y) × (value op kind (converted kind a) (converted (right_kind op kind) b) ≡ Ok y)
unfolding work
binary_works op kind a b w v is = binary_given (value op kind (converted kind a) (converted (right_kind op kind) b)) v is

pub binary_number : (vars : List (Option Held)) (program : Program) (place : Place) (op : Bin) (kind : Kind) (a b : Operand) (x y : ℤ)
    → value_by vars a ≡ Some (Number x) → value_by vars b ≡ Some (Number y)
    → Computes vars (λ z. value op kind (converted kind x) (converted (right_kind op kind) y) ≡ Ok z) (binary_on program place op kind a b)
binary_number vars program place op kind a b x y is also =
    computes_number vars (λ z. value op kind (converted kind x) (converted (right_kind op kind) y) ≡ Ok z) program (class_of op) place (act.Binary op kind) (a ∷ b ∷ [])
    (λ s same v gave. binary_works op kind x y s.world v
    (ap (λ (vs : List Value). work (act.Binary op kind) vs s.world)
    (sym (two_values_are s a b (Number x) (Number y) (at_vars vars s a (Number x) same is) (at_vars vars s b (Number y) same also))) ∙ gave))

-- AN OPERATOR THAT COMBINES MODULO 2^n converts both operands to its kind
pub modular_side : (op : Bin) (kind : Kind) (from : Option Kind) → is_modular op ≡ true → side_kind op kind from ≡ kind
modular_side Shl kind from is = absurd cc
modular_side Shr kind from is = absurd cc
modular_side _ kind from is = refl

pub modular_right : (op : Bin) (kind : Kind) → is_modular op ≡ true → right_kind op kind ≡ kind
modular_right Shl kind is = absurd cc
modular_right Shr kind is = absurd cc
modular_right _ kind is = refl

modular_number : (op : Bin) → is_modular op ≡ true → gives_number op ≡ true
modular_number Add is = refl
modular_number Sub is = refl
modular_number Mul is = refl
modular_number And is = refl
modular_number Or is = refl
modular_number Xor is = refl
modular_number _ is = absurd cc

pub one_kind : (a b : Kind) → same_kind a b ≡ true → a ≡ b
one_kind I8 I8 is = refl
one_kind U8 U8 is = refl
one_kind I16 I16 is = refl
one_kind U16 U16 is = refl
one_kind I32 I32 is = refl
one_kind U32 U32 is = refl
one_kind I64 I64 is = refl
one_kind U64 U64 is = refl
one_kind _ _ is = absurd cc

-- a value of one kind in another
pub between_number : (vars : List (Option Held)) (program : Program) (place : Place) (from to : Kind) (a : Operand) (z : ℤ) → value_by vars a ≡ Some (Number z)
    → Computes vars (λ y. converted to y ≡ converted to z) (converts_between program place from to a)
between_number vars program place from to a z is = by (same_kind from to)
  where
    by : (b : Bool) → Computes vars (λ y. converted to y ≡ converted to z) (if b then gives a else converts program place (Some to) a)
    by true = computes_gives vars (λ y. converted to y ≡ converted to z) a z is refl
    by false =
        computes_so vars (λ y. y ≡ converted to z) (λ y. converted to y ≡ converted to z) (converts program place (Some to) a)
        (λ y h. ap (converted to) h ∙ converted-converted to z) (converts_number vars program place to a z is)

pub side_number : (vars : List (Option Held)) (program : Program) (place : Place) (from : Option Kind) (to : Kind) (a : Operand) (z : ℤ) → value_by vars a ≡ Some (Number z)
    → Computes vars (λ y. converted to y ≡ converted to z) (converts_side program place from to a)
side_number vars program place None to a z is = computes_gives vars (λ y. converted to y ≡ converted to z) a z is refl
side_number vars program place (Some from) to a z is = between_number vars program place from to a z is

-- A VALUE IN A KIND THAT IS NO WIDER is what the operator combines there
ok_is : {A E : Type 0} (P : A → Type 0) (r : Result A E) (a : A) → IfOk r P → r ≡ Ok a → P a
ok_is {A = A} {E = E} P r a h is = subst (λ (q : Result A E). IfOk q P) is h

-- a value of the same kind needs no conversion
pub value_kept : (op : Bin) (kind wide : Kind) (x y z : ℤ) → is_modular op ≡ true → wide ≡ kind → value op wide (converted wide x) (converted wide y) ≡ Ok z
    → converted kind z ≡ z
value_kept op kind wide x y z modular same is =
    converted_held kind z (subst (λ (k : Kind). IsTrue (is_held k z)) same
    (ok_is (λ v. IsTrue (is_held wide v)) (value op wide (converted wide x) (converted wide y)) z
    (held_value op wide (converted wide x) (converted wide y) (modular_number op modular) (held_converted wide x)) is))

pub value_combined : (op : Bin) (kind wide : Kind) (x y z : ℤ) → is_modular op ≡ true → width kind ≤ width wide → value op wide (converted wide x) (converted wide y) ≡ Ok z
    → converted kind z ≡ combined op kind x y
value_combined op kind wide x y z modular wider is =
    ok_is (λ v. converted kind v ≡ combined op kind x y) (value op wide (converted wide x) (converted wide y)) z (assigned_is_combined op kind wide x y modular wider) is

-- a result, brought back to the kind of its place
back_number : (vars : List (Option Held)) (program : Program) (place : Place) (op : Bin) (kind wide : Kind) (a : Operand) (x y z : ℤ) → is_modular op ≡ true
    → width kind ≤ width wide → value_by vars a ≡ Some (Number z) → value op wide (converted wide x) (converted wide y) ≡ Ok z
    → Computes vars (λ v. v ≡ combined op kind x y) (converts_between program place wide kind a)
back_number vars program place op kind wide a x y z modular wider holds is = by (same_kind wide kind) refl
  where
    whole : converted kind z ≡ combined op kind x y
    whole = value_combined op kind wide x y z modular wider is

    by : (b : Bool) → same_kind wide kind ≡ b → Computes vars (λ v. v ≡ combined op kind x y) (if b then gives a else converts program place (Some kind) a)
    by true same = computes_gives vars (λ v. v ≡ combined op kind x y) a z holds (sym (value_kept op kind wide x y z modular (one_kind wide kind same) is) ∙ whole)
    by false same =
        computes_so vars (λ v. v ≡ converted kind z) (λ v. v ≡ combined op kind x y) (converts program place (Some kind) a) (λ v h. h ∙ whole)
        (converts_number vars program place kind a z holds)

-- the operation of a change, with the conversions of both sides and of the result
pub combines_number : (vars : List (Option Held)) (program : Program) (place : Place) (op : Bin) (kind wide : Kind) (by_of : Option Kind) (old by : Operand) (x y : ℤ)
    → is_modular op ≡ true → width kind ≤ width wide → value_by vars old ≡ Some (Number x) → value_by vars by ≡ Some (Number y)
    → Computes vars (λ v. v ≡ combined op kind x y) (combines program place op wide (Some kind) by_of old by)
combines_number vars program place op kind wide by_of old by x y modular wider is also =
    let back : Operand → Part Operand = converts_back program place wide (Some kind) in
    let Whole : ℤ → Type 0 = (λ v. v ≡ combined op kind x y) in
    computes_behind vars (λ a. converted wide a ≡ converted wide x) Whole (converts_side program place (Some kind) wide old)
    (λ a. converts_side program place by_of (side_kind op wide by_of) by >>= λ b. binary_on program place op wide a b >>= back)
    (side_number vars program place (Some kind) wide old x is)
    (λ a x1 holds_a same_a. computes_behind vars (λ b. converted wide b ≡ converted wide y) Whole (converts_side program place by_of (side_kind op wide by_of) by)
    (λ b. binary_on program place op wide a b >>= back)
    (subst (λ (k : Kind). Computes vars (λ b. converted wide b ≡ converted wide y) (converts_side program place by_of k by)) (sym (modular_side op wide by_of modular))
    (side_number vars program place by_of wide by y also))
    (λ b y1 holds_b same_b. computes_behind vars (λ v. value op wide (converted wide x1) (converted (right_kind op wide) y1) ≡ Ok v) Whole
    (binary_on program place op wide a b) back
    (binary_number vars program place op wide a b x1 y1 holds_a holds_b)
    (λ v z holds_v gave. back_number vars program place op kind wide v x y z modular wider holds_v
    (ap (λ (k : ℤ). value op wide k (converted wide y)) (sym same_a)
    ∙ (ap (λ (k : ℤ). value op wide (converted wide x1) k) (sym same_b)
    ∙ (ap (λ (k : Kind). value op wide (converted wide x1) (converted k y1)) (sym (modular_right op wide modular)) ∙ gave))))))
