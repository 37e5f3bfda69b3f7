-- What the values of the operators are.
use Rattle.std.specs.Prelude.{ℕ, zero, suc, ◌-◌, ◌/◌, ◌%◌, ◌^◌, ◌<◌, ◌≤◌, Bool, true, false, ◌&&◌, not, if◌then◌else◌, IsTrue, IfOk, ◌≡◌, refl, ℤ, pos, negsuc, neg_ℤ, int_rem, unsigned_abs, bit_and, bit_or, bit_xor, Result, Ok, Err}
use Rattle.std.proofs.Common.{arith, sym, ap, subst, inl, inr}
use Rattle.std.proofs.Math.Nat.{div-le_self, mod-le}
use Rattle.std.proofs.lemmas.Int.{ints, quot-rem}
use Rattle.std.proofs.lemmas.Nat.{or_lt, xor_lt}
use Rattle.k_num.specs.declared.numbers.Kind.{Kind}
use Rattle.k_num.specs.declared.numbers.Kind.TheVariants.{I8, U8, I16, U16, I32, U32, I64, U64}
use Rattle.k_num.specs.declared.numbers.Bin.{Bin}
use Rattle.k_num.specs.declared.numbers.Bin.TheVariants.{Add, Sub, Mul, Div, Rem, And, Or, Xor, Shl, Shr, Lt, Le, Gt, Ge, Eq, Ne, LogAnd, LogOr}
use Rattle.k_num.specs.declared.numbers.Un.TheVariants.{Not}
use Rattle.k_num.specs.declared.numbers.NumTrap.{NumTrap}
use Rattle.k_num.specs.declared.numbers.NumTrap.TheVariants.{Overflow, DivideByZero, Shift}
use Rattle.k_num.specs.Kind.{width, is_signed, is_held, remainder, converted}
use Rattle.k_num.specs.ArithmeticLaws.{gives_number, IsTruth, AnswersTruth, NumberIsConverted, NumberIsHeld, TestAnswersTruth, NegatedIsHeld, ComplementIsHeld, NotAnswersTruth, NegatedIsConverted}
use Rattle.k_num.proofs.OnBits.{and_below}
use Rattle.k_num.proofs.KindLaws.{zero_held, remainder_below, remainder_converted, held_value_of_bits, held_converted, converted_held}
use Rattle.k_num.specs.Arithmetic.{exact, on_bits, given, value, unary_value, truth, is_zero, is_distance, can_shift_left, CanBeRight}

-- a number between 0 and a value of a kind is a value of it
below_held : (kind : Kind) (m n : ℕ) → m ≤ n → IsTrue (is_held kind (pos n)) → IsTrue (is_held kind (pos m))
below_held I8 m n l h = grind (arith, ints)
below_held U8 m n l h = grind (arith, ints)
below_held I16 m n l h = grind (arith, ints)
below_held U16 m n l h = grind (arith, ints)
below_held I32 m n l h = grind (arith, ints)
below_held U32 m n l h = grind (arith, ints)
below_held I64 m n l h = grind (arith, ints)
below_held U64 m n l h = grind (arith, ints)

above_held : (kind : Kind) (m n : ℕ) → m ≤ n → IsTrue (is_held kind (negsuc n)) → IsTrue (is_held kind (negsuc m))
above_held I8 m n l h = grind (arith, ints)
above_held U8 m n l h = grind (arith, ints)
above_held I16 m n l h = grind (arith, ints)
above_held U16 m n l h = grind (arith, ints)
above_held I32 m n l h = grind (arith, ints)
above_held U32 m n l h = grind (arith, ints)
above_held I64 m n l h = grind (arith, ints)
above_held U64 m n l h = grind (arith, ints)

rest_of : (m n : ℕ) (kind : Kind) → m ≤ suc n → IsTrue (is_held kind (negsuc n)) → IsTrue (is_held kind (neg_ℤ (pos m)))
rest_of zero n kind l h = zero_held kind
rest_of (suc m) n kind l h = above_held kind m n (omega arith) h

held_rem : (kind : Kind) (a b : ℤ) → IsTrue (is_held kind a) → IsTrue (is_held kind (int_rem a b))
held_rem kind (pos a) b h = below_held kind (a % unsigned_abs b) a (mod-le a (unsigned_abs b)) h
held_rem kind (negsuc a) b h = rest_of (suc a % unsigned_abs b) a kind (mod-le (suc a) (unsigned_abs b)) h

held_rest : (kind : Kind) (a b : ℤ) → IsTrue (is_held kind a) → IsTrue (is_held kind (exact Rem kind a b))
held_rest kind a b h =
    let same : int_rem a b ≡ exact Rem kind a b = (let split = quot-rem a b in omega (arith, ints)) in
    subst (λ z. IsTrue (is_held kind z)) same (held_rem kind a b h)

held_shr : (kind : Kind) (a b : ℤ) → IsTrue (is_held kind a) → IsTrue (is_held kind (exact Shr kind a b))
held_shr kind (pos a) b h = below_held kind (a / 2 ^ unsigned_abs b) a (div-le_self a (2 ^ unsigned_abs b)) h
held_shr kind (negsuc a) b h = above_held kind (a / 2 ^ unsigned_abs b) a (div-le_self a (2 ^ unsigned_abs b)) h

-- what a kind holds is what it is converted to
stays : (kind : Kind) (z : ℤ) → IsTrue (is_held kind z) → z ≡ converted kind z
stays kind z h = sym (converted_held kind z h)

-- an operation on bits gives a value of the kind
pub held_on_bits : (op : ℕ → ℕ → ℕ) (kind : Kind) (a b : ℤ) → ((x y : ℕ) → x < 2 ^ width kind → y < 2 ^ width kind → op x y < 2 ^ width kind)
    → IsTrue (is_held kind (on_bits op kind a b))
held_on_bits op kind a b below =
    held_value_of_bits kind (op (remainder kind a) (remainder kind b))
    (below (remainder kind a) (remainder kind b) (remainder_below kind a) (remainder_below kind b))

-- a fact of both values of a choice is one of the choice
chosen : (P : Result ℤ NumTrap → Type 0) (t : Bool) (x y : Result ℤ NumTrap) → P x → P y → P (if t then x else y)
chosen P true x y p q = p
chosen P false x y p q = q

-- what a kind gives a number, where it gives one, is the number converted to the kind
pub given_converted : (trap : NumTrap) (kind : Kind) (z : ℤ) → IfOk (given trap kind z) (λ v. v ≡ converted kind z)
given_converted trap kind z = by (is_held kind z) refl (is_signed kind) refl
  where
    by : (h : Bool) → is_held kind z ≡ h → (s : Bool) → is_signed kind ≡ s
        → IfOk (if h then Ok z else if s then Err trap else Ok (pos (remainder kind z))) (λ v. v ≡ converted kind z)
    by true e s f = sym (converted_held kind z e)
    by false e true f = tt
    by false e false f = sym (remainder_converted kind z f)

-- an unsigned kind gives every number its value modulo 2^n
pub given_unsigned : (trap : NumTrap) (kind : Kind) (z : ℤ) → is_signed kind ≡ false → given trap kind z ≡ Ok (converted kind z)
given_unsigned trap kind z u = by (is_held kind z) refl (is_signed kind) u
  where
    by : (h : Bool) → is_held kind z ≡ h → (s : Bool) → s ≡ false
        → ◌≡◌ {A = Result ℤ NumTrap} (if h then Ok z else if s then Err trap else Ok (pos (remainder kind z))) (Ok (converted kind z))
    by true e s f = ap (λ v. Ok v) (sym (converted_held kind z e))
    by false e true f = cc
    by false e false f = ap (λ v. Ok v) (sym (remainder_converted kind z u))

-- the value of each of the first ten operators is the exact result, converted to the kind
pub value_converted : NumberIsConverted
value_converted Add kind a b e h = given_converted Overflow kind (exact Add kind a b)
value_converted Sub kind a b e h = given_converted Overflow kind (exact Sub kind a b)
value_converted Mul kind a b e h = given_converted Overflow kind (exact Mul kind a b)
value_converted Div kind a b e h =
    chosen (λ r. IfOk r (λ z. z ≡ converted kind (exact Div kind a b))) (is_zero b) (Err DivideByZero) (given Overflow kind (exact Div kind a b)) tt
    (given_converted Overflow kind (exact Div kind a b))
value_converted Rem kind a b e h =
    chosen (λ r. IfOk r (λ z. z ≡ converted kind (exact Rem kind a b))) (is_zero b) (Err DivideByZero) _ tt
    (chosen (λ r. IfOk r (λ z. z ≡ converted kind (exact Rem kind a b))) (is_signed kind && not (is_held kind (exact Div kind a b))) (Err Overflow)
    (Ok (exact Rem kind a b)) tt (stays kind (exact Rem kind a b) (held_rest kind a b h)))
value_converted And kind a b e h = stays kind (exact And kind a b) (held_on_bits bit_and kind a b (and_below (width kind)))
value_converted Or kind a b e h = stays kind (exact Or kind a b) (held_on_bits bit_or kind a b (or_lt (width kind)))
value_converted Xor kind a b e h = stays kind (exact Xor kind a b) (held_on_bits bit_xor kind a b (xor_lt (width kind)))
value_converted Shl kind a b e h =
    chosen (λ r. IfOk r (λ z. z ≡ converted kind (exact Shl kind a b))) (can_shift_left kind a b) (given Shift kind (exact Shl kind a b)) (Err Shift)
    (given_converted Shift kind (exact Shl kind a b)) tt
value_converted Shr kind a b e h =
    chosen (λ r. IfOk r (λ z. z ≡ converted kind (exact Shr kind a b))) (is_distance kind b) (Ok (exact Shr kind a b)) (Err Shift)
    (stays kind (exact Shr kind a b) (held_shr kind a b h)) tt
value_converted op kind a b e h = cc

-- a number converted to a kind is a value of it
held_where_converted : (kind : Kind) (exact : ℤ) (r : Result ℤ NumTrap) → IfOk r (λ z. z ≡ converted kind exact) → IfOk r (λ z. IsTrue (is_held kind z))
held_where_converted kind exact (Ok z) e = subst (λ v. IsTrue (is_held kind v)) (sym e) (held_converted kind exact)
held_where_converted kind exact (Err trap) e = tt

-- so it is a value of the kind
pub held_value : NumberIsHeld
held_value op kind a b e h = held_where_converted kind (exact op kind a b) (value op kind a b) (value_converted op kind a b e h)

-- and so is what a kind gives a number
pub held_given : (trap : NumTrap) (kind : Kind) (z : ℤ) → IfOk (given trap kind z) (λ v. IsTrue (is_held kind v))
held_given trap kind z = held_where_converted kind z (given trap kind z) (given_converted trap kind z)

truth_is : (t : Bool) → AnswersTruth (Ok (truth t))
truth_is true = inr refl
truth_is false = inl refl

-- each of the last eight operators has the value 0 or 1
pub test_value : TestAnswersTruth
test_value Lt kind a b e = truth_is _
test_value Le kind a b e = truth_is _
test_value Gt kind a b e = truth_is _
test_value Ge kind a b e = truth_is _
test_value Eq kind a b e = truth_is _
test_value Ne kind a b e = truth_is _
test_value LogAnd kind a b e = truth_is _
test_value LogOr kind a b e = truth_is _
test_value op kind a b e = cc

answered_truth : (r : Result ℤ NumTrap) → AnswersTruth r → IfOk r IsTruth
answered_truth r (inl e) = subst (λ r. IfOk r IsTruth) (sym e) (inl refl)
answered_truth r (inr e) = subst (λ r. IfOk r IsTruth) (sym e) (inr refl)

-- the same, of a value that is known
pub truth_value : (op : Bin) (kind : Kind) (a b : ℤ) → gives_number op ≡ false → IfOk (value op kind a b) IsTruth
truth_value op kind a b e = answered_truth (value op kind a b) (test_value op kind a b e)

-- the value of `-` and of `~` is a value of the kind, and that of `!` is 0 or 1
pub negated_converted : NegatedIsConverted
negated_converted kind a = given_converted Overflow kind (neg_ℤ a)

pub held_negated : NegatedIsHeld
held_negated kind a = held_given Overflow kind (neg_ℤ a)

pub held_complement : ComplementIsHeld
held_complement kind a =
    held_value_of_bits kind (2 ^ width kind - 1 - remainder kind a) (let below = remainder_below kind a in omega arith)

pub not_value : NotAnswersTruth
not_value kind a = truth_is (is_zero a)

pub truth_not : (kind : Kind) (a : ℤ) → IfOk (unary_value Not kind a) IsTruth
truth_not kind a = answered_truth (unary_value Not kind a) (not_value kind a)

-- the right operand of every operator may be a value of the kind
pub can_be_right : (op : Bin) (kind : Kind) (b : ℤ) → IsTrue (is_held kind b) → CanBeRight op kind b
can_be_right Shl kind b h = (kind, h)
can_be_right Shr kind b h = (kind, h)
can_be_right op kind b h = h
