-- Believed with a public law.
-- What holds of the values of the operators, whatever the operands: the statements of the laws.
use Rattle.std.specs.Prelude.{◌⊎◌, Bool, true, false, IsTrue, IfOk, ◌≡◌, ℤ, pos, neg_ℤ, Result, Ok}
use Rattle.k_num.specs.declared.numbers.Kind.{Kind}
use Rattle.k_num.specs.declared.numbers.Bin.{Bin}
use Rattle.k_num.specs.declared.numbers.Bin.TheVariants.{Lt, Le, Gt, Ge, Eq, Ne, LogAnd, LogOr}
use Rattle.k_num.specs.declared.numbers.Un.TheVariants.{Neg, Complement, Not}
use Rattle.k_num.specs.declared.numbers.NumTrap.{NumTrap}
use Rattle.k_num.specs.Kind.{is_held, converted}
use Rattle.k_num.specs.Arithmetic.{exact, value, unary_value}

-- the operator's results are numbers of the operands' kind, and not 0 or 1 for a test (6.5.8p6, 6.5.9p3, 6.5.13p3, 6.5.14p3)
abbrev pub gives_number : Bin → Bool
gives_number Lt = false
gives_number Le = false
gives_number Gt = false
gives_number Ge = false
gives_number Eq = false
gives_number Ne = false
gives_number LogAnd = false
gives_number LogOr = false
gives_number op = true

-- a number is 0 or 1
abbrev pub IsTruth : ℤ → Type 0
IsTruth z = (z ≡ pos 0) ⊎ (z ≡ pos 1)

-- an operation has a value, which is 0 or 1
abbrev pub AnswersTruth : Result ℤ NumTrap → Type 0
AnswersTruth r = (r ≡ Ok (pos 0)) ⊎ (r ≡ Ok (pos 1))

-- the value of each of the first ten operators is a value of the kind
abbrev pub NumberIsHeld : Type 0
NumberIsHeld = (op : Bin) (kind : Kind) (a b : ℤ) → gives_number op ≡ true → IsTrue (is_held kind a)
    → IfOk (value op kind a b) (λ z. IsTrue (is_held kind z))

-- it is the exact result, converted to the kind: the one value of the kind that equals the exact result modulo 2^n
abbrev pub NumberIsConverted : Type 0
NumberIsConverted = (op : Bin) (kind : Kind) (a b : ℤ) → gives_number op ≡ true → IsTrue (is_held kind a)
    → IfOk (value op kind a b) (λ z. z ≡ converted kind (exact op kind a b))

-- comparisons and logical operators never trap, and give 0 or 1
abbrev pub TestAnswersTruth : Type 0
TestAnswersTruth = (op : Bin) (kind : Kind) (a b : ℤ) → gives_number op ≡ false → AnswersTruth (value op kind a b)

-- the value of `-` is a value of the kind
abbrev pub NegatedIsHeld : Type 0
NegatedIsHeld = (kind : Kind) (a : ℤ) → IfOk (unary_value Neg kind a) (λ z. IsTrue (is_held kind z))

-- it is the negated number, converted to the kind
abbrev pub NegatedIsConverted : Type 0
NegatedIsConverted = (kind : Kind) (a : ℤ) → IfOk (unary_value Neg kind a) (λ z. z ≡ converted kind (neg_ℤ a))

-- the value of `~` is a value of the kind
abbrev pub ComplementIsHeld : Type 0
ComplementIsHeld = (kind : Kind) (a : ℤ) → IfOk (unary_value Complement kind a) (λ z. IsTrue (is_held kind z))

-- `!` never traps, and gives 0 or 1
abbrev pub NotAnswersTruth : Type 0
NotAnswersTruth = (kind : Kind) (a : ℤ) → AnswersTruth (unary_value Not kind a)
