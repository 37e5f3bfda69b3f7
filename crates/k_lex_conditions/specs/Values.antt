-- Believed with a public law.
-- The value of a condition (C17 6.10.1p4): every number is a signed or an unsigned one of 64 bits.
use Rattle.std.specs.Prelude.{ℕ, ◌^◌, ◌&&◌, not, nat_lt, nat_eq, if◌then◌else◌, ℤ, pos, List, [], ◌∷◌, Option, Some, None, Result, Ok, Err}
use Rattle.std.specs.Cmp.Lexicographic.{pointwise}
use Rattle.k_num.specs.declared.numbers.Kind.{Kind}
use Rattle.k_num.specs.declared.numbers.Kind.TheVariants.{I64, U64}
use Rattle.k_num.specs.declared.numbers.Bin.{Bin}
use Rattle.k_num.specs.declared.numbers.Bin.TheVariants.{Shl, Shr, Lt, Le, Gt, Ge, Eq, Ne, LogAnd, LogOr}
use Rattle.k_num.specs.declared.numbers.Un.{Un}
use Rattle.k_num.specs.declared.numbers.Un.TheVariants.{Neg, Complement, Not}
use Rattle.k_num.specs.declared.numbers.NumTrap.{NumTrap}
use Rattle.k_num.specs.Kind.{is_signed, converted, common_kind}
use Rattle.k_num.specs.Arithmetic.{truth, is_zero, value as value_in, unary_value}
use Rattle.k_tree.specs.declared.tokens.TokenKind.{TokenKind}
use Rattle.k_tree.specs.declared.tokens.TokenKind.TheVariants as token
use Rattle.k_tree.specs.declared.tokens.mark.Mark.{Mark}
use Rattle.k_tree.specs.declared.tokens.mark.Mark.TheVariants as mark
use Rattle.k_tree.specs.Operators.{operator_of}
use Rattle.k_lex_conditions.specs.declared.value.Value.{Value}
use Rattle.k_lex_conditions.specs.declared.value.Known.{Known}
use Rattle.k_lex_conditions.specs.Trees.{Tree, operand, enclosed, sign, operation, choice}

-- a value of this kind, or none
abbrev pub of_kind : Kind → Option ℤ → Value
of_kind kind number = record { kind = kind; number = number }

-- a signed number
abbrev pub signed : ℤ → Value
signed z = of_kind I64 (Some z)

-- the kind of a constant: unsigned where its token says so, or where no signed number is so great
abbrev pub constant_kind : Kind → ℕ → Kind
constant_kind kind n = if is_signed kind && nat_lt n (2 ^ 63) then I64 else U64

-- a name stands for the value that is known of it, any other for 0 (6.10.1p4)
abbrev pub value_of_name : List Known → List ℕ → Value
value_of_name [] name = signed (pos 0)
value_of_name (known ∷ names) name = if pointwise nat_eq known.name name then known.value else value_of_name names name

-- the value of an operand; a keyword is a name
abbrev pub operand_value : List Known → TokenKind → Value
operand_value names (token.Number kind n) = of_kind (constant_kind kind n) (Some (pos n))
operand_value names (token.Char z) = signed z
operand_value names (token.Name name) = value_of_name names name
operand_value names _ = signed (pos 0)

-- the number that an operation gives, none where it traps
abbrev pub untrapped : Result ℤ NumTrap → Option ℤ
untrapped (Ok z) = Some z
untrapped (Err trap) = None

-- a unary operation on a number of a kind, if there is one (6.5.3.3)
abbrev pub unary_number : Un → Kind → Option ℤ → Option ℤ
unary_number op kind None = None
unary_number op kind (Some z) = untrapped (unary_value op kind (converted kind z))

-- an operator before its operand (6.5.3.3): `!` gives an int
abbrev pub prefixed : Mark → Value → Value
prefixed mark.Minus a = of_kind a.kind (unary_number Neg a.kind a.number)
prefixed mark.Tilde a = of_kind a.kind (unary_number Complement a.kind a.number)
prefixed mark.Exclaim a = of_kind I64 (unary_number Not a.kind a.number)
prefixed _ a = a

-- the kind that an operation is made in, of its operands' kinds: of a shift it is the left one's (6.3.1.8, 6.5.7p3)
abbrev pub made_in : Bin → Kind → Kind → Kind
made_in Shl a b = a
made_in Shr a b = a
made_in op a b = common_kind a b

-- the kind that the right operand is converted to, of the kind that the operation is made in and its own: the distance of a shift keeps its own
abbrev pub right_in : Bin → Kind → Kind → Kind
right_in Shl kind own = own
right_in Shr kind own = own
right_in op kind own = kind

-- the kind of what an operation gives that is made in this one: a comparison gives an int (6.5.8p6, 6.5.9p3)
abbrev pub given_kind : Bin → Kind → Kind
given_kind Lt kind = I64
given_kind Le kind = I64
given_kind Gt kind = I64
given_kind Ge kind = I64
given_kind Eq kind = I64
given_kind Ne kind = I64
given_kind op kind = kind

-- the number of a binary operation on numbers of these kinds, if both are there
abbrev pub binary_number : Bin → Kind → Kind → Option ℤ → Option ℤ → Option ℤ
binary_number op a b (Some x) (Some y) =
    untrapped (value_in op (made_in op a b) (converted (made_in op a b) x) (converted (right_in op (made_in op a b) b) y))
binary_number op a b _ _ = None

-- a binary operation other than `&&` and `||`
abbrev pub binary_value : Bin → Value → Value → Value
binary_value op a b = of_kind (given_kind op (made_in op a.kind b.kind)) (binary_number op a.kind b.kind a.number b.number)

-- 1 where a number is not 0, else 0
abbrev pub truth_number : Option ℤ → Option ℤ
truth_number None = None
truth_number (Some z) = Some (truth (not (is_zero z)))

-- `&&`: where the left operand is 0 the right one is not evaluated (6.5.13p4)
abbrev pub both_number : Option ℤ → Option ℤ → Option ℤ
both_number None b = None
both_number (Some a) b = if is_zero a then Some (pos 0) else truth_number b

-- `||`: where the left operand is not 0 the right one is not evaluated (6.5.14p4)
abbrev pub either_number : Option ℤ → Option ℤ → Option ℤ
either_number None b = None
either_number (Some a) b = if is_zero a then truth_number b else Some (pos 1)

-- a binary operation
abbrev pub infixed_by : Option Bin → Value → Value → Value
infixed_by None a b = a
infixed_by (Some LogAnd) a b = of_kind I64 (both_number a.number b.number)
infixed_by (Some LogOr) a b = of_kind I64 (either_number a.number b.number)
infixed_by (Some op) a b = binary_value op a b

-- a mark between its operands
abbrev pub infixed : Mark → Value → Value → Value
infixed op a b = infixed_by (operator_of op) a b

-- a number in this kind, if there is one
abbrev pub number_in : Kind → Option ℤ → Option ℤ
number_in kind None = None
number_in kind (Some z) = Some (converted kind z)

-- the number of the one operand that is evaluated, by the number of the test (6.5.15p4)
abbrev pub chosen_number : Option ℤ → Option ℤ → Option ℤ → Option ℤ
chosen_number None a b = None
chosen_number (Some z) a b = if is_zero z then b else a

-- `test ? a : b`, in the common kind of a and b (6.5.15p5)
abbrev pub chosen : Value → Value → Value → Value
chosen test a b = of_kind (common_kind a.kind b.kind)
    (number_in (common_kind a.kind b.kind) (chosen_number test.number a.number b.number))

-- the value of a tree, where these names are known
abbrev pub value : List Known → Tree → Value
value names (operand t) = operand_value names t
value names (enclosed a) = value names a
value names (sign op a) = prefixed op (value names a)
value names (operation op a b) = infixed op (value names a) (value names b)
value names (choice a b c) = chosen (value names a) (value names b) (value names c)
