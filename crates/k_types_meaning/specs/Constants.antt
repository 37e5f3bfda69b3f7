-- Believed with the theorem on the top call.
-- Integer constant expressions (C17 6.6p6), over typed expressions.
use Rattle.std.specs.Prelude.{Bool, true, false, ◌&&◌, if◌then◌else◌, ℤ, pos, Option, Some, None, Result, Ok, Err}
use Rattle.k_num.specs.declared.numbers.NumTrap.{NumTrap}
use Rattle.k_num.specs.Arithmetic.{value, unary_value, is_zero}
use Rattle.k_num.specs.Kind.{converted}
use Rattle.k_types_meaning.specs.declared.types.TType.{TType}
use Rattle.k_types_meaning.specs.declared.types.TType.TheVariants as ttype
use Rattle.k_types_meaning.specs.declared.tree.expression.TExpr.{TExpr, fold-TExpr}
use Rattle.k_types_meaning.specs.declared.tree.expression.TExpr.TheOpen.{TExpr-F}

-- the type is that of a number
abbrev pub is_number : TType → Bool
is_number ttype.Void = false
is_number (ttype.Number kind) = true
is_number (ttype.Pointer target) = false

-- an expression whose operands are of the form of integer constant expressions or not: it is, where it is built of numbers,
-- casts to kinds, `+ - ~ !`, the 18 binary operators and `?:`
abbrev pub form_step : TExpr-F Bool → Bool
form_step (TExpr-F.Number node n) = true
form_step (TExpr-F.Plus node e) = e
form_step (TExpr-F.Unary node op kind e) = e
form_step (TExpr-F.Convert node e) = e
form_step (TExpr-F.Cast node e) = e && is_number node.of
form_step (TExpr-F.Binary node op kind left right) = left && right
form_step (TExpr-F.Both node left right) = left && right
form_step (TExpr-F.Either node left right) = left && right
form_step (TExpr-F.Cond node test first second) = test && (first && (second && is_number node.of))
form_step _ = false

-- C17 6.6p6: the expression is of the form of an integer constant expression, also on a side that is not evaluated
abbrev pub has_form : TExpr → Bool
has_form = fold-TExpr Bool form_step

-- what an operation gives, none where it traps
abbrev pub untrapped : Result ℤ NumTrap → Option ℤ
untrapped (Ok z) = Some z
untrapped (Err trap) = None

-- a function of one value, none where there is none
abbrev pub with_one : Option ℤ → (ℤ → Option ℤ) → Option ℤ
with_one None next = None
with_one (Some a) next = next a

-- a function of two values, none where one of them is none
abbrev pub with_two : Option ℤ → Option ℤ → (ℤ → ℤ → Option ℤ) → Option ℤ
with_two a b next = with_one a (λ x. with_one b (next x))

-- a value in the kind of a type
abbrev pub in_type : TType → ℤ → Option ℤ
in_type ttype.Void a = None
in_type (ttype.Number kind) a = Some (converted kind a)
in_type (ttype.Pointer target) a = None

-- 0 or 1, by whether a value is 0
abbrev pub truth_of : ℤ → Option ℤ
truth_of a = if is_zero a then Some (pos 0) else Some (pos 1)

-- C17 6.6, 6.5.13p4, 6.5.14p4, 6.5.15p4: the value of an expression whose operands have values: a trap gives none, and sides that
-- `&&`, `||` and `?:` skip need none
abbrev pub value_step : TExpr-F (Option ℤ) → Option ℤ
value_step (TExpr-F.Number node n) = Some n
value_step (TExpr-F.Plus node a) = a
value_step (TExpr-F.Unary node op kind a) = with_one a (λ x. untrapped (unary_value op kind x))
value_step (TExpr-F.Convert node a) = with_one a (in_type node.of)
value_step (TExpr-F.Cast node a) = with_one a (in_type node.of)
value_step (TExpr-F.Binary node op kind a b) = with_two a b (λ x y. untrapped (value op kind x y))
value_step (TExpr-F.Both node a b) = with_one a (λ x. if is_zero x then Some (pos 0) else with_one b truth_of)
value_step (TExpr-F.Either node a b) = with_one a (λ x. if is_zero x then with_one b truth_of else Some (pos 1))
value_step (TExpr-F.Cond node test a b) = with_one test (λ x. if is_zero x then b else a)
value_step _ = None

-- the value of an expression of that form, none where a trap leaves none
abbrev pub value_of : TExpr → Option ℤ
value_of = fold-TExpr (Option ℤ) value_step

-- C17 6.6p6: the value of an integer constant expression, and none of any other expression
unfoldable pub constant : TExpr → Option ℤ
constant e = if has_form e then value_of e else None
