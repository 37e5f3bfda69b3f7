-- Believed with the theorem on the top call.
-- The rows of operators: conversions, arithmetic, comparisons, `&&`, `||`, `?:` and the comma (C17 6.5.3 to 6.5.17).
use Rattle.std.specs.Prelude.{ℕ, Bool, true, false, if◌then◌else◌, [], ◌∷◌, Option, Some, None}
use Rattle.k_num.specs.declared.place.Place.{Place}
use Rattle.k_num.specs.declared.numbers.Kind.{Kind}
use Rattle.k_num.specs.declared.numbers.Kind.TheVariants.{I32}
use Rattle.k_num.specs.declared.numbers.Bin.{Bin}
use Rattle.k_num.specs.declared.numbers.Bin.TheVariants.{Ne}
use Rattle.k_num.specs.declared.numbers.Un.{Un}
use Rattle.k_optab.specs.declared.class.Class.TheVariants as class
use Rattle.k_types_meaning.specs.declared.types.TType.{TType}
use Rattle.k_types_meaning.specs.declared.types.TType.TheVariants as ttype
use Rattle.k_types_meaning.specs.declared.tree.expression.Node.{Node}
use Rattle.k_world.specs.declared.act.Act.TheVariants as act
use Rattle.k_world.specs.declared.value.Held.{Held}
pub use Rattle.k_world.specs.Classes.{class_of}
use Rattle.k_evaluation.specs.declared.operand.Operand.{Operand}
use Rattle.k_evaluation.specs.declared.operand.Operand.TheVariants.{Holding}
use Rattle.k_evaluation.specs.States.{Program, Part, ◌>>=◌, gives, computes, settled}
use Rattle.k_evaluation.specs.Meanings.{Meaning, nothing, only_value, on_one, on_two, kind_of, scale_of, tests, holds}

-- `+e`: as its operand (C17 6.5.3.3p2)
unfoldable pub plus : Node → Meaning → Meaning
plus node e = only_value node e.value

-- the operation of `- ~ !`
abbrev pub unary_on : Program → Place → Un → Kind → Operand → Part Operand
unary_on program place op kind a = computes program class.Simple place (act.Unary op kind) (a ∷ [])

-- `- ~ !` (C17 6.5.3.3)
unfoldable pub unary : Program → Node → Un → Kind → Meaning → Meaning
unary program node op kind e = on_one node e (unary_on program node.place op kind)

-- A CONVERSION to the kind of a type, where that is one of numbers (C17 6.3.1.3)
abbrev pub converts : Program → Place → Option Kind → Operand → Part Operand
converts program place None a = gives a
converts program place (Some kind) a = computes program class.Conv place (act.Convert kind) (a ∷ [])

-- a conversion that the source does not write
unfoldable pub convert : Program → Node → Meaning → Meaning
convert program node e = on_one node e (converts program node.place (kind_of node.of))

-- a cast, by the type that it names: to void its operand is unused, to a kind it is converted, to a pointer it stays
abbrev pub cast_to : Program → Place → TType → Meaning → Bool → Part Operand
cast_to program place ttype.Void e used = e.value false >>= λ a. gives nothing
cast_to program place (ttype.Number kind) e used = e.value true >>= converts program place (Some kind)
cast_to program place (ttype.Pointer target) e used = e.value used

-- CAST (C17 6.5.4)
unfoldable pub cast : Program → Node → Meaning → Meaning
cast program node e = only_value node (cast_to program node.place node.of e)

-- the operation of a binary operator on numbers
abbrev pub binary_on : Program → Place → Bin → Kind → Operand → Operand → Part Operand
binary_on program place op kind a b = computes program (class_of op) place (act.Binary op kind) (a ∷ b ∷ [])

-- BINARY on numbers: left, right, the operation (C17 6.5.5 to 6.5.12)
unfoldable pub binary : Program → Node → Bin → Kind → Meaning → Meaning → Meaning
binary program node op kind left right = on_two node left right (binary_on program node.place op kind)

-- the operation of a comparison of pointers
abbrev pub compare_on : Program → Place → Bin → Operand → Operand → Part Operand
compare_on program place op a b = computes program class.Simple place (act.PtrCompare op) (a ∷ b ∷ [])

-- POINTER COMPARISON (C17 6.5.8, 6.5.9)
unfoldable pub compare : Program → Node → Bin → Meaning → Meaning → Meaning
compare program node op left right = on_two node left right (compare_on program node.place op)

-- the operation of a difference of pointers
abbrev pub distance_on : Program → Place → ℕ → Operand → Operand → Part Operand
distance_on program place scale a b = computes program class.Div place (act.PtrDistance scale) (a ∷ b ∷ [])

-- POINTER DIFFERENCE, counted in elements (C17 6.5.6p9)
unfoldable pub distance : Program → Node → Meaning → Meaning → Meaning
distance program node left right = on_two node left right (distance_on program node.place (scale_of left.node.of))

-- two truths are one
abbrev pub same_truth : Bool → Bool → Bool
same_truth true b = b
same_truth false b = if b then false else true

-- a kind, or int
abbrev pub kind_or_int : Option Kind → Kind
kind_or_int None = I32
kind_or_int (Some kind) = kind

-- whether the right operand of `&&` and `||` is other than 0, as an operation
abbrev pub truth_on : Program → Place → Kind → Operand → Part Operand
truth_on program place kind b = computes program class.Simple place (act.Binary Ne kind) (b ∷ nothing ∷ [])

-- the right operand of `&&` and `||`
abbrev pub truth_of : Program → Node → Meaning → Part Operand
truth_of program node right = right.value true >>= truth_on program node.place (kind_or_int (kind_of right.node.of))

-- Behind their test: where it decides, its own 0 or 1 is the value; else the right operand runs under it.
abbrev pub behind_test : Program → Node → Bool → Meaning → Held → Part Operand
behind_test program node decides right test =
    if same_truth (holds test) decides then gives (Holding test) else truth_of program node right

-- `&&`, which 0 decides, and `||`, which another number decides: left, the test, right if needed; behind them the control source is as
-- before
abbrev pub logical : Program → Node → Bool → Meaning → Meaning → Meaning
logical program node decides left right =
    only_value node (λ used. settled false (left.value true >>= λ a. tests program node.place a >>= behind_test program node decides right))

-- `left && right` (C17 6.5.13)
unfoldable pub both : Program → Node → Meaning → Meaning → Meaning
both program node left right = logical program node false left right

-- `left || right` (C17 6.5.14)
unfoldable pub either : Program → Node → Meaning → Meaning → Meaning
either program node left right = logical program node true left right

-- the move of the value of an arm
abbrev pub moves : Program → Place → Operand → Part Operand
moves program place a = computes program class.Move place act.Move (a ∷ [])

-- an arm of `?:`, by the type of the whole: its value is moved, but that of void is unused
abbrev pub arm : Program → Place → TType → Meaning → Part Operand
arm program place ttype.Void e = e.value false >>= λ a. gives nothing
arm program place (ttype.Number kind) e = e.value true >>= moves program place
arm program place (ttype.Pointer target) e = e.value true >>= moves program place

-- the arm that the test chooses
abbrev pub arm_by : Program → Node → Meaning → Meaning → Held → Part Operand
arm_by program node first second test =
    if holds test then arm program node.place node.of first else arm program node.place node.of second

-- `?:`: the condition, the test, one arm under it and its move; behind it the control source is as before (C17 6.5.15)
unfoldable pub cond : Program → Node → Meaning → Meaning → Meaning → Meaning
cond program node test first second =
    only_value node (λ used. settled false (test.value true >>= λ a. tests program node.place a >>= arm_by program node first second))

-- `left, right`: the left value is unused, and the right one is used where the whole is (C17 6.5.17)
unfoldable pub comma : Node → Meaning → Meaning → Meaning
comma node left right = only_value node (λ used. left.value false >>= λ a. right.value used)
