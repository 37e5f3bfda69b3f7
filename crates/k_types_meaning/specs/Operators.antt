-- Believed with the theorem on the top call.
-- The rules of expressions with two or three operands that are judged (C17 6.5.5 to 6.5.17).
use Rattle.std.specs.Prelude.{ℕ, Bool, true, false, if◌then◌else◌, List, ◌++◌, Option, Some, None}
use Rattle.k_num.specs.declared.numbers.Kind.{Kind}
use Rattle.k_num.specs.declared.numbers.Kind.TheVariants.{I32, I64}
use Rattle.k_num.specs.declared.numbers.Bin.{Bin}
use Rattle.k_num.specs.declared.numbers.Bin.TheVariants.{Add, Sub, Shl, Shr, Lt, Le, Gt, Ge, Eq, Ne, LogAnd, LogOr}
use Rattle.k_num.specs.declared.place.Place.{Place}
use Rattle.k_num.specs.Kind.{promoted, common_kind}
use Rattle.k_tree.specs.declared.tokens.mark.Mark.{Mark}
use Rattle.k_tree.specs.Operators.{operator_of, compound_operator_of}
use Rattle.k_types_meaning.specs.declared.fault.TypeFault.TheVariants as fault
use Rattle.k_types_meaning.specs.declared.types.CType.{CType}
use Rattle.k_types_meaning.specs.declared.types.CType.TheVariants as ctype
use Rattle.k_types_meaning.specs.declared.types.Element.{Element}
use Rattle.k_types_meaning.specs.declared.types.TType.{TType}
use Rattle.k_types_meaning.specs.declared.types.TType.TheVariants as ttype
use Rattle.k_types_meaning.specs.declared.tree.expression.Change.{Change}
use Rattle.k_types_meaning.specs.declared.tree.expression.Change.TheVariants as change
use Rattle.k_types_meaning.specs.declared.tree.expression.TExpr.{TExpr}
use Rattle.k_types_meaning.specs.declared.tree.expression.TExpr.TheVariants as typed
use Rattle.k_types_meaning.specs.Conversions.{Typed, at, in_kind, number_in_kind, passed}
use Rattle.k_types_meaning.specs.Made.{Made, Fine, refused}
use Rattle.k_types_meaning.specs.Operands.{value, number, written}
use Rattle.k_types_meaning.specs.Types.{decayed, same_element, equal_element, number_kind, told, pointer_to}

-- the operator compares (C17 6.5.8, 6.5.9)
abbrev pub compares : Bin → Bool
compares Lt = true
compares Le = true
compares Gt = true
compares Ge = true
compares Eq = true
compares Ne = true
compares _ = false

-- the variables that `&` is applied to in two expressions
abbrev pub taken_in : Typed → Typed → List ℕ
taken_in left right = left.taken ++ right.taken

-- C17 6.5.7p3: a shift promotes each side alone
abbrev pub shift_of : Place → Bin → Kind → Kind → Typed → Typed → Typed
shift_of p op j k left right =
    number (promoted j)
    (typed.Binary (at p (ttype.Number (promoted j))) op (promoted j) (in_kind j (promoted j) left.tree) (in_kind k (promoted k) right.tree))
    (taken_in left right)

-- C17 6.3.1.8: an operation on numbers of two kinds, made in their common kind, whose result is of this kind
abbrev pub common_of : Place → Bin → Kind → Kind → Kind → Kind → Typed → Typed → Typed
common_of p op result common j k left right =
    number result
    (typed.Binary (at p (ttype.Number result)) op common (in_kind j common left.tree) (in_kind k common right.tree))
    (taken_in left right)

-- C17 6.5.5 to 6.5.14: an operation on two numbers: `&&` and `||` convert nothing, shifts promote each side alone, comparisons
-- give an int, and all others give the common kind in which they are made
abbrev pub on_numbers : Place → Bin → Kind → Kind → Typed → Typed → Typed
on_numbers p LogAnd j k left right = number I32 (typed.Both (at p (ttype.Number I32)) left.tree right.tree) (taken_in left right)
on_numbers p LogOr j k left right = number I32 (typed.Either (at p (ttype.Number I32)) left.tree right.tree) (taken_in left right)
on_numbers p Shl j k left right = shift_of p Shl j k left right
on_numbers p Shr j k left right = shift_of p Shr j k left right
on_numbers p op j k left right =
    common_of p op (if compares op then I32 else common_kind j k) (common_kind j k) j k left right

-- `+ -` of a pointer and a number
abbrev pub pointer_and_number : Place → Bin → Element → Typed → Typed → Made Typed
pointer_and_number p Add e left right = Fine (value (ctype.Pointer e) (typed.Forward (at p (pointer_to e)) left.tree right.tree) (taken_in left right))
pointer_and_number p Sub e left right = Fine (value (ctype.Pointer e) (typed.Back (at p (pointer_to e)) left.tree right.tree) (taken_in left right))
pointer_and_number p _ e left right = refused (fault.Kinds p)

-- `+` of a number and a pointer
abbrev pub number_and_pointer : Place → Bin → Element → Typed → Typed → Made Typed
number_and_pointer p Add e left right = Fine (value (ctype.Pointer e) (typed.Onto (at p (pointer_to e)) left.tree right.tree) (taken_in left right))
number_and_pointer p _ e left right = refused (fault.Kinds p)

-- C17 6.5.6p3, 6.5.8p2, 6.5.9p2: two pointers to equal elements have a difference, and are compared
abbrev pub equal_pointers : Place → Bin → Typed → Typed → Made Typed
equal_pointers p Sub left right = Fine (number I64 (typed.PtrDistance (at p (ttype.Number I64)) left.tree right.tree) (taken_in left right))
equal_pointers p op left right =
    if compares op then Fine (number I32 (typed.PtrCompare (at p (ttype.Number I32)) op left.tree right.tree) (taken_in left right))
    else refused (fault.Kinds p)

-- two pointers
abbrev pub two_pointers : Place → Bin → Element → Element → Typed → Typed → Made Typed
two_pointers p op a b left right = if same_element a b then equal_pointers p op left right else refused (fault.Kinds p)

-- an operand: nothing, a number, or a pointer, which an array counts as
pub data Operand : Type 0 where
  Nothing : Operand
  ANumber : Kind → Operand
  APointer : Element → Operand

-- what an expression of a type is as an operand
abbrev pub operand : CType → Operand
operand ctype.Void = Nothing
operand (ctype.Number kind) = ANumber kind
operand (ctype.Pointer e) = APointer e
operand (ctype.Array count e) = APointer e

-- an operation by what its operands are
abbrev pub operated : Place → Bin → Operand → Operand → Typed → Typed → Made Typed
operated p op (ANumber j) (ANumber k) left right = Fine (on_numbers p op j k left right)
operated p op (APointer a) (ANumber k) left right = pointer_and_number p op a left right
operated p op (ANumber j) (APointer b) left right = number_and_pointer p op b left right
operated p op (APointer a) (APointer b) left right = two_pointers p op a b left right
operated p op Nothing right_operand left right = refused (fault.Kinds p)
operated p op (ANumber j) Nothing left right = refused (fault.Kinds p)
operated p op (APointer a) Nothing left right = refused (fault.Kinds p)

-- an operator that a mark may be
abbrev pub operated_by : Place → Option Bin → Typed → Typed → Made Typed
operated_by p None left right = refused (fault.Kinds p)
operated_by p (Some op) left right = operated p op (operand left.of) (operand right.of) left right

-- C17 6.5.5 to 6.5.14: a binary operator
unfoldable pub binary_rule : Place → Mark → Typed → Typed → Made Typed
binary_rule p op left right = operated_by p (operator_of op) left right

-- all variables that `&` is applied to in three expressions
abbrev pub taken_in_three : Typed → Typed → Typed → List ℕ
taken_in_three test first second = test.taken ++ (first.taken ++ second.taken)

-- the arms of `?:` are numbers, which are converted to their common kind, or equal pointers
abbrev pub arms : Place → Operand → Operand → Typed → Typed → Typed → Made Typed
arms p (ANumber j) (ANumber k) test first second =
    Fine (number (common_kind j k)
    (typed.Cond (at p (ttype.Number (common_kind j k))) test.tree (in_kind j (common_kind j k) first.tree) (in_kind k (common_kind j k) second.tree))
    (taken_in_three test first second))
arms p (APointer a) (APointer b) test first second =
    if equal_element a b then
    Fine (value (ctype.Pointer a) (typed.Cond (at p (pointer_to a)) test.tree first.tree second.tree) (taken_in_three test first second))
    else refused (fault.Kinds p)
arms p Nothing Nothing test first second =
    Fine (value ctype.Void (typed.Cond (at p ttype.Void) test.tree first.tree second.tree) (taken_in_three test first second))
arms p Nothing (ANumber k) test first second = refused (fault.Kinds p)
arms p Nothing (APointer b) test first second = refused (fault.Kinds p)
arms p (ANumber j) Nothing test first second = refused (fault.Kinds p)
arms p (ANumber j) (APointer b) test first second = refused (fault.Kinds p)
arms p (APointer a) Nothing test first second = refused (fault.Kinds p)
arms p (APointer a) (ANumber k) test first second = refused (fault.Kinds p)

-- `?:`, by the kind of its test
abbrev pub cond_of_kind : Place → Option Kind → Typed → Typed → Typed → Made Typed
cond_of_kind p None test first second = refused (fault.Kinds p)
cond_of_kind p (Some kind) test first second = arms p (operand first.of) (operand second.of) test first second

-- C17 6.5.15: `?:` tests a number
unfoldable pub cond_rule : Place → Typed → Typed → Typed → Made Typed
cond_rule p test first second = cond_of_kind p (number_kind test.of) test first second

-- `=`, by what is passed
abbrev pub assigned : Place → Typed → Typed → Option TExpr → Made Typed
assigned p left right None = refused (fault.Kinds p)
assigned p left right (Some tree) =
    written p left.place (value (decayed left.of) (typed.Assign (at p (told left.of)) left.tree tree) (taken_in left right))

-- C17 6.5.16.1: `=`; an array on its left counts as the pointer that it gives
abbrev pub set_rule : Place → Typed → Typed → Made Typed
set_rule p left right = assigned p left right (passed left.of right)

-- the kind in which a compound assignment operates on numbers: of a shift that of the promoted left side
abbrev pub change_kind : Bin → Kind → Kind → Kind
change_kind Shl j k = promoted j
change_kind Shr j k = promoted j
change_kind op j k = common_kind j k

-- the kind to which the right side of a compound assignment is converted
abbrev pub right_kind : Bin → Kind → Kind → Kind
right_kind Shl j k = promoted k
right_kind Shr j k = promoted k
right_kind op j k = common_kind j k

-- a compound assignment with this change, whose right side is this
abbrev pub changed : Place → Typed → Typed → Change → TExpr → Made Typed
changed p left right change tree =
    written p left.place (value (decayed left.of) (typed.AssignBy (at p (told left.of)) change left.tree tree) (taken_in left right))

-- `+=` and `-=` of a pointer and a number
abbrev pub moved : Place → Bin → Typed → Typed → Made Typed
moved p Add left right = changed p left right change.Forward right.tree
moved p Sub left right = changed p left right change.Back right.tree
moved p _ left right = refused (fault.Kinds p)

-- a compound assignment by what its sides are
abbrev pub changed_by : Place → Bin → Operand → Operand → Typed → Typed → Made Typed
changed_by p op (ANumber j) (ANumber k) left right =
    changed p left right (change.Number op (change_kind op j k)) (number_in_kind k (right_kind op j k) right.tree)
changed_by p op (APointer a) (ANumber k) left right = moved p op left right
changed_by p op (ANumber j) (APointer b) left right = refused (fault.Kinds p)
changed_by p op (APointer a) (APointer b) left right = refused (fault.Kinds p)
changed_by p op Nothing right_operand left right = refused (fault.Kinds p)
changed_by p op (ANumber j) Nothing left right = refused (fault.Kinds p)
changed_by p op (APointer a) Nothing left right = refused (fault.Kinds p)

-- an assignment by the operator that it applies, if any
abbrev pub assign_by : Place → Option Bin → Typed → Typed → Made Typed
assign_by p None left right = set_rule p left right
assign_by p (Some op) left right = changed_by p op (operand left.of) (operand right.of) left right

-- C17 6.5.16: an assignment
unfoldable pub assign_rule : Place → Mark → Typed → Typed → Made Typed
assign_rule p op left right = assign_by p (compound_operator_of op) left right

-- C17 6.5.17: a comma has the value of its right operand
unfoldable pub comma_rule : Place → Typed → Typed → Made Typed
comma_rule p left right = Fine (value (decayed right.of) (typed.Comma (at p (told right.of)) left.tree right.tree) (taken_in left right))
