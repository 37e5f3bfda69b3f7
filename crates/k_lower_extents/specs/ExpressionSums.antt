-- For contracts between crates: nobody has to believe it.
-- The extent of an expression by those of its operands, as the code adds them up.
use Rattle.std.specs.Prelude.{ℕ, ◌+◌, Bool, true, false, if◌then◌else◌, List, [], ◌∷◌, Option, Some, None}
use Rattle.k_num.specs.declared.numbers.Bin.{Bin}
use Rattle.k_num.specs.declared.numbers.Kind.{Kind}
use Rattle.k_types_meaning.specs.declared.types.TType.{TType}
use Rattle.k_types_meaning.specs.declared.types.TType.TheVariants as ttype
use Rattle.k_types_meaning.specs.declared.tree.expression.Change.{Change}
use Rattle.k_types_meaning.specs.declared.tree.expression.Change.TheVariants as change
use Rattle.k_types_meaning.specs.declared.tree.expression.TExpr.{TExpr, fold-TExpr, map-TExpr, out-TExpr}
use Rattle.k_types_meaning.specs.declared.tree.expression.TExpr.TheOpen.{TExpr-F}
use Rattle.k_types_meaning.specs.declared.tree.unit.TVariable.{TVariable}
use Rattle.k_types_meaning.specs.Types.{same_kind}
use Rattle.k_evaluation.specs.Assignments.{side_kind}
use Rattle.k_evaluation.specs.Meanings.{kind_of}
use Rattle.k_evaluation.specs.Places.{is_register}
use Rattle.k_lower_extents.specs.declared.expression.ExpressionExtent.{ExpressionExtent}
use Rattle.k_lower_extents.specs.declared.expression.Operands.{Operands}

-- an expression that is no place
abbrev pub no_place : TType → ℕ → ℕ → ExpressionExtent
no_place of used unused = record { used = used; unused = unused; place = 0; in_register = false; of = of }

-- one of which the value has one size, used or not
abbrev pub one_size : TType → ℕ → ExpressionExtent
one_size of size = no_place of size size

-- the load of what stands in memory, by its type
abbrev pub load_size : TType → ℕ
load_size ttype.Void = 0
load_size (ttype.Number kind) = 1
load_size (ttype.Pointer target) = 0

-- a place in memory
abbrev pub in_memory : TType → ℕ → ExpressionExtent
in_memory of place = record { used = place + load_size of; unused = place; place = place; in_register = false; of = of }

-- a variable, by whether it is a register
abbrev pub variable : TType → Bool → ExpressionExtent
variable of true = record { used = 0; unused = 0; place = 0; in_register = true; of = of }
variable of false = in_memory of 0

-- an element
abbrev pub element : TType → ExpressionExtent → ExpressionExtent → ExpressionExtent
element of base index = in_memory of (base.used + index.used + 1)

-- so many instructions behind an operand
abbrev pub on_one : TType → ExpressionExtent → ℕ → ExpressionExtent
on_one of e more = one_size of (e.used + more)

-- so many instructions with two operands
abbrev pub on_two : TType → ExpressionExtent → ExpressionExtent → ℕ → ExpressionExtent
on_two of left right more = one_size of (left.used + right.used + more)

-- the operands of a list
abbrev pub total : List ExpressionExtent → ℕ
total [] = 0
total (e ∷ es) = e.used + total es

-- a conversion to the kind of a type, where that is one of numbers
abbrev pub conversion_size : TType → ℕ
conversion_size ttype.Void = 0
conversion_size (ttype.Number kind) = 1
conversion_size (ttype.Pointer target) = 0

-- a cast, by the type that it names
abbrev pub cast : TType → ExpressionExtent → ExpressionExtent
cast ttype.Void e = one_size ttype.Void e.unused
cast (ttype.Number kind) e = on_one (ttype.Number kind) e 1
cast (ttype.Pointer target) e = no_place (ttype.Pointer target) e.used e.unused

-- an arm of `?:`, by the type of the whole
abbrev pub arm_size : TType → ExpressionExtent → ℕ
arm_size ttype.Void e = e.unused
arm_size (ttype.Number kind) e = e.used + 1
arm_size (ttype.Pointer target) e = e.used + 1

-- `?:`
abbrev pub choice : TType → ExpressionExtent → ExpressionExtent → ExpressionExtent → ExpressionExtent
choice of test one other = one_size of (test.used + arm_size of one + arm_size of other + 4)

-- `place = right`
abbrev pub assign : TType → ExpressionExtent → ExpressionExtent → ExpressionExtent
assign of left right = one_size of (left.place + right.used + 1)

-- a conversion from one kind to another
abbrev pub between_size : Kind → Kind → ℕ
between_size from to = if same_kind from to then 0 else 1

-- a value of which the kind may not be known, in a kind
abbrev pub side_size : Option Kind → Kind → ℕ
side_size None to = 0
side_size (Some from) to = between_size from to

-- a result brought back to the kind of its place
abbrev pub back_size : Kind → Option Kind → ℕ
back_size from None = 0
back_size from (Some to) = between_size from to

-- what an operator makes of an old value and a right operand of these kinds
abbrev pub combined_size : Bin → Kind → Option Kind → Option Kind → ℕ
combined_size op kind of by = side_size of kind + side_size by (side_kind op kind by) + 1 + back_size kind of

-- what a change makes of the old value of a place of this type and a right operand of that kind
abbrev pub change_size : Change → TType → Option Kind → ℕ
change_size (change.Number op kind) of by = combined_size op kind (kind_of of) by
change_size change.Forward of by = 1
change_size change.Back of by = 1

-- the old value, by whether it stands in a register
abbrev pub old_size : Bool → ℕ
old_size true = 0
old_size false = 1

-- the old value, what a change makes of it, and the write
abbrev pub changing_size : Change → TType → Bool → Option Kind → ℕ
changing_size change of register by = old_size register + change_size change of by + 1

-- `place op= right`
abbrev pub assign_by : TType → Change → ExpressionExtent → ExpressionExtent → ExpressionExtent
assign_by of change left right = one_size of (left.place + right.used + changing_size change of left.in_register (kind_of right.of))

-- `++ place`, `-- place`
abbrev pub pre : TType → Change → ExpressionExtent → ExpressionExtent
pre of change e = one_size of (e.place + changing_size change of e.in_register None)

-- `place ++`, `place --`
abbrev pub post : TType → Change → ExpressionExtent → ExpressionExtent
post of change e =
    no_place of (e.place + changing_size change of e.in_register None + 1) (e.place + changing_size change of e.in_register None)

-- `left, right`
abbrev pub comma : TType → ExpressionExtent → ExpressionExtent → ExpressionExtent
comma of left right = no_place of (left.unused + right.used) (left.unused + right.unused)

-- an expression, of whose operands it is known
abbrev pub summed_step : List TVariable → TExpr-F ExpressionExtent → ExpressionExtent
summed_step vs (TExpr-F.Number node z) = no_place node.of 0 0
summed_step vs (TExpr-F.Str node n bytes) = no_place node.of 1 0
summed_step vs (TExpr-F.Object node n) = in_memory node.of 1
summed_step vs (TExpr-F.Variable node n) = variable node.of (is_register vs n)
summed_step vs (TExpr-F.Index node a b) = element node.of a b
summed_step vs (TExpr-F.Call node f args) = one_size node.of (total args + 3)
summed_step vs (TExpr-F.Getchar node) = one_size node.of 1
summed_step vs (TExpr-F.Putchar node a) = on_one node.of a 1
summed_step vs (TExpr-F.Puts node a) = one_size node.of 1
summed_step vs (TExpr-F.Printf node format args) = one_size node.of (total args + 1)
summed_step vs (TExpr-F.Post node change a) = post node.of change a
summed_step vs (TExpr-F.Pre node change a) = pre node.of change a
summed_step vs (TExpr-F.Address node a) = one_size node.of a.place
summed_step vs (TExpr-F.Deref node a) = in_memory node.of a.used
summed_step vs (TExpr-F.Plus node a) = no_place node.of a.used a.unused
summed_step vs (TExpr-F.Unary node op kind a) = on_one node.of a 1
summed_step vs (TExpr-F.Convert node a) = on_one node.of a (conversion_size node.of)
summed_step vs (TExpr-F.Cast node a) = cast node.of a
summed_step vs (TExpr-F.Binary node op kind a b) = on_two node.of a b 1
summed_step vs (TExpr-F.Both node a b) = on_two node.of a b 4
summed_step vs (TExpr-F.Either node a b) = on_two node.of a b 4
summed_step vs (TExpr-F.Forward node a b) = on_two node.of a b 1
summed_step vs (TExpr-F.Onto node a b) = on_two node.of a b 1
summed_step vs (TExpr-F.Back node a b) = on_two node.of a b 1
summed_step vs (TExpr-F.PtrCompare node op a b) = on_two node.of a b 1
summed_step vs (TExpr-F.PtrDistance node a b) = on_two node.of a b 1
summed_step vs (TExpr-F.Cond node a b c) = choice node.of a b c
summed_step vs (TExpr-F.Assign node a b) = assign node.of a b
summed_step vs (TExpr-F.AssignBy node change a b) = assign_by node.of change a b
summed_step vs (TExpr-F.Comma node a b) = comma node.of a b

-- an expression in a function with these variables
abbrev pub summed : List TVariable → TExpr → ExpressionExtent
summed vs = fold-TExpr ExpressionExtent (summed_step vs)

-- no operand
abbrev pub none : ExpressionExtent
none = no_place ttype.Void 0 0

-- an expression without operands
abbrev pub no_operand : Operands
no_operand = record { first = none; second = none; third = none; args = 0 }

-- one with one operand
abbrev pub one_operand : ExpressionExtent → Operands
one_operand a = record { first = a; second = none; third = none; args = 0 }

-- one with two
abbrev pub two_operands : ExpressionExtent → ExpressionExtent → Operands
two_operands a b = record { first = a; second = b; third = none; args = 0 }

-- one with three
abbrev pub three_operands : ExpressionExtent → ExpressionExtent → ExpressionExtent → Operands
three_operands a b c = record { first = a; second = b; third = c; args = 0 }

-- a call, whose arguments have the size of all together
abbrev pub arguments : List ExpressionExtent → Operands
arguments args = record { first = none; second = none; third = none; args = total args }

-- the operands of an expression
abbrev pub operands_step : TExpr-F ExpressionExtent → Operands
operands_step (TExpr-F.Number node z) = no_operand
operands_step (TExpr-F.Str node n bytes) = no_operand
operands_step (TExpr-F.Object node n) = no_operand
operands_step (TExpr-F.Variable node n) = no_operand
operands_step (TExpr-F.Index node a b) = two_operands a b
operands_step (TExpr-F.Call node f args) = arguments args
operands_step (TExpr-F.Getchar node) = no_operand
operands_step (TExpr-F.Putchar node a) = one_operand a
operands_step (TExpr-F.Puts node a) = no_operand
operands_step (TExpr-F.Printf node format args) = arguments args
operands_step (TExpr-F.Post node change a) = one_operand a
operands_step (TExpr-F.Pre node change a) = one_operand a
operands_step (TExpr-F.Address node a) = one_operand a
operands_step (TExpr-F.Deref node a) = one_operand a
operands_step (TExpr-F.Plus node a) = one_operand a
operands_step (TExpr-F.Unary node op kind a) = one_operand a
operands_step (TExpr-F.Convert node a) = one_operand a
operands_step (TExpr-F.Cast node a) = one_operand a
operands_step (TExpr-F.Binary node op kind a b) = two_operands a b
operands_step (TExpr-F.Both node a b) = two_operands a b
operands_step (TExpr-F.Either node a b) = two_operands a b
operands_step (TExpr-F.Forward node a b) = two_operands a b
operands_step (TExpr-F.Onto node a b) = two_operands a b
operands_step (TExpr-F.Back node a b) = two_operands a b
operands_step (TExpr-F.PtrCompare node op a b) = two_operands a b
operands_step (TExpr-F.PtrDistance node a b) = two_operands a b
operands_step (TExpr-F.Cond node a b c) = three_operands a b c
operands_step (TExpr-F.Assign node a b) = two_operands a b
operands_step (TExpr-F.AssignBy node change a b) = two_operands a b
operands_step (TExpr-F.Comma node a b) = two_operands a b

-- the operands of an expression in a function with these variables
abbrev pub operands_in : List TVariable → TExpr → Operands
operands_in vs e = operands_step (map-TExpr TExpr ExpressionExtent (summed vs) (out-TExpr e))
