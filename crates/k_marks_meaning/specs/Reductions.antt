-- Believed with the theorem on the top call.
-- Expression statements that reduce a variable, and what an expression statement does with variables.
use Rattle.std.specs.Prelude.{nat_eq, if◌then◌else◌, List, ◌∷◌, Option, Some, None}
use Rattle.k_num.specs.declared.numbers.Bin.{Bin}
use Rattle.k_num.specs.declared.numbers.Bin.TheVariants.{Add, Sub, Mul, And, Or, Xor}
use Rattle.k_types_meaning.specs.declared.tree.expression.Change.{Change}
use Rattle.k_types_meaning.specs.declared.tree.expression.Change.TheVariants as change
use Rattle.k_types_meaning.specs.declared.tree.expression.TExpr.{TExpr, out-TExpr}
use Rattle.k_types_meaning.specs.declared.tree.expression.TExpr.TheOpen.{TExpr-F}
use Rattle.k_marks_meaning.specs.declared.uses.Group.{Group}
use Rattle.k_marks_meaning.specs.declared.uses.Group.TheVariants.{Sums, Products, Ands, Ors, Xors}
use Rattle.k_marks_meaning.specs.declared.uses.Read.{Read}
use Rattle.k_marks_meaning.specs.declared.uses.Reduction.{Reduction}
use Rattle.k_marks_meaning.specs.declared.uses.Use.{Use}
use Rattle.k_marks_meaning.specs.declared.uses.Use.TheVariants.{Reduces}
use Rattle.k_marks_meaning.specs.Uses.{uses_of}

-- the group of an operator, if it has one: `+ -`, `*`, `&`, `|` or `^`
abbrev pub group_of : Bin → Option Group
group_of Add = Some Sums
group_of Sub = Some Sums
group_of Mul = Some Products
group_of And = Some Ands
group_of Or = Some Ors
group_of Xor = Some Xors
group_of _ = None

-- the group of the operator of a compound assignment
abbrev pub change_group : Change → Option Group
change_group (change.Number op kind) = group_of op
change_group change.Forward = None
change_group change.Back = None

-- the variable that an expression is
abbrev pub variable_step : TExpr-F TExpr → Option Read
variable_step (TExpr-F.Variable node n) = Some (record { variable = n; node = node.number })
variable_step _ = None

-- the variable that an expression is
abbrev pub variable_of : TExpr → Option Read
variable_of e = variable_step (out-TExpr e)

-- the variable that an operand is in the source, where it may be converted
abbrev pub read_step : TExpr-F TExpr → Option Read
read_step (TExpr-F.Variable node n) = Some (record { variable = n; node = node.number })
read_step (TExpr-F.Convert node e) = variable_of e
read_step _ = None

-- the variable that an operand is in the source, where it may be converted
abbrev pub read_of : TExpr → Option Read
read_of e = read_step (out-TExpr e)

-- the second read, where both are of one variable
abbrev pub read_again : Option Read → Option Read → Option Read
read_again None b = None
read_again (Some a) None = None
read_again (Some a) (Some b) = if nat_eq a.variable b.variable then Some b else None

-- the reduction of a variable that is read so, by an operator of a group
abbrev pub reduction : Option Read → Option Group → Option Reduction
reduction None group = None
reduction (Some s) None = None
reduction (Some s) (Some g) = Some (record { variable = s.variable; group = g; read = s.node })

-- An expression statement reduces a variable, and beside that does what its other operand does; or else it does what the expression does.
abbrev pub reduced_uses : TExpr → Option Reduction → TExpr → List Use
reduced_uses whole None other = uses_of whole
reduced_uses whole (Some r) other = Reduces r ∷ uses_of other

-- what `s = right` does with variables: it reduces s where the right side is `s op e`
abbrev pub assigned_step : TExpr → Option Read → TExpr-F TExpr → List Use
assigned_step whole s (TExpr-F.Binary node op kind left right) =
    reduced_uses whole (reduction (read_again s (read_of left)) (group_of op)) right
assigned_step whole s _ = uses_of whole

-- what `s = right` does with variables
abbrev pub simple_uses : TExpr → Option Read → TExpr → List Use
simple_uses whole s right = assigned_step whole s (out-TExpr right)

-- an expression, or that of which it is the conversion
abbrev pub unconverted_step : TExpr → TExpr-F TExpr → TExpr
unconverted_step whole (TExpr-F.Convert node e) = e
unconverted_step whole _ = whole

-- an expression, or that of which it is the conversion
abbrev pub unconverted : TExpr → TExpr
unconverted e = unconverted_step e (out-TExpr e)

-- what an expression statement does with variables: `s op= e` and `s = s op e` may reduce s
abbrev pub action_step : TExpr → TExpr-F TExpr → List Use
action_step whole (TExpr-F.AssignBy node by left right) = reduced_uses whole (reduction (variable_of left) (change_group by)) right
action_step whole (TExpr-F.Assign node left right) = simple_uses whole (variable_of left) (unconverted right)
action_step whole _ = uses_of whole

-- what an expression statement does with variables
abbrev pub action_uses : TExpr → List Use
action_uses e = action_step e (out-TExpr e)
