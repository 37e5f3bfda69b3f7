-- Believed with the theorem on the top call.
-- Where variables occur in an expression statement, which may reduce one, and the variable that a loop's step counts.
use Rattle.std.specs.Prelude.{ℕ, List, ◌∷◌, Option, Some, None}
use Rattle.k_types_meaning.specs.declared.tree.expression.TExpr.{TExpr, out-TExpr}
use Rattle.k_types_meaning.specs.declared.tree.expression.TExpr.TheOpen.{TExpr-F}
use Rattle.k_marks_meaning.specs.declared.uses.Read.{Read}
use Rattle.k_marks_meaning.specs.declared.uses.Reduction.{Reduction}
use Rattle.k_marks_meaning.specs.Loops.{counter}
use Rattle.k_marks_meaning.specs.Reductions.{change_group, group_of, read_again, read_of, reduction, unconverted, variable_of}
use Rattle.k_pragma_texts.specs.declared.occurrence.How.TheVariants.{Reduces}
use Rattle.k_pragma_texts.specs.declared.occurrence.Occurrence.{Occurrence}
use Rattle.k_pragma_texts.specs.Occurrences.{occurs_in}

-- An expression statement reduces a variable, and beside that variables occur in its other operand; or else they occur as in the expression.
abbrev pub reduced_occurs : TExpr → Option Reduction → TExpr → List Occurrence
reduced_occurs whole None other = occurs_in whole
reduced_occurs whole (Some r) other = record { variable = r.variable; node = r.read; how = Reduces r.group } ∷ occurs_in other

-- where variables occur in `s = right`: it reduces s where the right side is `s op e`
abbrev pub assigned_step : TExpr → Option Read → TExpr-F TExpr → List Occurrence
assigned_step whole s (TExpr-F.Binary node op kind left right) =
    reduced_occurs whole (reduction (read_again s (read_of left)) (group_of op)) right
assigned_step whole s _ = occurs_in whole

-- where variables occur in `s = right`
abbrev pub assigned_occurs : TExpr → Option Read → TExpr → List Occurrence
assigned_occurs whole s right = assigned_step whole s (out-TExpr right)

-- where variables occur in an expression statement: `s op= e` and `s = s op e` may reduce s
abbrev pub action_step : TExpr → TExpr-F TExpr → List Occurrence
action_step whole (TExpr-F.AssignBy node by left right) = reduced_occurs whole (reduction (variable_of left) (change_group by)) right
action_step whole (TExpr-F.Assign node left right) = assigned_occurs whole (variable_of left) (unconverted right)
action_step whole _ = occurs_in whole

-- where variables occur in an expression statement
abbrev pub action_occurs : TExpr → List Occurrence
action_occurs e = action_step e (out-TExpr e)

-- the variable of a read
abbrev pub variable_in : Option Read → Option ℕ
variable_in None = None
variable_in (Some r) = Some r.variable

-- the variable that a loop's step counts
abbrev pub counted_by : Option TExpr → Option ℕ
counted_by step = variable_in (counter step)
