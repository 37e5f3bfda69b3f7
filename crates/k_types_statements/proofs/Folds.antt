-- What the judge does at each form of a statement and of a part of a switch.
use Rattle.std.proofs.Common.{◌≡◌, Option, Some, None, Result, sym, ◌∙◌, ap, subst}
use Rattle.k_num.specs.declared.place.Place.{Place}
use Rattle.k_tree.specs.declared.tree.expression.Expr.{Expr}
use Rattle.k_tree.specs.declared.tree.statement.Stmt.{Stmt}
use Rattle.k_tree.specs.declared.tree.statement.Stmt.TheVariants as stmt
use Rattle.k_tree.proofs.Folds.{if_alone, if_else}
use Rattle.k_types_meaning.specs.declared.fault.TypeFault.{TypeFault}
use Rattle.k_types_meaning.specs.declared.tree.statement.TStmt.{TStmt}
use Rattle.k_types_meaning.specs.Statements.{Around, Known, Statement, SwitchPart, judge_stmt, if_rule, part_step, stmt_step}
use Rattle.k_types_statements.specs.Results.{Runs, else_of}

-- C17 6.8.4.1: an `if`, with or without an `else`
pub if_folds : (p : Place) (test : Expr) (first : Stmt) (second : Option Stmt)
    → judge_stmt (stmt.If p test first second) ≡ if_rule p test (judge_stmt first) (else_of second)
if_folds p test first None = if_alone SwitchPart Statement part_step stmt_step p test first
if_folds p test first (Some second) = if_else SwitchPart Statement part_step stmt_step p test first second

-- a statement of a form is judged by the rule of that form
pub by_rule : (result : Result TStmt TypeFault) (around : Around) (older newer : Known) (s t : Stmt) (rule : Statement)
    → s ≡ t → judge_stmt t ≡ rule → Runs result older newer (rule around older) → Runs result older newer (judge_stmt s around older)
by_rule result around older newer s t rule is folds runs =
    subst (λ (r : Statement). Runs result older newer (r around older)) (sym (ap judge_stmt is ∙ folds)) runs
