-- For contracts between crates: nobody has to believe it.
-- What judging parts of a statement gives, and what is known behind them.
use Rattle.std.specs.Prelude.{◌≡◌, Bool, true, false, Option, Some, None, Result, Ok, Err}
use Rattle.k_num.specs.declared.numbers.Kind.{Kind}
use Rattle.k_num.specs.declared.place.Place.{Place}
use Rattle.k_tree.specs.declared.tree.expression.Expr.{Expr}
use Rattle.k_tree.specs.declared.tree.statement.Stmt.{Stmt}
use Rattle.k_types_meaning.specs.declared.fault.TypeFault.{TypeFault}
use Rattle.k_types_meaning.specs.declared.types.CType.{CType}
use Rattle.k_types_meaning.specs.declared.tree.expression.TExpr.{TExpr}
use Rattle.k_types_meaning.specs.declared.tree.statement.TFirst.{TFirst}
use Rattle.k_types_meaning.specs.declared.tree.statement.TStmt.{TStmt}
use Rattle.k_types_meaning.specs.declared.tree.statement.TStmt.TheVariants as typed
use Rattle.k_types_meaning.specs.Conversions.{Typed, passed}
use Rattle.k_types_meaning.specs.Made.{Made, Fine, then_made}
use Rattle.k_types_meaning.specs.Statements.{Known, Judged, Statement, at_known, behind, conditioned, judge_stmt, return_made, spot}
use Rattle.k_types_meaning.specs.Types.{number_kind}
use Rattle.k_types_rules.specs.Views.{Refuses}
use Rattle.k_types_names.specs.Scoping.{outside}
use Rattle.k_types_statements.specs.declared.valued.Valued.{Valued}

-- C17 6.2.1p4: the innermost scope is closed
abbrev pub closed : Known → Known
closed known = record known { names = outside known.names }

-- an expression, and what is known behind it
abbrev pub judged_at : Known → Expr → Judged Typed
judged_at known e = record { made = at_known known e; after = behind known (at_known known e) }

-- the tree of a judged expression, and its kind where it is a number
abbrev pub valued_of : Typed → Valued
valued_of v = record { tree = v.tree; kind = number_kind v.of }

-- the same of an expression that may be left out
abbrev pub valued_option : Option Typed → Option Valued
valued_option None = None
valued_option (Some v) = Some (valued_of v)

-- the tree of an expression that may be left out
abbrev pub tree_option : Option Valued → Option TExpr
tree_option None = None
tree_option (Some v) = Some v.tree

-- there is no kind
abbrev pub has_no_kind : Option Kind → Bool
has_no_kind None = true
has_no_kind (Some kind) = false

-- an expression that is there is no number
abbrev pub is_no_number : Option Valued → Bool
is_no_number None = false
is_no_number (Some v) = has_no_kind v.kind

-- a statement of which the test may be left out
abbrev pub conditioned_option : Place → Option Valued → TStmt → Made TStmt
conditioned_option p None made = Fine made
conditioned_option p (Some v) made = conditioned p v.kind made

-- C17 6.8.5.3: a `for` of which this is judged
abbrev pub for_valued : Place → TFirst → Option Valued → Option Valued → TStmt → Made TStmt
for_valued p start test step body =
    conditioned_option p test (typed.For (spot p) 0 start (tree_option test) (tree_option step) body)

-- C17 6.8.6.4p3: a `return` of a value, from a function of this result
abbrev pub return_judged : Place → CType → Known → Expr → Judged TStmt
return_judged p result known e = record {
  made = then_made (at_known known e) (λ v. return_made p (passed result v));
  after = behind known (at_known known e);
}

-- C17 6.8.4.1: the statement behind an `else`, if there is one
abbrev pub else_of : Option Stmt → Option Statement
else_of None = None
else_of (Some s) = Some (judge_stmt s)

-- A part was judged, what is known goes on behind it, and the scopes around the innermost one are as they were; or it has a fault first.
abbrev pub Runs : {A : Type 0} → Result A TypeFault → Known → Known → Judged A → Type 0
Runs (Ok x) older newer j = (j.made ≡ Fine x) × (newer ≡ j.after) × (outside newer.names ≡ outside older.names)
Runs (Err f) older newer j = Refuses f j.made

-- The same of a part of which this is shown.
abbrev pub RunsAs : {A B : Type 0} → (A → B) → Result B TypeFault → Known → Known → Judged A → Type 0
RunsAs {A} {B} shown (Ok y) older newer j = (x : A) × (y ≡ shown x) × Runs (Ok x) older newer j
RunsAs {A} {B} shown (Err f) older newer j = Refuses f j.made
