-- Believed with the theorem on the top call.
-- Where variables occur in an expression, and which is its last node.
use Rattle.std.specs.Prelude.{ℕ, nat_eq, Bool, if◌then◌else◌, List, [], ◌∷◌, ◌++◌, Option, Some, None}
use Rattle.std.specs.List.{list_any}
use Rattle.k_types_meaning.specs.declared.tree.expression.Node.{Node}
use Rattle.k_types_meaning.specs.declared.tree.expression.TExpr.{TExpr, fold-TExpr, out-TExpr}
use Rattle.k_types_meaning.specs.declared.tree.expression.TExpr.TheOpen.{TExpr-F}
use Rattle.k_marks_meaning.specs.declared.uses.Read.{Read}
use Rattle.k_marks_meaning.specs.Reductions.{variable_of}
use Rattle.k_pragma_texts.specs.declared.occurrence.How.{How}
use Rattle.k_pragma_texts.specs.declared.occurrence.How.TheVariants.{Reads, Sets, Changes}
use Rattle.k_pragma_texts.specs.declared.occurrence.Occurrence.{Occurrence}

-- an expression: the variable that it is itself, where variables occur in it, in text order, and its last node
pub record Told : Type 0 where
  pub itself : Option Read
  pub occurs : List Occurrence
  pub last : ℕ

-- a variable that occurs so
abbrev pub occurrence : How → Read → Occurrence
occurrence how r = record { variable = r.variable; node = r.node; how = how }

-- a variable
abbrev pub a_variable : Read → Told
a_variable r = record { itself = Some r; occurs = occurrence Reads r ∷ []; last = r.node }

-- an expression without operands that is no variable
abbrev pub alone : Node → Told
alone node = record { itself = None; occurs = []; last = node.number }

-- an expression of one operand
abbrev pub over : Told → Told
over a = record { itself = None; occurs = a.occurs; last = a.last }

-- an expression of two parts, the first before the second
abbrev pub both : Told → Told → Told
both a b = record { itself = None; occurs = a.occurs ++ b.occurs; last = b.last }

-- where variables occur in arguments
abbrev pub occurs_in_all : List Told → List Occurrence
occurs_in_all [] = []
occurs_in_all (a ∷ rest) = a.occurs ++ occurs_in_all rest

-- the last node of arguments, behind this one
abbrev pub last_of_all : ℕ → List Told → ℕ
last_of_all n [] = n
last_of_all n (a ∷ rest) = last_of_all a.last rest

-- a call
abbrev pub with_args : Node → List Told → Told
with_args node args = record { itself = None; occurs = occurs_in_all args; last = last_of_all node.number args }

-- where variables occur in the left of an assignment: a variable that is assigned occurs so
abbrev pub occurs_left : How → Option Read → List Occurrence → List Occurrence
occurs_left how None inner = inner
occurs_left how (Some r) inner = occurrence how r ∷ []

-- the left of an assignment
abbrev pub left_as : How → Told → Told
left_as how a = record { itself = None; occurs = occurs_left how a.itself a.occurs; last = a.last }

-- an expression, of whose operands it is known
abbrev pub told_step : TExpr-F Told → Told
told_step (TExpr-F.Number node value) = alone node
told_step (TExpr-F.Str node n bytes) = alone node
told_step (TExpr-F.Object node n) = alone node
told_step (TExpr-F.Variable node n) = a_variable (record { variable = n; node = node.number })
told_step (TExpr-F.Index node a b) = both a b
told_step (TExpr-F.Call node f args) = with_args node args
told_step (TExpr-F.Getchar node) = alone node
told_step (TExpr-F.Putchar node a) = over a
told_step (TExpr-F.Puts node a) = over a
told_step (TExpr-F.Printf node format args) = with_args node args
told_step (TExpr-F.Post node change a) = left_as Changes a
told_step (TExpr-F.Pre node change a) = left_as Changes a
told_step (TExpr-F.Address node a) = over a
told_step (TExpr-F.Deref node a) = over a
told_step (TExpr-F.Plus node a) = over a
told_step (TExpr-F.Unary node op kind a) = over a
told_step (TExpr-F.Convert node a) = over a
told_step (TExpr-F.Cast node a) = over a
told_step (TExpr-F.Binary node op kind a b) = both a b
told_step (TExpr-F.Both node a b) = both a b
told_step (TExpr-F.Either node a b) = both a b
told_step (TExpr-F.Forward node a b) = both a b
told_step (TExpr-F.Onto node a b) = both a b
told_step (TExpr-F.Back node a b) = both a b
told_step (TExpr-F.PtrCompare node op a b) = both a b
told_step (TExpr-F.PtrDistance node a b) = both a b
told_step (TExpr-F.Cond node a b c) = both a (both b c)
told_step (TExpr-F.Assign node a b) = both (left_as Sets a) b
told_step (TExpr-F.AssignBy node change a b) = both (left_as Changes a) b
told_step (TExpr-F.Comma node a b) = both a b

-- an expression
abbrev pub told : TExpr → Told
told = fold-TExpr Told told_step

-- where variables occur in an expression
abbrev pub occurs_in : TExpr → List Occurrence
occurs_in e = (told e).occurs

-- the last node of an expression
abbrev pub last_in : TExpr → ℕ
last_in e = (told e).last

-- an occurrence is of this variable
abbrev pub is_of : ℕ → Occurrence → Bool
is_of v o = nat_eq o.variable v

-- an expression names a variable
abbrev pub names : ℕ → TExpr → Bool
names v e = list_any (is_of v) (occurs_in e)

-- the variable, where the expression does not name it
abbrev pub set_unless_named : Option Read → TExpr → Option ℕ
set_unless_named None e = None
set_unless_named (Some r) e = if names r.variable e then None else Some r.variable

-- the variable v, where an expression is `v = e` and e does not name v
abbrev pub sets_step : TExpr-F TExpr → Option ℕ
sets_step (TExpr-F.Assign node left right) = set_unless_named (variable_of left) right
sets_step _ = None

-- the variable v, where an expression is `v = e` and e does not name v
abbrev pub sets : TExpr → Option ℕ
sets e = sets_step (out-TExpr e)
