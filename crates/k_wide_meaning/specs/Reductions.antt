-- Believed with a public law.
-- Statements that reduce a scalar: `s op= e` and its like, and those that keep the least or the greatest.
use Rattle.std.specs.Prelude.{Bool, ◌&&◌, if◌then◌else◌, List, [], ◌∷◌, Option, Some, None}
use Rattle.k_num.specs.declared.numbers.Bin.{Bin}
use Rattle.k_num.specs.declared.numbers.Bin.TheVariants.{Sub, Lt, Le, Gt, Ge}
use Rattle.k_types_meaning.specs.contracts.types.TTypePartialEq.TheImpl as types
use Rattle.k_types_meaning.specs.declared.tree.expression.TExpr.{TExpr, out-TExpr}
use Rattle.k_types_meaning.specs.declared.tree.expression.TExpr.TheOpen.{TExpr-F}
use Rattle.k_types_meaning.specs.Conversions.{node_of}
use Rattle.k_marks_meaning.specs.declared.uses.Group.{Group}
use Rattle.k_marks_meaning.specs.Reductions.{group_of, change_group, unconverted}
use Rattle.k_wide_meaning.specs.declared.occurrences.Scalar.TheVariants.{Variable, Object}
use Rattle.k_wide_meaning.specs.declared.occurrences.ScalarRead.{ScalarRead}
use Rattle.k_wide_meaning.specs.declared.occurrences.WideGroup.{WideGroup}
use Rattle.k_wide_meaning.specs.declared.occurrences.WideGroup.TheVariants.{By, Least, Greatest}
use Rattle.k_wide_meaning.specs.declared.occurrences.Occurrence.{Occurrence}
use Rattle.k_wide_meaning.specs.declared.occurrences.Occurrence.TheVariants.{Reduces}
use Rattle.k_wide_meaning.specs.Occurrences.{occurs_in, same_scalar}
use Rattle.k_wide_meaning.specs.Signs.{are_same}

-- the scalar that an expression is
abbrev pub scalar_step : TExpr-F TExpr → Option ScalarRead
scalar_step (TExpr-F.Variable node n) = Some (record { scalar = Variable n; node = node.number })
scalar_step (TExpr-F.Object node n) = Some (record { scalar = Object n; node = node.number })
scalar_step _ = None

-- the scalar that an expression is
abbrev pub scalar_of : TExpr → Option ScalarRead
scalar_of e = scalar_step (out-TExpr e)

-- the second read, where both are of one scalar
abbrev pub same_read : Option ScalarRead → Option ScalarRead → Option ScalarRead
same_read None b = None
same_read (Some a) None = None
same_read (Some a) (Some b) = if same_scalar a.scalar b.scalar then Some b else None

-- the scalar that an operand is in the source, where it is this one; it may be converted
abbrev pub again : Option ScalarRead → TExpr → Option ScalarRead
again s e = same_read s (scalar_of (unconverted e))

-- What an expression statement does that reduces a scalar, and beside that does this; or else what it does as it is.
abbrev pub reduces_or : List Occurrence → List Occurrence → Option WideGroup → Option ScalarRead → List Occurrence
reduces_or whole beside group None = whole
reduces_or whole beside None (Some s) = whole
reduces_or whole beside (Some g) (Some s) = Reduces (record { scalar = s.scalar; group = g; read = s.node }) ∷ beside

-- the operators of a group
abbrev pub by_group : Option Group → Option WideGroup
by_group None = None
by_group (Some g) = Some (By g)

-- an operator that commutes, of the groups: each but `-`
abbrev pub commuting : Bin → Option WideGroup
commuting Sub = None
commuting op = by_group (group_of op)

-- A COMPARISON with s: s as it is read there, the value that it is compared with, and which of the two is kept where it holds and the value is taken
pub record Compared : Type 0 where
  pub s : ScalarRead
  pub e : TExpr
  pub kept : WideGroup

-- `e < s`, `e <= s`: the least is kept where e is taken; `e > s`, `e >= s`: the greatest
abbrev pub kept_by : Bin → Option WideGroup
kept_by Lt = Some Least
kept_by Le = Some Least
kept_by Gt = Some Greatest
kept_by Ge = Some Greatest
kept_by _ = None

-- the operator with its operands exchanged
abbrev pub turned : Bin → Bin
turned Lt = Gt
turned Le = Ge
turned Gt = Lt
turned Ge = Le
turned op = op

-- the other choice
abbrev pub other : WideGroup → WideGroup
other Least = Greatest
other Greatest = Least
other (By g) = By g

-- what is converted, and a number as it is
abbrev pub before_conversion : TExpr → TExpr-F TExpr → Option TExpr
before_conversion whole (TExpr-F.Convert node e) = Some e
before_conversion whole (TExpr-F.Number node value) = Some whole
before_conversion whole _ = None

-- the value that stands beside s: as it is where s is read as it is, and before its conversion where s is converted too, as both are promoted
abbrev pub value_beside : TExpr → TExpr-F TExpr → Option TExpr
value_beside e (TExpr-F.Convert node s) = before_conversion e (out-TExpr e)
value_beside e _ = Some e

-- a comparison, where its parts are there
abbrev pub compared_by : Option ScalarRead → Option TExpr → Option WideGroup → Option Compared
compared_by (Some s) (Some e) (Some kept) = Some (record { s = s; e = e; kept = kept })
compared_by _ _ _ = None

-- `e op s`
abbrev pub compared_with : Option ScalarRead → Bin → TExpr → TExpr → Option Compared
compared_with s op e side = compared_by (again s side) (value_beside e (out-TExpr side)) (kept_by op)

-- the first of two that there is
abbrev pub either_compared : Option Compared → Option Compared → Option Compared
either_compared None b = b
either_compared (Some a) b = Some a

-- `e op s` or `s op e`
abbrev pub compared_step : Option ScalarRead → TExpr-F TExpr → Option Compared
compared_step s (TExpr-F.Binary node op kind left right) = either_compared (compared_with s op left right) (compared_with s (turned op) right left)
compared_step s _ = None

-- THE COMPARISON WITH S that a test is, if it is one
abbrev pub compared : Option ScalarRead → TExpr → Option Compared
compared s test = compared_step s (out-TExpr test)

-- the comparison, where the value that is taken is the same
abbrev pub taken_of : TExpr → Option Compared → Option Compared
taken_of e None = None
taken_of e (Some c) = if are_same e c.e then Some c else None

-- `if (C) s = e;`, by the comparison C with s: s keeps the least or the greatest, and beside that happens what e and the rest do
abbrev pub keeps_by : TExpr → Option Compared → Option (List Occurrence)
keeps_by e None = None
keeps_by e (Some c) = Some (Reduces (record { scalar = c.s.scalar; group = c.kept; read = c.s.node }) ∷ occurs_in e)

-- the same of an expression statement behind such a test
abbrev pub kept_step : TExpr → TExpr-F TExpr → Option (List Occurrence)
kept_step test (TExpr-F.Assign node left right) = keeps_by right (taken_of right (compared (scalar_of left) test))
kept_step test _ = None

-- the same of a statement, if it is an expression statement
abbrev pub kept_if : TExpr → Option TExpr → Option (List Occurrence)
kept_if test None = None
kept_if test (Some e) = kept_step test (out-TExpr e)

-- two types are one
abbrev pub same_type : TExpr → TExpr → Bool
same_type a b = types.ghosts.eq (node_of a).of (node_of b).of

-- `s = C ? e : s`, by the comparison, by s as the arm that leaves it, and by e as the other arm: both reads of s are of the reduction
abbrev pub chosen_by : List Occurrence → TExpr → WideGroup → Option ScalarRead → Option TExpr → Compared → List Occurrence
chosen_by whole left kept (Some s) (Some e) c =
    if are_same e c.e && same_type e left
    then Reduces (record { scalar = c.s.scalar; group = kept; read = c.s.node })
    ∷ Reduces (record { scalar = s.scalar; group = kept; read = s.node })
    ∷ occurs_in e
    else whole
chosen_by whole left kept _ _ c = whole

-- `s = C ? e : s`, and with the arms turned `s = C ? s : e`, which keeps the other
abbrev pub chosen_if : List Occurrence → TExpr → TExpr → TExpr → Option Compared → List Occurrence
chosen_if whole left a b None = whole
chosen_if whole left a b (Some c) = chosen_by (chosen_by whole left (other c.kept) (again (Some c.s) a) (value_beside b (out-TExpr a)) c) left c.kept
    (again (Some c.s) b) (value_beside a (out-TExpr b)) c

-- what `s = right` does: it reduces s where the right side is `s op e`, `e op s` or a choice of s and e
abbrev pub assigned_step : List Occurrence → TExpr → TExpr-F TExpr → List Occurrence
assigned_step whole left (TExpr-F.Binary node op kind a b) =
    reduces_or (reduces_or whole (occurs_in a) (commuting op) (again (scalar_of left) b)) (occurs_in b) (by_group (group_of op)) (again (scalar_of left) a)
assigned_step whole left (TExpr-F.Cond node test a b) = chosen_if whole left a b (compared (scalar_of left) test)
assigned_step whole left _ = whole

-- what an expression statement does: `s op= e`, `s++`, `++s`, `s--`, `--s` and `s = ..` may reduce s
abbrev pub action_step : List Occurrence → TExpr-F TExpr → List Occurrence
action_step whole (TExpr-F.AssignBy node by left right) = reduces_or whole (occurs_in right) (by_group (change_group by)) (scalar_of left)
action_step whole (TExpr-F.Post node by e) = reduces_or whole [] (by_group (change_group by)) (scalar_of e)
action_step whole (TExpr-F.Pre node by e) = reduces_or whole [] (by_group (change_group by)) (scalar_of e)
action_step whole (TExpr-F.Assign node left right) = assigned_step whole left (out-TExpr (unconverted right))
action_step whole _ = whole

-- what an expression statement does
abbrev pub action_occurs : TExpr → List Occurrence
action_occurs e = action_step (occurs_in e) (out-TExpr e)
