-- Believed with the theorem on the top call.
-- Counted loops and reductions: the conditions under which a dependence from turn to turn is broken.
use Rattle.std.specs.Prelude.{ℕ, nat_eq, Bool, true, false, ◌&&◌, ◌||◌, not, if◌then◌else◌, pos, List, [], ◌∷◌, ◌++◌, count_by, Option, Some, None}
use Rattle.std.specs.Ordering.{int_eq}
use Rattle.std.specs.List.{list_all, list_any, slice_get}
use Rattle.k_num.specs.declared.numbers.Bin.{Bin}
use Rattle.k_num.specs.declared.numbers.Bin.TheVariants.{Add, Sub, Lt, Le, Gt, Ge, Ne}
use Rattle.k_types_meaning.specs.declared.types.TType.{TType}
use Rattle.k_types_meaning.specs.declared.types.TType.TheVariants as ttype
use Rattle.k_types_meaning.specs.declared.tree.expression.Change.{Change}
use Rattle.k_types_meaning.specs.declared.tree.expression.Change.TheVariants as change
use Rattle.k_types_meaning.specs.declared.tree.expression.TExpr.{TExpr, fold-TExpr, out-TExpr}
use Rattle.k_types_meaning.specs.declared.tree.expression.TExpr.TheOpen.{TExpr-F}
use Rattle.k_types_meaning.specs.declared.tree.statement.TFirst.{TFirst}
use Rattle.k_types_meaning.specs.declared.tree.unit.TVariable.{TVariable}
use Rattle.k_marks_meaning.specs.declared.jumps.Jumps.{Jumps}
use Rattle.k_marks_meaning.specs.declared.uses.Group.{Group}
use Rattle.k_marks_meaning.specs.declared.uses.Group.TheVariants.{Sums, Products, Ands, Ors, Xors}
use Rattle.k_marks_meaning.specs.declared.uses.Read.{Read}
use Rattle.k_marks_meaning.specs.declared.uses.Use.{Use}
use Rattle.k_marks_meaning.specs.declared.uses.Use.TheVariants.{Names, Assigns, Declares, Reduces}
use Rattle.k_marks_meaning.specs.Uses.{option_uses, first_declares}
use Rattle.k_marks_meaning.specs.Reductions.{variable_of, read_of}

-- A loop, of whose body it is known what it does with variables and which jumps lead out of it. A `while` and a `do` have a test alone.
pub record Loop : Type 0 where
  pub start : TFirst
  pub test : Option TExpr
  pub step : Option TExpr
  pub body_uses : List Use
  pub body_jumps : Jumps

-- what happens to variables in test, step and body, and before these the variables that the loop itself declares
abbrev pub loop_uses : Loop → List Use
loop_uses l = first_declares l.start ++ (option_uses l.test ++ (option_uses l.step ++ l.body_uses))

-- a variable is a whole number in a register
abbrev pub is_number : TType → Bool
is_number ttype.Void = false
is_number (ttype.Number kind) = true
is_number (ttype.Pointer target) = false

-- a variable is a whole number in a register
abbrev pub is_number_register : TVariable → Bool
is_number_register v = is_number v.of && nat_eq v.elements 0

-- the same of a variable, if there is one
abbrev pub is_register_there : Option TVariable → Bool
is_register_there None = false
is_register_there (Some v) = is_number_register v

-- the variable of this number is a whole number in a register
abbrev pub is_register : List TVariable → ℕ → Bool
is_register vs n = is_register_there (slice_get vs n)

-- a variable is assigned: by an expression, or by a statement that reduces it; its declarator does not assign it
abbrev pub assigns_it : ℕ → Use → Bool
assigns_it n (Names m) = false
assigns_it n (Assigns m) = nat_eq m n
assigns_it n (Declares m) = false
assigns_it n (Reduces r) = nat_eq r.variable n

-- a variable is assigned in a loop
abbrev pub is_assigned : Loop → ℕ → Bool
is_assigned l n = list_any (assigns_it n) (loop_uses l)

-- an operation is `+` or `-` of numbers
abbrev pub adds : Change → Bool
adds (change.Number Add kind) = true
adds (change.Number Sub kind) = true
adds _ = false

-- a number other than 0
abbrev pub nonzero_step : TExpr-F TExpr → Bool
nonzero_step (TExpr-F.Number node value) = not (int_eq value (pos 0))
nonzero_step _ = false

-- a number other than 0
abbrev pub is_nonzero : TExpr → Bool
is_nonzero e = nonzero_step (out-TExpr e)

-- the read of a variable, where this holds
abbrev pub read_if : Bool → TExpr → Option Read
read_if holds e = if holds then variable_of e else None

-- THE FIRST CONDITION: the step is `i++`, `++i`, `i--`, `--i`, `i += k` or `i -= k` with a number k other than 0. This is i, as it is read there.
abbrev pub counter_step : TExpr-F TExpr → Option Read
counter_step (TExpr-F.Post node by e) = read_if (adds by) e
counter_step (TExpr-F.Pre node by e) = read_if (adds by) e
counter_step (TExpr-F.AssignBy node by left right) = read_if (adds by && is_nonzero right) left
counter_step _ = None

-- the same of a step
abbrev pub counter_of : TExpr → Option Read
counter_of step = counter_step (out-TExpr step)

-- the same of a step that may be left out
abbrev pub counter : Option TExpr → Option Read
counter None = None
counter (Some step) = counter_of step

-- an operator by which a counted loop is tested
abbrev pub tests : Bin → Bool
tests Lt = true
tests Le = true
tests Gt = true
tests Ge = true
tests Ne = true
tests _ = false

-- a read is of this variable
abbrev pub reads : ℕ → Option Read → Bool
reads n None = false
reads n (Some r) = nat_eq r.variable n

-- an expression, where this holds
abbrev pub expr_if : Bool → TExpr → Option TExpr
expr_if holds e = if holds then Some e else None

-- THE SECOND CONDITION: the test is `i op e` with one of these operators. This is e.
abbrev pub bound_step : ℕ → TExpr-F TExpr → Option TExpr
bound_step n (TExpr-F.Binary node op kind left right) = expr_if (tests op && reads n (read_of left)) right
bound_step n _ = None

-- the same of a test
abbrev pub bound_in : ℕ → TExpr → Option TExpr
bound_in n test = bound_step n (out-TExpr test)

-- the same of a test that may be left out
abbrev pub bound_of : ℕ → Option TExpr → Option TExpr
bound_of n None = None
bound_of n (Some test) = bound_in n test

-- THE THIRD CONDITION: i is a whole number in a register, and the step alone assigns it in test, step and body.
abbrev pub steps_alone : List TVariable → Loop → ℕ → Bool
steps_alone vs l n = is_register vs n && nat_eq (count_by (assigns_it n) (loop_uses l)) 1

-- an expression is built, from operands that are, by operators without side effect, from numbers and from variables that are fixed
abbrev pub fixed_step : (ℕ → Bool) → TExpr-F Bool → Bool
fixed_step fixed (TExpr-F.Number node value) = true
fixed_step fixed (TExpr-F.Variable node n) = fixed n
fixed_step fixed (TExpr-F.Plus node a) = a
fixed_step fixed (TExpr-F.Unary node op kind a) = a
fixed_step fixed (TExpr-F.Convert node a) = a
fixed_step fixed (TExpr-F.Cast node a) = a
fixed_step fixed (TExpr-F.Binary node op kind a b) = a && b
fixed_step fixed (TExpr-F.Both node a b) = a && b
fixed_step fixed (TExpr-F.Either node a b) = a && b
fixed_step fixed (TExpr-F.Cond node a b c) = a && (b && c)
fixed_step fixed (TExpr-F.Comma node a b) = a && b
fixed_step fixed _ = false

-- an expression is built by operators without side effect from numbers and from variables that are fixed
abbrev pub is_fixed : (ℕ → Bool) → TExpr → Bool
is_fixed fixed = fold-TExpr Bool (fixed_step fixed)

-- a variable keeps its value in a loop: a whole number in a register, which nothing in test, step and body assigns
abbrev pub stays : List TVariable → Loop → ℕ → Bool
stays vs l n = is_register vs n && not (is_assigned l n)

-- THE FOURTH CONDITION: e is built by operators without side effect from numbers and from variables that stay.
abbrev pub has_bound : List TVariable → Loop → Option TExpr → Bool
has_bound vs l None = false
has_bound vs l (Some bound) = is_fixed (stays vs l) bound

-- THE FIFTH CONDITION: the body holds no `break` of this loop and no `return`.
abbrev pub runs_through : Loop → Bool
runs_through l = not l.body_jumps.breaks && not l.body_jumps.returns

-- the second to fifth conditions, of the variable that the first finds
abbrev pub counts : List TVariable → Loop → Option Read → Bool
counts vs l None = false
counts vs l (Some i) = steps_alone vs l i.variable && (has_bound vs l (bound_of i.variable l.test) && runs_through l)

-- A LOOP IS COUNTED: it meets the five conditions. Without a step, as a `while` and a `do`, it meets not the first.
unfoldable pub is_counted : List TVariable → Loop → Bool
is_counted vs l = counts vs l (counter l.step)

-- two groups are one
abbrev pub same_group : Group → Group → Bool
same_group Sums Sums = true
same_group Products Products = true
same_group Ands Ands = true
same_group Ors Ors = true
same_group Xors Xors = true
same_group _ _ = false

-- what happens is nothing to this variable, or its reduction by an operator of this group
abbrev pub fits : ℕ → Group → Use → Bool
fits n g (Names m) = not (nat_eq m n)
fits n g (Assigns m) = not (nat_eq m n)
fits n g (Declares m) = not (nat_eq m n)
fits n g (Reduces r) = not (nat_eq r.variable n) || same_group r.group g

-- A VARIABLE IS REDUCED in a loop by operators of a group: a whole number in a register, which occurs in test, step and body only in
-- expression statements that reduce it so, and which the loop does not declare. That the other operand of such a statement does not name it
-- is part of this, since what that operand does is among the uses.
unfoldable pub is_reduced : List TVariable → Loop → ℕ → Group → Bool
is_reduced vs l n g = is_register vs n && list_all (fits n g) (loop_uses l)

-- the read of a counted loop's step
abbrev pub counter_read : Option Read → List ℕ
counter_read None = []
counter_read (Some i) = i.node ∷ []

-- the read of a reduction, where its variable is reduced in the loop
abbrev pub reduced_read : List TVariable → Loop → Use → List ℕ
reduced_read vs l (Reduces r) = if is_reduced vs l r.variable r.group then r.read ∷ [] else []
reduced_read vs l _ = []

-- those of several uses
abbrev pub reduced_reads : List TVariable → Loop → List Use → List ℕ
reduced_reads vs l [] = []
reduced_reads vs l (u ∷ us) = reduced_read vs l u ++ reduced_reads vs l us

-- THE READS THAT A LOOP BREAKS, by the numbers of their nodes: that of a counted loop's step, and those of the reductions in it
abbrev pub broken_by : List TVariable → Loop → List ℕ
broken_by vs l = (if is_counted vs l then counter_read (counter l.step) else []) ++ reduced_reads vs l (loop_uses l)

-- those of several loops
abbrev pub broken_by_all : List TVariable → List Loop → List ℕ
broken_by_all vs [] = []
broken_by_all vs (l ∷ ls) = broken_by vs l ++ broken_by_all vs ls
