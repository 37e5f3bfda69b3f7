-- Believed with the theorem on the top call.
-- The canonical form of a loop (OpenMP 5.0, 2.9.1), so far as the typed tree tells it: its first value, in which kind the test compares, and which way the step goes.
use Rattle.std.specs.Prelude.{nat_le, Bool, false, true, not, ◌&&◌, ◌||◌, ℤ, pos, neg_ℤ, int_lt, Option, Some, None}
use Rattle.std.specs.List.{list_all}
use Rattle.std.specs.Ordering.{int_eq}
use Rattle.k_num.specs.declared.numbers.Bin.{Bin}
use Rattle.k_num.specs.declared.numbers.Bin.TheVariants.{Add, Sub, Lt, Le, Gt, Ge, Ne}
use Rattle.k_num.specs.declared.numbers.Kind.{Kind}
use Rattle.k_num.specs.Kind.{is_held, is_signed, width}
use Rattle.k_types_meaning.specs.Types.{same_kind}
use Rattle.k_types_meaning.specs.declared.types.TType.{TType}
use Rattle.k_types_meaning.specs.declared.types.TType.TheVariants as ttype
use Rattle.k_types_meaning.specs.declared.tree.expression.Change.{Change}
use Rattle.k_types_meaning.specs.declared.tree.expression.Change.TheVariants as change
use Rattle.k_types_meaning.specs.declared.tree.declaration.TDeclarator.{TDeclarator}
use Rattle.k_types_meaning.specs.declared.tree.declaration.TInit.{TInit}
use Rattle.k_types_meaning.specs.declared.tree.declaration.TInit.TheVariants as begins
use Rattle.k_types_meaning.specs.declared.tree.expression.TExpr.{TExpr, fold-TExpr, out-TExpr}
use Rattle.k_types_meaning.specs.declared.tree.expression.TExpr.TheOpen.{TExpr-F}
use Rattle.k_types_meaning.specs.declared.tree.statement.TFirst.{TFirst}
use Rattle.k_types_meaning.specs.declared.tree.statement.TFirst.TheVariants as first

-- a kind has at least 32 bits
abbrev pub is_wide : Kind → Bool
is_wide kind = nat_le 32 (width kind)

-- a type is that of the numbers of this kind
abbrev pub is_of_kind : Kind → TType → Bool
is_of_kind kind ttype.Void = false
is_of_kind kind (ttype.Number k) = same_kind k kind
is_of_kind kind (ttype.Pointer target) = false

-- an expression is itself a variable of this kind
abbrev pub variable_step : Kind → TExpr-F TExpr → Bool
variable_step kind (TExpr-F.Variable node n) = is_of_kind kind node.of
variable_step kind _ = false

-- an expression is itself a variable of this kind
abbrev pub is_variable : Kind → TExpr → Bool
is_variable kind e = variable_step kind (out-TExpr e)

-- an expression is converted, though the source writes no cast
abbrev pub converted_step : TExpr-F TExpr → Bool
converted_step (TExpr-F.Convert node e) = true
converted_step _ = false

-- an expression is converted, though the source writes no cast
abbrev pub is_converted : TExpr → Bool
is_converted e = converted_step (out-TExpr e)

-- i is compared in its own kind, of at least 32 bits, with what has this kind without a conversion, or is a constant
abbrev pub compares : Kind → TExpr → TExpr → Bool
compares kind left right = is_wide kind && (is_variable kind left && not (is_converted right))

-- a step adds a number above 0, or takes one below 0 away
abbrev pub goes_up : Change → ℤ → Bool
goes_up (change.Number Add kind) n = int_lt (pos 0) n
goes_up (change.Number Sub kind) n = int_lt n (pos 0)
goes_up _ n = false

-- a step takes a number above 0 away, or adds one below 0
abbrev pub goes_down : Change → ℤ → Bool
goes_down (change.Number Add kind) n = int_lt n (pos 0)
goes_down (change.Number Sub kind) n = int_lt (pos 0) n
goes_down _ n = false

-- a number is 1 or -1
abbrev pub is_one : ℤ → Bool
is_one n = int_eq n (pos 1) || int_eq n (neg_ℤ (pos 1))

-- a step goes the way of the test: up for `<` and `<=`, down for `>` and `>=`, and for `!=` either way, by 1
abbrev pub goes_along : Bin → Change → ℤ → Bool
goes_along Lt by n = goes_up by n
goes_along Le by n = goes_up by n
goes_along Gt by n = goes_down by n
goes_along Ge by n = goes_down by n
goes_along Ne by n = is_one n && (goes_up by n || goes_down by n)
goes_along _ by n = false

-- it does so by a number that i's kind holds, and where that is unsigned by 1: so i can't wrap and the loop end
abbrev pub goes : Bin → Kind → Change → ℤ → Bool
goes op kind by n = goes_along op by n && (is_held kind n && (is_signed kind || is_one n))

-- the same of a step by the number that an expression is
abbrev pub number_step : Bin → Kind → Change → TExpr-F TExpr → Bool
number_step op kind by (TExpr-F.Number node n) = goes op kind by n
number_step op kind by _ = false

-- the same of a step by an expression
abbrev pub goes_by : Bin → Kind → Change → TExpr → Bool
goes_by op kind by e = number_step op kind by (out-TExpr e)

-- the same of a step: `++` and `--` are by 1
abbrev pub counting_step : Bin → Kind → TExpr-F TExpr → Bool
counting_step op kind (TExpr-F.Post node by e) = goes op kind by (pos 1)
counting_step op kind (TExpr-F.Pre node by e) = goes op kind by (pos 1)
counting_step op kind (TExpr-F.AssignBy node by left right) = goes_by op kind by right
counting_step op kind _ = false

-- the same of a step
abbrev pub counts_along : Bin → Kind → TExpr → Bool
counts_along op kind step = counting_step op kind (out-TExpr step)

-- the same of a step that may be left out
abbrev pub steps_along : Bin → Kind → Option TExpr → Bool
steps_along op kind None = false
steps_along op kind (Some step) = counts_along op kind step

-- the test is `i op e`, in kinds as they have to be, and the step goes its way
abbrev pub test_step : Option TExpr → TExpr-F TExpr → Bool
test_step step (TExpr-F.Binary node op kind left right) = compares kind left right && steps_along op kind step
test_step step _ = false

-- the test is `i op e`, in kinds as they have to be, and the step goes its way
abbrev pub is_tested_so : TExpr → Option TExpr → Bool
is_tested_so test step = test_step step (out-TExpr test)

-- the same of a test that may be left out
abbrev pub is_tested : Option TExpr → Option TExpr → Bool
is_tested None step = false
is_tested (Some test) step = is_tested_so test step

-- an expression, of whose operands it is known, has no effect but its value: it assigns nothing, calls nothing, and neither reads input nor writes
abbrev pub effectless_step : TExpr-F Bool → Bool
effectless_step (TExpr-F.Number node value) = true
effectless_step (TExpr-F.Str node n bytes) = true
effectless_step (TExpr-F.Object node n) = true
effectless_step (TExpr-F.Variable node n) = true
effectless_step (TExpr-F.Index node a b) = a && b
effectless_step (TExpr-F.Address node a) = a
effectless_step (TExpr-F.Deref node a) = a
effectless_step (TExpr-F.Plus node a) = a
effectless_step (TExpr-F.Unary node op kind a) = a
effectless_step (TExpr-F.Convert node a) = a
effectless_step (TExpr-F.Cast node a) = a
effectless_step (TExpr-F.Binary node op kind a b) = a && b
effectless_step (TExpr-F.Both node a b) = a && b
effectless_step (TExpr-F.Either node a b) = a && b
effectless_step (TExpr-F.PtrCompare node op a b) = a && b
effectless_step (TExpr-F.PtrDistance node a b) = a && b
effectless_step (TExpr-F.Cond node a b c) = a && (b && c)
effectless_step (TExpr-F.Comma node a b) = a && b
effectless_step _ = false

-- an expression has no effect but its value, so that each thread may evaluate it
abbrev pub is_effectless : TExpr → Bool
is_effectless = fold-TExpr Bool effectless_step

-- an initialiser is an expression without effect
abbrev pub init_effectless : TInit → Bool
init_effectless begins.Nothing = false
init_effectless (begins.Value e) = is_effectless e
init_effectless (begins.Elements items) = false

-- a declarator has such an initialiser
abbrev pub declares_effectless : TDeclarator → Bool
declares_effectless d = init_effectless d.init

-- an expression assigns the value of an expression without effect
abbrev pub assigned_step : TExpr-F TExpr → Bool
assigned_step (TExpr-F.Assign node left right) = is_effectless right
assigned_step _ = false

-- an expression assigns the value of an expression without effect
abbrev pub assigns_effectless : TExpr → Bool
assigns_effectless e = assigned_step (out-TExpr e)

-- the first part is `i = e` or declares `i = e`, and e has no effect: how often it is evaluated is not told (OpenMP 5.0, 2.9.1)
abbrev pub begins_effectless : TFirst → Bool
begins_effectless first.Nothing = false
begins_effectless (first.Value e) = assigns_effectless e
begins_effectless (first.Declare list) = list_all declares_effectless list

-- A LOOP with this first part, test and step IS CANONICAL by its types: its first value has no effect, i is compared in its own kind, and the step
-- goes the way of the test
abbrev pub is_canonical : TFirst → Option TExpr → Option TExpr → Bool
is_canonical start test step = begins_effectless start && is_tested test step
