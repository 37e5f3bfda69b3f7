-- Believed with a public law.
-- STEPS of a variable, and where they stand in a loop.
use Rattle.std.specs.Prelude.{ℕ, zero, suc, ◌+◌, max, Bool, true, false, if◌then◌else◌, List, [], ◌∷◌, ◌++◌, map, Option, Some, None}
use Rattle.k_num.specs.declared.numbers.Bin.{Bin}
use Rattle.k_num.specs.declared.numbers.Bin.TheVariants.{Add, Sub, Lt, Le, Gt, Ge, Eq, Ne}
use Rattle.k_types_meaning.specs.declared.tree.expression.TExpr.{TExpr, fold-TExpr, out-TExpr}
use Rattle.k_types_meaning.specs.declared.tree.expression.TExpr.TheOpen.{TExpr-F}
use Rattle.k_marks_meaning.specs.declared.uses.Read.{Read}
use Rattle.k_marks_meaning.specs.Loops.{adds}
use Rattle.k_marks_meaning.specs.Reductions.{variable_of, read_of, read_again, unconverted}

-- A STEP: the variable v, as it is read there, and d, by which v changes; None is 1.
pub record Step : Type 0 where
  pub v : Read
  pub d : Option TExpr

-- the step of a variable that is read so, if it is one
abbrev pub step_by : Option TExpr → Option Read → Option Step
step_by d None = None
step_by d (Some v) = Some (record { v = v; d = d })

-- the same, where this holds
abbrev pub step_if : Bool → Option TExpr → Option Read → Option Step
step_if holds d v = if holds then step_by d v else None

-- the first of two that there is
abbrev pub either_step : Option Step → Option Step → Option Step
either_step None b = b
either_step (Some a) b = Some a

-- an operator is `+` or `-`
abbrev pub is_sum : Bin → Bool
is_sum Add = true
is_sum Sub = true
is_sum _ = false

-- an operator is `+`
abbrev pub is_plus : Bin → Bool
is_plus Add = true
is_plus _ = false

-- `v = v + d`, `v = v - d` and `v = d + v`, by the right side
abbrev pub sum_step : Option Read → TExpr-F TExpr → Option Step
sum_step v (TExpr-F.Binary node op kind left right) =
    either_step (step_if (is_sum op) (Some right) (read_again v (read_of left))) (step_if (is_plus op) (Some left) (read_again v (read_of right)))
sum_step v _ = None

-- `v++`, `++v`, `v--` and `--v`
abbrev pub unit_step : TExpr-F TExpr → Option Step
unit_step (TExpr-F.Post node by e) = step_if (adds by) None (variable_of e)
unit_step (TExpr-F.Pre node by e) = step_if (adds by) None (variable_of e)
unit_step _ = None

-- the STEP that an expression is: one of these, `v += d`, `v -= d`, `v = v + d`, `v = v - d` or `v = d + v`
abbrev pub step_in : TExpr-F TExpr → Option Step
step_in (TExpr-F.Post node by e) = step_if (adds by) None (variable_of e)
step_in (TExpr-F.Pre node by e) = step_if (adds by) None (variable_of e)
step_in (TExpr-F.AssignBy node by left right) = step_if (adds by) (Some right) (variable_of left)
step_in (TExpr-F.Assign node left right) = sum_step (variable_of left) (out-TExpr (unconverted right))
step_in _ = None

-- the same of an expression
abbrev pub step_of : TExpr → Option Step
step_of e = step_in (out-TExpr e)

-- the same of one that may be left out
abbrev pub option_step : Option TExpr → Option Step
option_step None = None
option_step (Some e) = step_of e

-- a list of it, if it is there
abbrev pub listed : Option Step → List Step
listed None = []
listed (Some s) = s ∷ []

-- how deep the commas nest of which an expression is made
abbrev pub commas_step : TExpr-F ℕ → ℕ
commas_step (TExpr-F.Comma node a b) = 1 + max a b
commas_step _ = 0

-- how deep the commas nest of which an expression is made
abbrev pub commas : TExpr → ℕ
commas = fold-TExpr ℕ commas_step

-- the operands of a comma, by those of each side; of what is none, itself
abbrev pub split : (TExpr → List TExpr) → TExpr → TExpr-F TExpr → List TExpr
split parts e (TExpr-F.Comma node a b) = parts a ++ parts b
split parts e _ = e ∷ []

-- the operands of the commas of which an expression is made, where these nest at most so deep
unfoldable pub operands : ℕ → TExpr → List TExpr
operands zero e = e ∷ []
operands (suc k) e = split (operands k) e (out-TExpr e)

-- several steps, where they are there
abbrev pub all_listed : List (Option Step) → List Step
all_listed [] = []
all_listed (s ∷ rest) = listed s ++ all_listed rest

-- THE FIRST SORT: the step of a `for`, or an operand of the commas of which the step is made
abbrev pub steps_in_step : Option TExpr → List Step
steps_in_step None = []
steps_in_step (Some e) = all_listed (map step_of (operands (commas e) e))

-- an operator compares
abbrev pub compares : Bin → Bool
compares Lt = true
compares Le = true
compares Gt = true
compares Ge = true
compares Eq = true
compares Ne = true
compares _ = false

-- the left operand of a comparison
abbrev pub compared_step : TExpr-F TExpr → Option Step
compared_step (TExpr-F.Binary node op kind left right) = if compares op then unit_step (out-TExpr (unconverted left)) else None
compared_step _ = None

-- THE THIRD SORT, in a test: the whole test, or the left operand of the comparison that is the whole test
abbrev pub step_in_test : TExpr → Option Step
step_in_test test = either_step (unit_step (out-TExpr test)) (compared_step (out-TExpr test))

-- the same of a test that may be left out
abbrev pub option_test_step : Option TExpr → Option Step
option_test_step None = None
option_test_step (Some test) = step_in_test test

-- there is one
abbrev pub is_there : Option Step → Bool
is_there None = false
is_there (Some s) = true

-- the test beside a STEP of its left operand
abbrev pub beside_compared : TExpr → Option Step → TExpr-F TExpr → List TExpr
beside_compared test (Some s) (TExpr-F.Binary node op kind left right) = right ∷ []
beside_compared test s form = test ∷ []

-- what a test has beside the STEP in it
abbrev pub beside_step : TExpr → List TExpr
beside_step test =
    if is_there (unit_step (out-TExpr test)) then [] else beside_compared test (compared_step (out-TExpr test)) (out-TExpr test)
