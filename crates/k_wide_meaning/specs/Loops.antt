-- Believed with a public law.
-- Loops in Wide: what is fixed in a loop, what it steps, whether it is counted, and what it reduces.
use Rattle.std.specs.Prelude.{ℕ, nat_eq, Bool, true, false, ◌&&◌, ◌||◌, not, if◌then◌else◌, List, [], ◌∷◌, ◌++◌, count_by, filter, map, Option, Some, None}
use Rattle.std.specs.List.{list_all, list_any}
use Rattle.k_types_meaning.specs.declared.tree.expression.TExpr.{TExpr, fold-TExpr}
use Rattle.k_types_meaning.specs.declared.tree.expression.TExpr.TheOpen.{TExpr-F}
use Rattle.k_types_meaning.specs.declared.tree.unit.TVariable.{TVariable}
use Rattle.k_marks_meaning.specs.Loops.{is_register, same_group}
use Rattle.k_wide_meaning.specs.declared.loops.LoopSort.{LoopSort}
use Rattle.k_wide_meaning.specs.declared.loops.LoopSort.TheVariants as sort
use Rattle.k_wide_meaning.specs.declared.occurrences.Scalar.{Scalar}
use Rattle.k_wide_meaning.specs.declared.occurrences.Scalar.TheVariants.{Variable, Object}
use Rattle.k_wide_meaning.specs.declared.occurrences.WideGroup.{WideGroup}
use Rattle.k_wide_meaning.specs.declared.occurrences.WideGroup.TheVariants.{By, Least, Greatest}
use Rattle.k_wide_meaning.specs.declared.occurrences.Occurrence.{Occurrence}
use Rattle.k_wide_meaning.specs.declared.occurrences.Occurrence.TheVariants.{Names, Assigns, Declares, Reduces}
use Rattle.k_wide_meaning.specs.Occurrences.{option_occurs, first_declared, same_scalar}
use Rattle.k_wide_meaning.specs.Steps.{Step, listed, option_step, steps_in_step, option_test_step, step_in_test, beside_step}
use Rattle.k_wide_meaning.specs.Contents.{WideLoop}

-- WHAT STANDS AROUND a loop: the variables of its function, which file objects are plain globals, and what happens to file objects in the
-- functions that can be called from the loop's test, step and body
pub record Around : Type 0 where
  pub variables : List TVariable
  pub plain : ℕ → Bool
  pub beyond : List Occurrence

-- what happens in test, step and body
abbrev pub text_of : WideLoop → List Occurrence
text_of l = option_occurs l.test ++ (option_occurs l.step ++ l.body)

-- where a scalar may occur: a variable in this text, a file object also in the functions that can be called from it
abbrev pub reach_of : Around → Scalar → List Occurrence → List Occurrence
reach_of around (Variable n) text = text
reach_of around (Object n) text = text ++ around.beyond

-- a whole number in a register, or a plain global
abbrev pub is_scalar : Around → Scalar → Bool
is_scalar around (Variable n) = is_register around.variables n
is_scalar around (Object n) = around.plain n

-- a scalar is assigned, or declared, which sets or unsets it
abbrev pub assigns_it : Scalar → Occurrence → Bool
assigns_it s (Assigns t) = same_scalar t s
assigns_it s (Declares n) = same_scalar (Variable n) s
assigns_it s (Reduces r) = same_scalar r.scalar s
assigns_it s _ = false

-- a scalar keeps its value in a loop: nothing in test, step and body assigns it, nor, of a plain global, what can be called from there
abbrev pub stays : Around → WideLoop → Scalar → Bool
stays around l s = is_scalar around s && not (list_any (assigns_it s) (reach_of around s (text_of l)))

-- an expression is built, from operands that are, by operators without side effect, from constants and from scalars like these
abbrev pub built_step : (Scalar → Bool) → TExpr-F Bool → Bool
built_step like (TExpr-F.Number node value) = true
built_step like (TExpr-F.Object node n) = like (Object n)
built_step like (TExpr-F.Variable node n) = like (Variable n)
built_step like (TExpr-F.Plus node a) = a
built_step like (TExpr-F.Unary node op kind a) = a
built_step like (TExpr-F.Convert node a) = a
built_step like (TExpr-F.Cast node a) = a
built_step like (TExpr-F.Binary node op kind a b) = a && b
built_step like (TExpr-F.Both node a b) = a && b
built_step like (TExpr-F.Either node a b) = a && b
built_step like (TExpr-F.Cond node a b c) = a && (b && c)
built_step like (TExpr-F.Comma node a b) = a && b
built_step like _ = false

-- an expression is built by operators without side effect from constants and from scalars like these
abbrev pub is_built : (Scalar → Bool) → TExpr → Bool
is_built like = fold-TExpr Bool (built_step like)

-- A NUMBER IS FIXED in a loop; None is 1
abbrev pub is_fixed : Around → WideLoop → Option TExpr → Bool
is_fixed around l None = true
is_fixed around l (Some e) = is_built (stays around l) e

-- THE FIRST SORT of a STEP stands in the step of a `for`
abbrev pub first_sort : WideLoop → List Step
first_sort l = steps_in_step l.step

-- THE SECOND SORT is the last statement of the block that is the body of a `while` or `do`, which holds no `continue` of this loop
abbrev pub second_sort_of : LoopSort → WideLoop → List Step
second_sort_of sort.For l = []
second_sort_of _ l = if l.jumps.continues then [] else listed (option_step l.last)

-- the steps of the second sort in a loop
abbrev pub second_sort : WideLoop → List Step
second_sort l = second_sort_of l.sort l

-- THE THIRD SORT stands in the test of a `for` or `while`
abbrev pub third_sort_of : LoopSort → WideLoop → List Step
third_sort_of sort.Do l = []
third_sort_of _ l = listed (option_test_step l.test)

-- the steps of the third sort in a loop
abbrev pub third_sort : WideLoop → List Step
third_sort l = third_sort_of l.sort l

-- a variable is a whole number in a register, assigned at one place alone in test, step and body; where it is stepped, that is this step
abbrev pub steps_alone : Around → WideLoop → Step → Bool
steps_alone around l s =
    is_register around.variables s.v.variable
    && (nat_eq (count_by (assigns_it (Variable s.v.variable)) (text_of l)) 1 && is_fixed around l s.d)

-- WHAT A LOOP STEPS
unfoldable pub stepped : Around → WideLoop → List Step
stepped around l = filter (steps_alone around l) (first_sort l ++ (second_sort l ++ third_sort l))

-- a loop steps this variable
abbrev pub is_stepped : Around → WideLoop → ℕ → Bool
is_stepped around l n = list_any (λ (s : Step). nat_eq s.v.variable n) (stepped around l)

-- a loop steps this scalar
abbrev pub steps_it : Around → WideLoop → Scalar → Bool
steps_it around l (Variable n) = is_stepped around l n
steps_it around l (Object n) = false

-- what a test may be built from: what is fixed in the loop, and what it steps
abbrev pub steers : Around → WideLoop → Scalar → Bool
steers around l s = stays around l s || steps_it around l s

-- a STEP that stands in the test is one of the loop's
abbrev pub is_own_step : Around → WideLoop → Option Step → Bool
is_own_step around l None = true
is_own_step around l (Some s) = is_stepped around l s.v.variable

-- a test has no side effect but a STEP of the third sort, and is otherwise built from what steers the loop
abbrev pub is_steered : Around → WideLoop → Option TExpr → Bool
is_steered around l None = false
is_steered around l (Some test) = is_own_step around l (step_in_test test) && list_all (is_built (steers around l)) (beside_step test)

-- there is one
abbrev pub is_one : List Step → Bool
is_one [] = false
is_one (s ∷ ss) = true

-- a `for` or a `while`
abbrev pub is_tested_first : LoopSort → Bool
is_tested_first sort.Do = false
is_tested_first _ = true

-- A LOOP IS COUNTED in Wide: a `for` or `while` that steps a variable, whose test is steered, and whose body holds no `break` of this loop and no `return`
unfoldable pub is_counted : Around → WideLoop → Bool
is_counted around l =
    is_tested_first l.sort
    && (is_one (stepped around l) && (is_steered around l l.test && (not l.jumps.breaks && not l.jumps.returns)))

-- two groups are one
abbrev pub same_wide : WideGroup → WideGroup → Bool
same_wide (By g) (By h) = same_group g h
same_wide Least Least = true
same_wide Greatest Greatest = true
same_wide _ _ = false

-- what happens is nothing to this scalar, or its reduction by this group
abbrev pub fits : Scalar → WideGroup → Occurrence → Bool
fits s g (Names t) = not (same_scalar t s)
fits s g (Assigns t) = not (same_scalar t s)
fits s g (Declares n) = not (same_scalar (Variable n) s)
fits s g (Reduces r) = not (same_scalar r.scalar s) || same_wide r.group g
fits s g _ = true

-- what happens in a loop, and before its test, step and body the variables that it declares itself
abbrev pub loop_occurs : WideLoop → List Occurrence
loop_occurs l = first_declared l.start ++ text_of l

-- A SCALAR IS REDUCED in a loop by a group: a whole number in a register or a plain global, all of whose occurrences are in statements that reduce it so
unfoldable pub is_reduced : Around → WideLoop → Scalar → WideGroup → Bool
is_reduced around l s g = is_scalar around s && list_all (fits s g) (reach_of around s (loop_occurs l))

-- the read of a statement that reduces a scalar, where the loop reduces it
abbrev pub reduced_read : Around → WideLoop → Occurrence → List ℕ
reduced_read around l (Reduces r) = if is_reduced around l r.scalar r.group then r.read ∷ [] else []
reduced_read around l _ = []

-- those of all that happens here
abbrev pub reduced_reads : Around → WideLoop → List Occurrence → List ℕ
reduced_reads around l [] = []
reduced_reads around l (o ∷ os) = reduced_read around l o ++ reduced_reads around l os

-- THE READS THAT A LOOP BREAKS, by the numbers of their nodes: those of its STEPS, and those of its reductions, also in functions that can be called from it
abbrev pub broken_by : Around → WideLoop → List ℕ
broken_by around l = map (λ (s : Step). s.v.node) (stepped around l) ++ reduced_reads around l (loop_occurs l ++ around.beyond)
