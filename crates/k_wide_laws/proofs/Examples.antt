-- Examples: loops that *Marks* do not count and Wide does, and a read that Wide alone breaks.
use Rattle.std.proofs.Common.{◌≡◌, ℕ, pos, Bool, true, false, not, List, [], ◌∷◌, ◌++◌, map, Option, Some, None, refl, sym, ◌∙◌, ap, true≢false}
use Rattle.std.specs.Prelude.{nat_eq, ◌&&◌, ◌||◌, count_by, filter, if◌then◌else◌, unwrap_or}
use Rattle.std.specs.List.{list_all, list_any}
use Rattle.std.specs.Cmp.Lexicographic.{pointwise}
use Rattle.std.proofs.lemmas.Bool.{eq-eqb}
use Rattle.k_num.specs.declared.place.Place.{Place}
use Rattle.k_num.specs.declared.numbers.Bin.{Bin}
use Rattle.k_num.specs.declared.numbers.Bin.TheVariants.{Add, Mul, Lt, Gt}
use Rattle.k_num.specs.declared.numbers.Kind.TheVariants.{I32}
use Rattle.k_types_meaning.specs.declared.types.TType.TheVariants as ttype
use Rattle.k_types_meaning.specs.declared.tree.declaration.TDeclarator.{TDeclarator}
use Rattle.k_types_meaning.specs.declared.tree.declaration.TInit.TheVariants as begins
use Rattle.k_types_meaning.specs.declared.tree.expression.Change.TheVariants as change
use Rattle.k_types_meaning.specs.declared.tree.expression.Node.{Node}
use Rattle.k_types_meaning.specs.declared.tree.expression.TExpr.{TExpr}
use Rattle.k_types_meaning.specs.declared.tree.expression.TExpr.TheVariants as typed
use Rattle.k_types_meaning.specs.declared.tree.statement.Spot.{Spot}
use Rattle.k_types_meaning.specs.declared.tree.statement.TFirst.TheVariants as first
use Rattle.k_types_meaning.specs.declared.tree.statement.TStmt.{TStmt}
use Rattle.k_types_meaning.specs.declared.tree.statement.TStmt.TheVariants as stmt
use Rattle.k_types_meaning.specs.declared.tree.unit.TVariable.{TVariable}
use Rattle.k_types_meaning.proofs.Folds.{typed_Number, typed_Object, typed_Variable, typed_Index, typed_Post, typed_Unary, typed_Binary, typed_Assign, typed_AssignBy, done_Expr, done_alone, done_For, done_Return, done_Declare}
use Rattle.k_marks_laws.proofs.Out.{out_Number, out_Object, out_Variable, out_Index, out_Post, out_Unary, out_Binary, out_Assign, out_AssignBy}
use Rattle.k_marks_meaning.specs.Jumps.{no_jumps}
use Rattle.k_wide_meaning.specs.declared.loops.LoopSort.TheVariants as sort
use Rattle.k_wide_meaning.specs.declared.occurrences.Scalar.{Scalar}
use Rattle.k_wide_meaning.specs.declared.occurrences.Scalar.TheVariants.{Variable, Object}
use Rattle.k_wide_meaning.specs.declared.occurrences.WideGroup.TheVariants.{Greatest}
use Rattle.k_wide_meaning.specs.declared.occurrences.Occurrence.{Occurrence}
use Rattle.k_wide_meaning.specs.declared.occurrences.Occurrence.TheVariants.{Names, Assigns, Reduces}
use Rattle.k_marks_meaning.specs.declared.jumps.Jumps.{Jumps}
use Rattle.k_types_meaning.specs.declared.tree.statement.TPart.TheOpen.{TStmt-F}
use Rattle.k_wide_meaning.specs.contracts.signs.SignPartialEq.TheImpl as signs
use Rattle.k_wide_meaning.specs.declared.signs.Sign.TheVariants as sign
use Rattle.k_wide_meaning.specs.Occurrences.{Occurring, occurring, of_all, occurs_in}
use Rattle.k_wide_meaning.specs.Signs.{signs_of, is_other, are_same}
use Rattle.k_wide_meaning.specs.Reductions.{Compared, compared, scalar_of, taken_of, keeps_by, kept_step, kept_if, action_occurs}
use Rattle.k_wide_meaning.specs.Steps.{Step, listed, all_listed, step_of, steps_in_step, step_in_test, beside_step, commas, operands}
use Rattle.k_wide_meaning.specs.Contents.{WideLoop, Seen, seen, seen_step, part_step, kept_first}
use Rattle.k_wide_meaning.specs.Loops.{Around, text_of, assigns_it, is_built, stays, first_sort, second_sort, third_sort, steps_alone, stepped, is_stepped, steers, is_own_step, is_steered, is_one, is_tested_first, is_counted}
use Rattle.k_wide_laws.proofs.Kept.{and_both}

abbrev place : Place
place = record { line = 1; column = 1 }

-- an int, and an array of ints, of these numbers
abbrev int : ℕ → Node
int n = record { number = n; place = place; of = ttype.Number I32 }

abbrev array : ℕ → Node
array n = record { number = n; place = place; of = ttype.Pointer (record { kind = I32; elements = 1 }) }

abbrev spot : ℕ → Spot
spot n = record { number = n; place = place }

-- a variable of the function, a file object, a number
abbrev v : ℕ → ℕ → TExpr
v n variable = typed.Variable (int n) variable

abbrev g : ℕ → ℕ → TExpr
g n object = typed.Object (int n) object

abbrev number : ℕ → ℕ → TExpr
number n value = typed.Number (int n) (pos value)

-- an element of a file object
abbrev element : ℕ → ℕ → ℕ → TExpr → TExpr
element n m object index = typed.Index (int n) (typed.Object (array m) object) index

abbrev op : ℕ → Bin → TExpr → TExpr → TExpr
op n o left right = typed.Binary (int n) o I32 left right

abbrev set : ℕ → TExpr → TExpr → TExpr
set n left right = typed.Assign (int n) left right

abbrev incremented : ℕ → TExpr → TExpr
incremented n e = typed.Post (int n) (change.Number Add I32) e

abbrev does : ℕ → TExpr → TStmt
does n e = stmt.Expr (spot n) e

abbrev declared : ℕ → TDeclarator
declared variable = record { place = place; variable = variable; init = begins.Nothing }

abbrev int_variable : TVariable
int_variable = record { place = place; of = ttype.Number I32; elements = 0 }

-- the equations by which trees are taken apart
ruleset forms = (typed_Number, typed_Object, typed_Variable, typed_Index, typed_Post, typed_Unary, typed_Binary, typed_Assign, typed_AssignBy, done_Expr, done_alone, done_For, done_Return, done_Declare, out_Number, out_Object, out_Variable, out_Index, out_Post, out_Unary, out_Binary, out_Assign, out_AssignBy)

or_right : (a b : Bool) → b ≡ true → (a || b) ≡ true
or_right true b h = refl
or_right false b h = h

or_left : (a b : Bool) → a ≡ true → (a || b) ≡ true
or_left true b h = refl
or_left false b h = absurd (true≢false (sym h))

-- A `for` is counted whose step is this one, without commas, and whose test has no STEP
module _ (around : Around) (l : WideLoop) (e test : TExpr) (s : Step) (is_for : l.sort ≡ sort.For) (step_is : l.step ≡ Some e) (test_is : l.test ≡ Some test) (plain : commas e ≡ 0)
    (is_step : step_of e ≡ Some s) (alone : steps_alone around l s ≡ true) (jumps_are : l.jumps ≡ no_jumps) where
  first_is : first_sort l ≡ s ∷ []
  unfolding operands
  first_is =
      ap steps_in_step step_is
      ∙ (ap (λ (k : ℕ). all_listed (map step_of (operands k e))) plain ∙ ap (λ (o : Option Step). listed o ++ []) is_step)

  stepped_by : stepped around l ≡ s ∷ filter (steps_alone around l) (second_sort l ++ third_sort l)
  unfolding stepped
  stepped_by =
      ap (λ (ss : List Step). filter (steps_alone around l) (ss ++ (second_sort l ++ third_sort l))) first_is
      ∙ ap (λ b. if b then s ∷ filter (steps_alone around l) (second_sort l ++ third_sort l) else filter (steps_alone around l) (second_sort l ++ third_sort l)) alone

  steered_by : steers around l (Variable s.v.variable) ≡ true
  steered_by =
      or_right (stays around l (Variable s.v.variable)) (is_stepped around l s.v.variable)
      (ap (λ (ss : List Step). list_any (λ (t : Step). nat_eq t.v.variable s.v.variable) ss) stepped_by
      ∙ or_left (nat_eq s.v.variable s.v.variable) (list_any (λ (t : Step). nat_eq t.v.variable s.v.variable) (filter (steps_alone around l) (second_sort l ++ third_sort l)))
      (eq-eqb s.v.variable s.v.variable refl))

  counted_by : step_in_test test ≡ None → beside_step test ≡ test ∷ [] → is_built (steers around l) test ≡ true → is_counted around l ≡ true
  unfolding is_counted
  counted_by none beside built =
      let steered : is_steered around l (Some test) ≡ true =
      and_both (is_own_step around l (step_in_test test)) (list_all (is_built (steers around l)) (beside_step test)) (ap (is_own_step around l) none)
      (ap (list_all (is_built (steers around l))) beside ∙ and_both (is_built (steers around l) test) true built refl) in
      and_both (is_tested_first l.sort) (is_one (stepped around l) && (is_steered around l l.test && (not l.jumps.breaks && not l.jumps.returns))) (ap is_tested_first is_for)
      (and_both (is_one (stepped around l)) (is_steered around l l.test && (not l.jumps.breaks && not l.jumps.returns)) (ap is_one stepped_by)
      (and_both (is_steered around l l.test) (not l.jumps.breaks && not l.jumps.returns) (ap (is_steered around l) test_is ∙ steered)
      (ap (λ (j : Jumps). not j.breaks && not j.returns) jumps_are)))

-- a loop of a function, of whose file objects these are plain globals, where nothing is called
abbrev in_function : List TVariable → (ℕ → Bool) → Around
in_function variables plain = record { variables = variables; plain = plain; beyond = [] }

-- a `for` whose first part declares nothing, with this test, step and body
abbrev for_loop : TExpr → TExpr → List Occurrence → WideLoop
for_loop test step body = record { sort = sort.For; start = first.Nothing; test = Some test; step = Some step; body = body; jumps = no_jumps; last = None }

-- the step `i++` as it is read there
abbrev by_one : ℕ → ℕ → Step
by_one variable node = record { v = record { variable = variable; node = node }; d = None }

-- A BOUND AT FILE SCOPE: `for(i=0;i<n;i++) b[i]=a[i]+1;` with i variable 0, and n, a and b the file objects 0, 1 and 2
abbrev tested : TExpr
tested = op 5 Lt (v 6 0) (g 7 0)

abbrev stepping : TExpr
stepping = incremented 8 (v 9 0)

abbrev copying : TExpr
copying = set 11 (element 12 13 2 (v 14 0)) (op 15 Add (element 16 17 1 (v 18 0)) (number 19 1))

abbrev copies : List Occurrence
copies = Names (Object 2) ∷ Names (Variable 0) ∷ Names (Object 1) ∷ Names (Variable 0) ∷ []

abbrev bounded : WideLoop
bounded = for_loop tested stepping copies

abbrev one_variable : Around
one_variable = in_function (int_variable ∷ []) (λ n. nat_eq n 0)

copying_occurring : occurring copying ≡ of_all copies
copying_occurring = simp forms

copying_occurs : (seen (does 10 copying)).occurs ≡ copies
copying_occurs = simp forms (ap (λ (o : Occurring). o.all) copying_occurring)

tested_occurring : occurring tested ≡ of_all (Names (Variable 0) ∷ Names (Object 0) ∷ [])
tested_occurring = simp forms

stepping_occurring : occurring stepping ≡ of_all (Assigns (Variable 0) ∷ Names (Variable 0) ∷ [])
stepping_occurring = simp forms

bounded_text : text_of bounded ≡ Names (Variable 0) ∷ Names (Object 0) ∷ Assigns (Variable 0) ∷ Names (Variable 0) ∷ copies
bounded_text = λ i. (tested_occurring i).all ++ ((stepping_occurring i).all ++ copies)

stepping_plain : commas stepping ≡ 0
stepping_plain = simp forms

stepping_is : step_of stepping ≡ Some (by_one 0 9)
stepping_is = simp forms

stepping_alone : steps_alone one_variable bounded (by_one 0 9) ≡ true
stepping_alone = ap (λ (os : List Occurrence). nat_eq (count_by (assigns_it (Variable 0)) os) 1 && true) bounded_text

tested_no_step : step_in_test tested ≡ None
tested_no_step = simp forms

tested_beside : beside_step tested ≡ tested ∷ []
tested_beside = simp forms

tested_built : (like : Scalar → Bool) → is_built like tested ≡ (like (Variable 0) && like (Object 0))
tested_built like = simp forms

bound_stays : stays one_variable bounded (Object 0) ≡ true
bound_stays = ap (λ (os : List Occurrence). not (list_any (assigns_it (Object 0)) (os ++ []))) bounded_text

bounded_is_counted : is_counted one_variable bounded ≡ true
bounded_is_counted =
    counted_by one_variable bounded stepping tested (by_one 0 9) refl refl refl stepping_plain stepping_is stepping_alone refl tested_no_step tested_beside
    (tested_built (steers one_variable bounded)
    ∙ and_both (steers one_variable bounded (Variable 0)) (steers one_variable bounded (Object 0))
    (steered_by one_variable bounded stepping tested (by_one 0 9) refl refl refl stepping_plain stepping_is stepping_alone refl) (or_left (stays one_variable bounded (Object 0)) false bound_stays))

-- A SIEVE: `for(j=i*i;j<99;j+=i) a[j]=1;` with i and j the variables 0 and 1, within `for(i=2;i*i<99;i++)`
abbrev multiple_tested : TExpr
multiple_tested = op 23 Lt (v 24 1) (number 25 99)

abbrev multiple_stepping : TExpr
multiple_stepping = typed.AssignBy (int 26) (change.Number Add I32) (v 27 1) (v 28 0)

abbrev marks_one : List Occurrence
marks_one = Names (Object 0) ∷ Names (Variable 1) ∷ []

abbrev multiples : WideLoop
multiples = for_loop multiple_tested multiple_stepping marks_one

abbrev two_variables : Around
two_variables = in_function (int_variable ∷ int_variable ∷ []) (λ n. false)

abbrev by_i : Step
by_i = record { v = record { variable = 1; node = 27 }; d = Some (v 28 0) }

multiple_tested_occurring : occurring multiple_tested ≡ of_all (Names (Variable 1) ∷ [])
multiple_tested_occurring = simp forms

multiple_stepping_occurring : occurring multiple_stepping ≡ of_all (Assigns (Variable 1) ∷ Names (Variable 1) ∷ Names (Variable 0) ∷ [])
multiple_stepping_occurring = simp forms

multiples_text : text_of multiples ≡ Names (Variable 1) ∷ Assigns (Variable 1) ∷ Names (Variable 1) ∷ Names (Variable 0) ∷ marks_one
multiples_text = λ i. (multiple_tested_occurring i).all ++ ((multiple_stepping_occurring i).all ++ marks_one)

multiple_plain : commas multiple_stepping ≡ 0
multiple_plain = simp forms

multiple_is : step_of multiple_stepping ≡ Some by_i
multiple_is = simp forms

i_stays : stays two_variables multiples (Variable 0) ≡ true
i_stays = ap (λ (os : List Occurrence). not (list_any (assigns_it (Variable 0)) os)) multiples_text

i_built : (like : Scalar → Bool) → is_built like (v 28 0) ≡ like (Variable 0)
i_built like = simp forms

multiple_alone : steps_alone two_variables multiples by_i ≡ true
multiple_alone =
    and_both (nat_eq (count_by (assigns_it (Variable 1)) (text_of multiples)) 1) (is_built (stays two_variables multiples) (v 28 0))
    (ap (λ (os : List Occurrence). nat_eq (count_by (assigns_it (Variable 1)) os) 1) multiples_text) (i_built (stays two_variables multiples) ∙ i_stays)

multiple_no_step : step_in_test multiple_tested ≡ None
multiple_no_step = simp forms

multiple_beside : beside_step multiple_tested ≡ multiple_tested ∷ []
multiple_beside = simp forms

multiple_built : (like : Scalar → Bool) → is_built like multiple_tested ≡ (like (Variable 1) && true)
multiple_built like = simp forms

multiples_are_counted : is_counted two_variables multiples ≡ true
multiples_are_counted =
    counted_by two_variables multiples multiple_stepping multiple_tested by_i refl refl refl multiple_plain multiple_is multiple_alone refl multiple_no_step multiple_beside
    (multiple_built (steers two_variables multiples)
    ∙ and_both (steers two_variables multiples (Variable 1)) true
    (steered_by two_variables multiples multiple_stepping multiple_tested by_i refl refl refl multiple_plain multiple_is multiple_alone refl) refl)

-- and the outer one, whose test is `i*i<99`
abbrev square_tested : TExpr
square_tested = op 5 Lt (op 6 Mul (v 7 0) (v 8 0)) (number 9 99)

abbrev outer_stepping : TExpr
outer_stepping = incremented 10 (v 11 0)

-- `if(!a[i])`, the first part of the inner loop and that
abbrev outer_body : List Occurrence
outer_body =
    Names (Object 0) ∷ Names (Variable 0) ∷ Assigns (Variable 1) ∷ Names (Variable 1) ∷ Names (Variable 0) ∷ Names (Variable 0) ∷ Names (Variable 1) ∷ Assigns (Variable 1) ∷ Names (Variable 1)
    ∷ Names (Variable 0) ∷ marks_one

abbrev outer : WideLoop
outer = for_loop square_tested outer_stepping outer_body

square_occurring : occurring square_tested ≡ of_all (Names (Variable 0) ∷ Names (Variable 0) ∷ [])
square_occurring = simp forms

outer_occurring : occurring outer_stepping ≡ of_all (Assigns (Variable 0) ∷ Names (Variable 0) ∷ [])
outer_occurring = simp forms

outer_text : text_of outer ≡ Names (Variable 0) ∷ Names (Variable 0) ∷ Assigns (Variable 0) ∷ Names (Variable 0) ∷ outer_body
outer_text = λ i. (square_occurring i).all ++ ((outer_occurring i).all ++ outer_body)

outer_plain : commas outer_stepping ≡ 0
outer_plain = simp forms

outer_is : step_of outer_stepping ≡ Some (by_one 0 11)
outer_is = simp forms

outer_alone : steps_alone two_variables outer (by_one 0 11) ≡ true
outer_alone = ap (λ (os : List Occurrence). nat_eq (count_by (assigns_it (Variable 0)) os) 1 && true) outer_text

square_no_step : step_in_test square_tested ≡ None
square_no_step = simp forms

square_beside : beside_step square_tested ≡ square_tested ∷ []
square_beside = simp forms

square_built : (like : Scalar → Bool) → is_built like square_tested ≡ ((like (Variable 0) && like (Variable 0)) && true)
square_built like = simp forms

outer_is_counted : is_counted two_variables outer ≡ true
outer_is_counted =
    let steered : steers two_variables outer (Variable 0) ≡ true =
    steered_by two_variables outer outer_stepping square_tested (by_one 0 11) refl refl refl outer_plain outer_is outer_alone refl in
    counted_by two_variables outer outer_stepping square_tested (by_one 0 11) refl refl refl outer_plain outer_is outer_alone refl square_no_step square_beside
    (square_built (steers two_variables outer) ∙ (λ i. (steered i && steered i) && true))

-- THE GREATEST: `if(a[i]>m) m=a[i];` with m and a the file objects 0 and 1
abbrev greater : TExpr
greater = op 30 Gt (element 31 32 1 (v 33 0)) (g 34 0)

abbrev taking : TExpr
taking = set 36 (g 37 0) (element 38 39 1 (v 40 0))

abbrev found : Compared
found = record { s = record { scalar = Object 0; node = 34 }; e = element 31 32 1 (v 33 0); kept = Greatest }

greater_compared : compared (scalar_of (g 37 0)) greater ≡ Some found
greater_compared = simp forms

one_sign : signs_of (element 38 39 1 (v 40 0)) ≡ sign.Index ∷ sign.Object 1 ∷ sign.Variable 0 ∷ []
one_sign = simp forms

other_sign : signs_of (element 31 32 1 (v 33 0)) ≡ sign.Index ∷ sign.Object 1 ∷ sign.Variable 0 ∷ []
other_sign = simp forms

same_value : are_same (element 38 39 1 (v 40 0)) (element 31 32 1 (v 33 0)) ≡ true
same_value = λ i. pointwise signs.ghosts.eq (one_sign i) (other_sign i) && not (list_any is_other (one_sign i))

element_occurring : occurring (element 38 39 1 (v 40 0)) ≡ of_all (Names (Object 1) ∷ Names (Variable 0) ∷ [])
element_occurring = simp forms

-- the statement keeps the greatest in m, and beside that names a and i
greatest_is_kept : kept_if greater (Some taking)
    ≡ Some (Reduces (record { scalar = Object 0; group = Greatest; read = 34 }) ∷ Names (Object 1) ∷ Names (Variable 0) ∷ [])
greatest_is_kept =
    ap (kept_step greater) (out_Assign (int 36) (g 37 0) (element 38 39 1 (v 40 0)))
    ∙ (ap (λ (c : Option Compared). keeps_by (element 38 39 1 (v 40 0)) (taken_of (element 38 39 1 (v 40 0)) c)) greater_compared
    ∙ (ap (λ b. keeps_by (element 38 39 1 (v 40 0)) (if b then Some found else None)) same_value
    ∙ ap (λ (o : Occurring). Some (Reduces (record { scalar = Object 0; group = Greatest; read = 34 }) ∷ o.all)) element_occurring))

-- so is it by the whole `if`
greatest_occurs : (seen (stmt.If (spot 29) greater (does 35 taking) None)).occurs
    ≡ Reduces (record { scalar = Object 0; group = Greatest; read = 34 }) ∷ Names (Object 1) ∷ Names (Variable 0) ∷ []
greatest_occurs =
    ap (λ (s : Seen). s.occurs)
    (done_alone Seen Seen part_step seen_step (spot 29) greater (does 35 taking)
    ∙ ap (λ (s : Seen). seen_step (TStmt-F.If (spot 29) greater s None)) (done_Expr Seen Seen part_step seen_step (spot 35) taking))
    ∙ ap (λ (o : Option (List Occurrence)). unwrap_or (kept_first o [] (record { action = Some taking; occurs = action_occurs taking }) None) (occurs_in greater ++ action_occurs taking)) greatest_is_kept
