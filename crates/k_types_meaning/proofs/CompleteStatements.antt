-- What a statement means by the relation, judging makes of it without a fault.
use Rattle.std.proofs.Common.{◌≡◌, refl, ◌∙◌, ap, ℤ, true, false, if◌then◌else◌, List, map, Option, Some, None}
use Rattle.k_num.specs.declared.numbers.Kind.{Kind}
use Rattle.k_num.specs.declared.place.Place.{Place}
use Rattle.k_num.specs.Kind.{converted, promoted}
use Rattle.k_tree.specs.declared.tokens.word.Word.{Word}
use Rattle.k_tree.specs.declared.tree.declaration.Declarator.{Declarator}
use Rattle.k_tree.specs.declared.tree.expression.Expr.{Expr}
use Rattle.k_tree.specs.declared.tree.statement.First.{First}
use Rattle.k_tree.specs.declared.tree.statement.First.TheVariants as first
use Rattle.k_tree.specs.declared.tree.statement.Part.{Part}
use Rattle.k_tree.specs.declared.tree.statement.Stmt.{Stmt}
use Rattle.k_tree.proofs.Folds.{stmt_Expr, stmt_Empty, stmt_Block, if_alone as if_alone_folds, if_else as if_else_folds, stmt_While, stmt_DoWhile, stmt_For, stmt_Switch, part_Case, part_Default, part_Does, stmt_Break, stmt_Continue, stmt_Return, stmt_Declare}
use Rattle.k_types_meaning.specs.declared.fault.TypeFault.TheVariants as fault
use Rattle.k_types_meaning.specs.declared.types.CType.TheVariants as ctype
use Rattle.k_types_meaning.specs.declared.tree.declaration.TDeclarator.{TDeclarator}
use Rattle.k_types_meaning.specs.declared.tree.expression.TExpr.{TExpr}
use Rattle.k_types_meaning.specs.declared.tree.statement.TFirst.{TFirst}
use Rattle.k_types_meaning.specs.declared.tree.statement.TFirst.TheVariants as typed_first
use Rattle.k_types_meaning.specs.declared.tree.statement.TPart.{TPart}
use Rattle.k_types_meaning.specs.declared.tree.statement.TPart.TheVariants as typed_part
use Rattle.k_types_meaning.specs.declared.tree.statement.TStmt.{TStmt}
use Rattle.k_types_meaning.specs.declared.tree.statement.TStmt.TheVariants as typed
use Rattle.k_types_meaning.specs.Constants.{constant}
use Rattle.k_types_meaning.specs.Conversions.{Typed, in_kind, passed}
use Rattle.k_types_meaning.specs.Declarations.{saying}
use Rattle.k_types_meaning.specs.Expressions.{judge}
use Rattle.k_types_meaning.specs.Made.{Fine, then_made, refused}
use Rattle.k_types_meaning.specs.Statements.{Known, Around, Labels, JudgedPart, Statement, SwitchPart, no_labels, spot, opened, scope_left, inside_loop, inside_switch, is_among, judged_as, judged_before, part_before, behind, at_known, conditioned, in_order, each_in, parts_in_order, kind_or_int, promoted_or_int, option_judged, option_tree, first_judged, for_condition, for_judged, for_body, for_parts, for_behind, if_judged, else_judged, while_judged, do_judged, switch_judged, switched, return_made, return_nothing, case_made, case_labels, constant_labels, does_judged, expr_rule, empty_rule, block_rule, if_rule, while_rule, do_rule, for_rule, switch_rule, break_rule, continue_rule, return_rule, declare_rule, case_rule, default_rule, does_rule, stmt_step, part_step, judge_stmt}
use Rattle.k_types_meaning.specs.Types.{number_kind}
use Rattle.k_types_meaning.proofs.Elaborates.{complete}
use Rattle.k_types_meaning.specs.ElaboratedDeclarators.{ElabDeclared}
use Rattle.k_types_meaning.specs.ElaboratedStatements.{ElabStmt, ElabStmts, ElabPart, ElabParts, ElabFirst, ElabTest, ElabStep, nothing_first, value_first, declared_first, no_test, tested, no_step, stepped, expression, empty, block, if_alone, if_else, while_loop, do_loop, for_loop, switch_on, break_within, continue_within, return_none, return_value, declaration, no_stmts, more_stmts, case_label, default_label, does, no_parts, more_parts, taking, leaving, breaks, with_case, with_default}
use Rattle.k_types_meaning.proofs.Declared.{declared_complete}
use Rattle.k_types_meaning.proofs.Faultless.{comes, judged}
use Rattle.k_types_meaning.proofs.SoundStatements.{judge_part}

-- a part of a switch, of which judging makes this without a fault
abbrev part_comes : TPart → Labels → Known → JudgedPart
part_comes tree labels after = record { made = Fine tree; after = after; labels = labels }

-- rules that are one, here
ruled : {f g : Statement} → f ≡ g → (around : Around) (known : Known) → f around known ≡ g around known
ruled is around known = λ i. is i around known

-- rules of parts that are one, here
part_ruled : {f g : SwitchPart} → f ≡ g → (around : Around) (kind : Kind) (labels : Labels) (known : Known) → f around kind labels known ≡ g around kind labels known
part_ruled is around kind labels known = λ i. is i around kind labels known

-- an expression
expr_gives : (p : Place) (e : Expr) (around : Around) (known : Known) (v : Typed) → judge known.names e ≡ Fine v
    → expr_rule p e around known ≡ comes (typed.Expr (spot p) v.tree) (taking known v)
unfolding expr_rule
expr_gives p e around known v is = ap (λ m. judged (then_made m (λ x. Fine (typed.Expr (spot p) x.tree))) (behind known m)) is

-- `;`
empty_gives : (p : Place) (around : Around) (known : Known) → empty_rule p around known ≡ comes (typed.Empty (spot p)) known
unfolding empty_rule
empty_gives p around known = refl

-- a block
block_gives : (p : Place) (rules : List Statement) (around : Around) (known : Known) (trees : List TStmt) (inside : Known)
    → in_order (opened known) (each_in around rules) ≡ comes trees inside
    → block_rule p rules around known ≡ comes (typed.Block (spot p) trees) (leaving known inside)
unfolding block_rule
block_gives p rules around known trees inside is = ap (λ j. scope_left known (judged_as (typed.Block (spot p)) j)) is

-- an `if` without an `else`
if_alone_gives : (p : Place) (e : Expr) (rule : Statement) (around : Around) (known : Known) (v : Typed) (kind : Kind) (t : TStmt) (after : Known)
    → judge known.names e ≡ Fine v → number_kind v.of ≡ Some kind → rule around (taking known v) ≡ comes t after
    → if_rule p e rule None around known ≡ comes (typed.If (spot p) v.tree t None) after
unfolding if_rule
if_alone_gives p e rule around known v kind t after is number body =
    ap (λ m. if_judged p m (rule around (behind known m)) (else_judged around (rule around (behind known m)).after None)) is
    ∙ ap (λ j. if_judged p (Fine v) j (else_judged around j.after None)) body
    ∙ ap (λ k. judged (conditioned p k (typed.If (spot p) v.tree t None)) after) number

-- an `if` with an `else`
if_else_gives : (p : Place) (e : Expr) (rule otherwise : Statement) (around : Around) (known : Known) (v : Typed) (kind : Kind) (t u : TStmt) (middle after : Known)
    → judge known.names e ≡ Fine v → number_kind v.of ≡ Some kind → rule around (taking known v) ≡ comes t middle → otherwise around middle ≡ comes u after
    → if_rule p e rule (Some otherwise) around known ≡ comes (typed.If (spot p) v.tree t (Some u)) after
unfolding if_rule
if_else_gives p e rule otherwise around known v kind t u middle after is number body other =
    ap (λ m. if_judged p m (rule around (behind known m)) (else_judged around (rule around (behind known m)).after (Some otherwise))) is
    ∙ ap (λ j. if_judged p (Fine v) j (else_judged around j.after (Some otherwise))) body
    ∙ ap (λ j. if_judged p (Fine v) (comes t middle) (judged_as Some j)) other
    ∙ ap (λ k. judged (conditioned p k (typed.If (spot p) v.tree t (Some u))) after) number

-- a `while` loop
while_gives : (p : Place) (e : Expr) (rule : Statement) (around : Around) (known : Known) (v : Typed) (kind : Kind) (t : TStmt) (after : Known)
    → judge known.names e ≡ Fine v → number_kind v.of ≡ Some kind → rule (inside_loop around) (taking known v) ≡ comes t after
    → while_rule p e rule around known ≡ comes (typed.While (spot p) 0 v.tree t) after
unfolding while_rule
while_gives p e rule around known v kind t after is number body =
    ap (λ m. while_judged p m (rule (inside_loop around) (behind known m))) is
    ∙ ap (λ j. while_judged p (Fine v) j) body
    ∙ ap (λ k. judged (conditioned p k (typed.While (spot p) 0 v.tree t)) after) number

-- a `do` loop
do_gives : (p : Place) (e : Expr) (rule : Statement) (around : Around) (known : Known) (t : TStmt) (middle : Known) (v : Typed) (kind : Kind)
    → rule (inside_loop around) known ≡ comes t middle → judge middle.names e ≡ Fine v → number_kind v.of ≡ Some kind
    → do_rule p rule e around known ≡ comes (typed.DoWhile (spot p) 0 t v.tree) (taking middle v)
unfolding do_rule
do_gives p e rule around known t middle v kind body is number =
    ap (λ j. do_judged p j (at_known j.after e)) body
    ∙ ap (λ m. do_judged p (comes t middle) m) is
    ∙ ap (λ k. judged (conditioned p k (typed.DoWhile (spot p) 0 t v.tree)) (taking middle v)) number

-- the first part of a `for` that is an expression
value_gives : (known : Known) (e : Expr) (v : Typed) → judge known.names e ≡ Fine v
    → first_judged known (first.Value e) ≡ comes (typed_first.Value v.tree) (taking known v)
value_gives known e v is = ap (λ m. judged (then_made m (λ x. Fine (typed_first.Value x.tree))) (behind known m)) is

-- the first part of a `for`
first_gives : (known : Known) (f : First) (t : TFirst) (after : Known) → ElabFirst known f t after → first_judged known f ≡ comes t after
first_gives _ _ _ _ (nothing_first known) = refl
first_gives _ _ _ _ (value_first known e v x) = value_gives known e v (complete known.names e v x)
first_gives _ _ _ _ (declared_first known specs list ts after x) =
    ap (judged_as typed_first.Declare) (declared_complete (saying false specs) known list ts after x)

-- an expression that may be left out, where it is not
option_gives : (known : Known) (e : Expr) (v : Typed) → judge known.names e ≡ Fine v → option_judged known (Some e) ≡ comes (Some v) (taking known v)
option_gives known e v is = ap (λ m. judged (then_made m (λ x. Fine (Some x))) (behind known m)) is

-- the test of a `for`
test_gives : (known : Known) (test : Option Expr) (a : Option TExpr) (after : Known) → ElabTest known test a after
    → (o : Option Typed) × (option_judged known test ≡ comes o after) × (option_tree o ≡ a)
    × ((p : Place) (made : TStmt) → for_condition p o made ≡ Fine made)
test_gives _ _ _ _ (no_test known) = (None, refl, refl, λ p made. refl)
test_gives _ _ _ _ (tested known e v kind x number) =
    (Some v, option_gives known e v (complete known.names e v x), refl, λ p made. ap (λ k. conditioned p k made) number)

-- the step of a `for`
step_gives : (known : Known) (step : Option Expr) (a : Option TExpr) (after : Known) → ElabStep known step a after
    → (o : Option Typed) × (option_judged known step ≡ comes o after) × (option_tree o ≡ a)
step_gives _ _ _ _ (no_step known) = (None, refl, refl)
step_gives _ _ _ _ (stepped known e v x) = (Some v, option_gives known e v (complete known.names e v x), refl)

-- a `for` loop
for_gives : (p : Place) (start : First) (test step : Option Expr) (rule : Statement) (around : Around) (known : Known)
    (f : TFirst) (a b : Option TExpr) (t : TStmt) (started tried went inside : Known)
    → ElabFirst (opened known) start f started → ElabTest started test a tried → ElabStep tried step b went
    → rule (inside_loop around) went ≡ comes t inside
    → for_rule p start test step rule around known ≡ comes (typed.For (spot p) 0 f a b t) (leaving known inside)
unfolding for_rule
for_gives p start test step rule around known f a b t started tried went inside x y z body =
    let tests = test_gives started test a tried y in
    let steps = step_gives tried step b went z in
    ap (λ j. scope_left known (for_behind p test step rule around j)) (first_gives (opened known) start f started x)
    ∙ ap (λ j. scope_left known (for_parts p (comes f started) rule around j step)) tests.1
    ∙ ap (λ j. scope_left known (for_body p (comes f started) rule around (comes tests.0 tried) j)) steps.1
    ∙ ap (λ j. scope_left known (for_judged p (comes f started) (comes tests.0 tried) (comes steps.0 went) j)) body
    ∙ ap (λ m. judged m (leaving known inside)) (tests.3 p (typed.For (spot p) 0 f (option_tree tests.0) (option_tree steps.0) t))
    ∙ ap (λ o. comes (typed.For (spot p) 0 f o (option_tree steps.0) t) (leaving known inside)) tests.2
    ∙ ap (λ o. comes (typed.For (spot p) 0 f a o t) (leaving known inside)) steps.2

-- a `switch`
switch_gives : (p : Place) (e : Expr) (rules : List SwitchPart) (around : Around) (known : Known) (v : Typed) (kind : Kind) (ts : List TPart) (after : Known)
    → judge known.names e ≡ Fine v → number_kind v.of ≡ Some kind
    → parts_in_order (inside_switch around) (promoted kind) no_labels (taking known v) rules ≡ comes ts after
    → switch_rule p e rules around known ≡ comes (typed.Switch (spot p) (promoted kind) (in_kind kind (promoted kind) v.tree) ts) after
unfolding switch_rule
switch_gives p e rules around known v kind ts after is number parts =
    ap (λ m. switch_judged p m (parts_in_order (inside_switch around) (kind_or_int m) no_labels (behind known m) rules)) is
    ∙ ap (λ k. switch_judged p (Fine v) (parts_in_order (inside_switch around) (promoted_or_int k) no_labels (taking known v) rules)) number
    ∙ ap (λ j. switch_judged p (Fine v) j) parts
    ∙ ap (λ k. judged (switched p v ts k) after) number

-- a `break`
break_gives : (p : Place) (around : Around) (known : Known) → breaks around ≡ true → break_rule p around known ≡ comes (typed.Break (spot p)) known
unfolding break_rule
break_gives p around known is = ap (λ b. judged (if b then Fine (typed.Break (spot p)) else refused (fault.JumpOutside p)) known) is

-- a `continue`
continue_gives : (p : Place) (around : Around) (known : Known) → around.in_loop ≡ true → continue_rule p around known ≡ comes (typed.Continue (spot p)) known
unfolding continue_rule
continue_gives p around known is = ap (λ b. judged (if b then Fine (typed.Continue (spot p)) else refused (fault.JumpOutside p)) known) is

-- a `return` without a value
return_none_gives : (p : Place) (around : Around) (known : Known) → around.result ≡ ctype.Void
    → return_rule p None around known ≡ comes (typed.Return (spot p) None) known
unfolding return_rule
return_none_gives p around known is = ap (λ of. judged (return_nothing p of) known) is

-- a `return` with a value
return_value_gives : (p : Place) (e : Expr) (around : Around) (known : Known) (v : Typed) (tree : TExpr)
    → judge known.names e ≡ Fine v → passed around.result v ≡ Some tree
    → return_rule p (Some e) around known ≡ comes (typed.Return (spot p) (Some tree)) (taking known v)
unfolding return_rule
return_value_gives p e around known v tree is given =
    ap (λ m. judged (then_made m (λ x. return_made p (passed around.result x))) (behind known m)) is
    ∙ ap (λ o. judged (return_made p o) (taking known v)) given

-- a declaration
declare_gives : (p : Place) (specs : List Word) (list : List Declarator) (around : Around) (known : Known) (trees : List TDeclarator) (after : Known)
    → ElabDeclared (saying false specs) known list trees after
    → declare_rule p specs list around known ≡ comes (typed.Declare (spot p) trees) after
unfolding declare_rule
declare_gives p specs list around known trees after x =
    ap (judged_as (typed.Declare (spot p))) (declared_complete (saying false specs) known list trees after x)

-- a `case`
case_gives : (p : Place) (e : Expr) (around : Around) (kind : Kind) (labels : Labels) (known : Known) (v : Typed) (z : ℤ)
    → judge known.names e ≡ Fine v → constant v.tree ≡ Some z → is_among labels.cases (converted kind z) ≡ false
    → case_rule p e around kind labels known ≡ part_comes (typed_part.Case p (converted kind z)) (with_case labels (converted kind z)) (taking known v)
unfolding case_rule
case_gives p e around kind labels known v z is value new =
    (λ i. record {
      made = then_made (is i) (λ x. case_made p kind labels (constant x.tree));
      after = behind known (is i);
      labels = case_labels kind labels (is i);
    })
    ∙ (λ i. record { made = case_made p kind labels (value i); after = taking known v; labels = constant_labels kind labels (value i) })
    ∙ (λ i. record {
      made = if new i then refused (fault.CaseAgain p) else Fine (typed_part.Case p (converted kind z));
      after = taking known v;
      labels = with_case labels (converted kind z);
    })

-- a `default`
default_gives : (p : Place) (around : Around) (kind : Kind) (labels : Labels) (known : Known) → labels.defaulted ≡ false
    → default_rule p around kind labels known ≡ part_comes (typed_part.Default p) (with_default labels) known
unfolding default_rule
default_gives p around kind labels known new = λ i. record {
  made = if new i then refused (fault.CaseAgain p) else Fine (typed_part.Default p);
  after = known;
  labels = with_default labels;
}

-- a statement in the braces of a `switch`
does_gives : (p : Place) (rule : Statement) (around : Around) (kind : Kind) (labels : Labels) (known : Known) (t : TStmt) (after : Known)
    → rule around known ≡ comes t after → does_rule p rule around kind labels known ≡ part_comes (typed_part.Does p t) labels after
unfolding does_rule
does_gives p rule around kind labels known t after is = ap (does_judged p labels) is

mutual
  -- what a statement means is what judging makes
  pub stmt_complete : (around : Around) (known : Known) (s : Stmt) (tree : TStmt) (after : Known) → ElabStmt around known s tree after
      → judge_stmt s around known ≡ comes tree after
  stmt_complete _ _ _ _ _ (expression around known p e v x) =
      ruled (stmt_Expr SwitchPart Statement part_step stmt_step p e) around known
      ∙ expr_gives p e around known v (complete known.names e v x)
  stmt_complete _ _ _ _ _ (empty around known p) =
      ruled (stmt_Empty SwitchPart Statement part_step stmt_step p) around known ∙ empty_gives p around known
  stmt_complete _ _ _ _ _ (block around known p parts trees inside x) =
      ruled (stmt_Block SwitchPart Statement part_step stmt_step p parts) around known
      ∙ block_gives p (map judge_stmt parts) around known trees inside (stmts_complete around (opened known) parts trees inside x)
  stmt_complete _ _ _ _ _ (if_alone around known p e s v kind t after x number body) =
      ruled (if_alone_folds SwitchPart Statement part_step stmt_step p e s) around known
      ∙ if_alone_gives p e (judge_stmt s) around known v kind t after (complete known.names e v x) number
      (stmt_complete around (taking known v) s t after body)
  stmt_complete _ _ _ _ _ (if_else around known p e s other v kind t u middle after x number body otherwise) =
      ruled (if_else_folds SwitchPart Statement part_step stmt_step p e s other) around known
      ∙ if_else_gives p e (judge_stmt s) (judge_stmt other) around known v kind t u middle after (complete known.names e v x) number
      (stmt_complete around (taking known v) s t middle body) (stmt_complete around middle other u after otherwise)
  stmt_complete _ _ _ _ _ (while_loop around known p e s v kind t after x number body) =
      ruled (stmt_While SwitchPart Statement part_step stmt_step p e s) around known
      ∙ while_gives p e (judge_stmt s) around known v kind t after (complete known.names e v x) number
      (stmt_complete (inside_loop around) (taking known v) s t after body)
  stmt_complete _ _ _ _ _ (do_loop around known p s e t middle v kind body x number) =
      ruled (stmt_DoWhile SwitchPart Statement part_step stmt_step p s e) around known
      ∙ do_gives p e (judge_stmt s) around known t middle v kind (stmt_complete (inside_loop around) known s t middle body)
      (complete middle.names e v x) number
  stmt_complete _ _ _ _ _ (for_loop around known p start test step s f a b t started tried went inside x y z body) =
      ruled (stmt_For SwitchPart Statement part_step stmt_step p start test step s) around known
      ∙ for_gives p start test step (judge_stmt s) around known f a b t started tried went inside x y z
      (stmt_complete (inside_loop around) went s t inside body)
  stmt_complete _ _ _ _ _ (switch_on around known p e parts v kind trees after x number all) =
      ruled (stmt_Switch SwitchPart Statement part_step stmt_step p e parts) around known
      ∙ switch_gives p e (map judge_part parts) around known v kind trees after (complete known.names e v x) number
      (parts_complete (inside_switch around) (promoted kind) no_labels (taking known v) parts trees after all)
  stmt_complete _ _ _ _ _ (break_within around known p is) =
      ruled (stmt_Break SwitchPart Statement part_step stmt_step p) around known ∙ break_gives p around known is
  stmt_complete _ _ _ _ _ (continue_within around known p is) =
      ruled (stmt_Continue SwitchPart Statement part_step stmt_step p) around known ∙ continue_gives p around known is
  stmt_complete _ _ _ _ _ (return_none around known p is) =
      ruled (stmt_Return SwitchPart Statement part_step stmt_step p None) around known ∙ return_none_gives p around known is
  stmt_complete _ _ _ _ _ (return_value around known p e v tree x given) =
      ruled (stmt_Return SwitchPart Statement part_step stmt_step p (Some e)) around known
      ∙ return_value_gives p e around known v tree (complete known.names e v x) given
  stmt_complete _ _ _ _ _ (declaration around known p specs list trees after x) =
      ruled (stmt_Declare SwitchPart Statement part_step stmt_step p specs list) around known
      ∙ declare_gives p specs list around known trees after x

  -- statements in their order
  pub stmts_complete : (around : Around) (known : Known) (ss : List Stmt) (ts : List TStmt) (after : Known) → ElabStmts around known ss ts after
      → in_order known (each_in around (map judge_stmt ss)) ≡ comes ts after
  stmts_complete _ _ _ _ _ (no_stmts around known) = refl
  stmts_complete _ _ _ _ _ (more_stmts around known s ss t ts middle after one others) =
      ap (λ j. judged_before j (in_order j.after (each_in around (map judge_stmt ss)))) (stmt_complete around known s t middle one)
      ∙ ap (λ j. judged_before (comes t middle) j) (stmts_complete around middle ss ts after others)

  -- a part of a switch
  part_complete : (around : Around) (kind : Kind) (labels : Labels) (known : Known) (x : Part) (t : TPart) (labelled : Labels) (after : Known)
      → ElabPart around kind labels known x t labelled after → judge_part x around kind labels known ≡ part_comes t labelled after
  part_complete _ _ _ _ _ _ _ _ (case_label around kind labels known p e v z x value new) =
      part_ruled (part_Case SwitchPart Statement part_step stmt_step p e) around kind labels known
      ∙ case_gives p e around kind labels known v z (complete known.names e v x) value new
  part_complete _ _ _ _ _ _ _ _ (default_label around kind labels known p new) =
      part_ruled (part_Default SwitchPart Statement part_step stmt_step p) around kind labels known
      ∙ default_gives p around kind labels known new
  part_complete _ _ _ _ _ _ _ _ (does around kind labels known p s t after one) =
      part_ruled (part_Does SwitchPart Statement part_step stmt_step p s) around kind labels known
      ∙ does_gives p (judge_stmt s) around kind labels known t after (stmt_complete around known s t after one)

  -- the parts of a switch in their order
  parts_complete : (around : Around) (kind : Kind) (labels : Labels) (known : Known) (xs : List Part) (ts : List TPart) (after : Known)
      → ElabParts around kind labels known xs ts after → parts_in_order around kind labels known (map judge_part xs) ≡ comes ts after
  parts_complete _ _ _ _ _ _ _ (no_parts around kind labels known) = refl
  parts_complete _ _ _ _ _ _ _ (more_parts around kind labels known x xs t ts labelled middle after one others) =
      ap (λ j. part_before j (parts_in_order around kind j.labels j.after (map judge_part xs))) (part_complete around kind labels known x t labelled middle one)
      ∙ ap (λ j. part_before (part_comes t labelled middle) j) (parts_complete around kind labelled middle xs ts after others)
