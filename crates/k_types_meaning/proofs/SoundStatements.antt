-- What judging makes of a statement without a fault, it means by the relation.
use Rattle.std.proofs.Common.{◌≡◌, refl, sym, ◌∙◌, ap, subst, ℤ, Bool, true, false, ◌||◌, if◌then◌else◌, List, [], ◌∷◌, map, Option, Some, None}
use Rattle.k_num.specs.declared.numbers.Kind.{Kind}
use Rattle.k_num.specs.declared.place.Place.{Place}
use Rattle.k_num.specs.Kind.{converted, promoted}
use Rattle.k_tree.specs.declared.tokens.word.Word.{Word}
use Rattle.k_tree.specs.declared.tree.declaration.Declarator.{Declarator}
use Rattle.k_tree.specs.declared.tree.expression.Expr.{Expr}
use Rattle.k_tree.specs.declared.tree.statement.First.{First}
use Rattle.k_tree.specs.declared.tree.statement.First.TheVariants as first
use Rattle.k_tree.specs.declared.tree.statement.Part.{Part, fold-Part, roll-Part, fold-roll-Part, map-Part}
use Rattle.k_tree.specs.declared.tree.statement.Part.TheOpen.{Part-F, Stmt-F}
use Rattle.k_tree.specs.declared.tree.statement.Part.TheVariants as part
use Rattle.k_tree.specs.declared.tree.statement.Stmt.{Stmt, roll-Stmt, fold-roll-Stmt, ind-Stmt, map-Stmt}
use Rattle.k_tree.specs.declared.tree.statement.Stmt.TheVariants as stmt
use Rattle.k_types_meaning.specs.declared.fault.TypeFault.{TypeFault}
use Rattle.k_types_meaning.specs.declared.fault.TypeFault.TheVariants as fault
use Rattle.k_types_meaning.specs.declared.types.CType.{CType}
use Rattle.k_types_meaning.specs.declared.types.CType.TheVariants as ctype
use Rattle.k_types_meaning.specs.declared.tree.expression.TExpr.{TExpr}
use Rattle.k_types_meaning.specs.declared.tree.statement.TFirst.{TFirst}
use Rattle.k_types_meaning.specs.declared.tree.statement.TFirst.TheVariants as typed_first
use Rattle.k_types_meaning.specs.declared.tree.statement.TPart.{TPart}
use Rattle.k_types_meaning.specs.declared.tree.statement.TPart.TheVariants as typed_part
use Rattle.k_types_meaning.specs.declared.tree.statement.TStmt.{TStmt}
use Rattle.k_types_meaning.specs.declared.tree.statement.TStmt.TheVariants as typed
use Rattle.k_types_meaning.specs.Constants.{constant}
use Rattle.k_types_meaning.specs.Conversions.{Typed, in_kind, passed}
use Rattle.k_types_meaning.specs.Declarations.{saying}
use Rattle.k_types_meaning.specs.Expressions.{judge}
use Rattle.k_types_meaning.specs.Made.{Made, Fine, then_made, refused}
use Rattle.k_types_meaning.specs.Statements.{Known, Around, Labels, Statement, SwitchPart, no_labels, spot, opened, inside_loop, inside_switch, is_among, declare_all, behind, condition, in_order, each_in, parts_in_order, kind_or_int, promoted_or_int, option_judged, option_tree, first_judged, for_made, for_condition, if_made, switched, return_made, return_nothing, case_made, case_labels, constant_labels, expr_rule, empty_rule, block_rule, if_rule, while_rule, do_rule, for_rule, switch_rule, break_rule, continue_rule, return_rule, declare_rule, case_rule, default_rule, does_rule, stmt_step, part_step, judge_stmt}
use Rattle.k_types_meaning.specs.Types.{number_kind}
use Rattle.k_types_meaning.proofs.Elaborates.{not_made, both_fine, one_fine, three_fine, fine_is, sound}
use Rattle.k_types_meaning.specs.ElaboratedStatements.{ElabStmt, ElabStmts, ElabPart, ElabParts, ElabFirst, ElabTest, ElabStep, nothing_first, value_first, declared_first, no_test, tested, no_step, stepped, expression, empty, block, if_alone, if_else, while_loop, do_loop, for_loop, switch_on, break_within, continue_within, return_none, return_value, declaration, no_stmts, more_stmts, case_label, default_label, does, no_parts, more_parts, taking, leaving, with_case, with_default}
use Rattle.k_types_meaning.proofs.Declared.{declared_sound}
use Rattle.k_types_meaning.proofs.Faultless.{four_fine, condition_fine}

-- a part of a switch, by judging
abbrev pub judge_part : Part → SwitchPart
judge_part = fold-Part SwitchPart Statement part_step stmt_step

-- what is made of a statement by this rule, it means by the relation
abbrev pub Means : Stmt → Statement → Type 0
Means s rule =
    (around : Around) (known : Known) (tree : TStmt) → (rule around known).made ≡ Fine tree → ElabStmt around known s tree (rule around known).after

-- what is made of a part of a switch by this rule, it means by the relation
abbrev pub PartMeans : Part → SwitchPart → Type 0
PartMeans x rule =
    (around : Around) (kind : Kind) (labels : Labels) (known : Known) (tree : TPart) → (rule around kind labels known).made ≡ Fine tree
    → ElabPart around kind labels known x tree (rule around kind labels known).labels (rule around kind labels known).after

-- statements in their order
abbrev pub AllMean : List Stmt → List Statement → Type 0
AllMean ss rules =
    (around : Around) (known : Known) (trees : List TStmt) → (in_order known (each_in around rules)).made ≡ Fine trees
    → ElabStmts around known ss trees (in_order known (each_in around rules)).after

-- the parts of a switch in their order
abbrev pub AllPartsMean : List Part → List SwitchPart → Type 0
AllPartsMean xs rules =
    (around : Around) (kind : Kind) (labels : Labels) (known : Known) (trees : List TPart) → (parts_in_order around kind labels known rules).made ≡ Fine trees
    → ElabParts around kind labels known xs trees (parts_in_order around kind labels known rules).after

-- behind an expression that means this
here : (P : Known → Type 0) (known : Known) (m : Made Typed) (v : Typed) → m ≡ Fine v → P (behind known m) → P (taking known v)
here P known m v is = subst P (ap (behind known) is)

-- what holds where an expression is known to mean this
back : (P : Known → Type 0) (known : Known) (m : Made Typed) (v : Typed) → m ≡ Fine v → P (taking known v) → P (behind known m)
back P known m v is = subst P (sym (ap (behind known) is))

-- a `while` loop of which this is made
abbrev while_made : Place → Typed → TStmt → Made TStmt
while_made p v t = condition p v (typed.While (spot p) 0 v.tree t)

-- a `do` loop of which this is made
abbrev do_made : Place → TStmt → Typed → Made TStmt
do_made p t v = condition p v (typed.DoWhile (spot p) 0 t v.tree)

-- an expression
expr_means : (p : Place) (e : Expr) → Means (stmt.Expr p e) (expr_rule p e)
unfolding expr_rule
expr_means p e around known tree is =
    let parts = one_fine (judge known.names e) (λ v. Fine (typed.Expr (spot p) v.tree)) tree is in
    back (ElabStmt around known (stmt.Expr p e) tree) known (judge known.names e) parts.0 parts.1
    (subst (λ t. ElabStmt around known (stmt.Expr p e) t (taking known parts.0)) (fine_is (typed.Expr (spot p) (parts.0).tree) tree parts.2)
    (expression around known p e parts.0 (sound known.names e parts.0 parts.1)))

-- `;`
empty_means : (p : Place) → Means (stmt.Empty p) (empty_rule p)
unfolding empty_rule
empty_means p around known tree is =
    subst (λ t. ElabStmt around known (stmt.Empty p) t known) (fine_is (typed.Empty (spot p)) tree is) (empty around known p)

-- a block
block_means : (p : Place) (ss : List Stmt) (rules : List Statement) → AllMean ss rules → Means (stmt.Block p ss) (block_rule p rules)
unfolding block_rule
block_means p ss rules mean around known tree is =
    let all = in_order (opened known) (each_in around rules) in
    let parts = one_fine all.made (λ ts. Fine (typed.Block (spot p) ts)) tree is in
    subst (λ t. ElabStmt around known (stmt.Block p ss) t (leaving known all.after)) (fine_is (typed.Block (spot p) parts.0) tree parts.2)
    (block around known p ss parts.0 all.after (mean around (opened known) parts.0 parts.1))

-- an `if` without an `else`
if_alone_means : (p : Place) (e : Expr) (s : Stmt) (rule : Statement) → Means s rule → Means (stmt.If p e s None) (if_rule p e rule None)
unfolding if_rule
if_alone_means p e s rule means around known tree is =
    let m = judge known.names e in
    let body = rule around (behind known m) in
    let parts = three_fine m body.made (Fine None) (if_made p) tree is in
    let test = condition_fine p (number_kind (parts.0).of) (typed.If (spot p) (parts.0).tree parts.1 parts.2) tree parts.6 in
    subst (λ t. ElabStmt around known (stmt.If p e s None) t body.after)
    (ap (typed.If (spot p) (parts.0).tree parts.1) (fine_is None parts.2 parts.5) ∙ test.2)
    (if_alone around known p e s parts.0 test.0 parts.1 body.after (sound known.names e parts.0 parts.3) test.1
    (here (λ k. ElabStmt around k s parts.1 body.after) known m parts.0 parts.3 (means around (behind known m) parts.1 parts.4)))

-- an `if` with an `else`
if_else_means : (p : Place) (e : Expr) (s other : Stmt) (rule otherwise : Statement) → Means s rule → Means other otherwise
    → Means (stmt.If p e s (Some other)) (if_rule p e rule (Some otherwise))
unfolding if_rule
if_else_means p e s other rule otherwise means also around known tree is =
    let m = judge known.names e in
    let body = rule around (behind known m) in
    let last = otherwise around body.after in
    let parts = three_fine m body.made (then_made last.made (λ t. Fine (Some t))) (if_made p) tree is in
    let second = one_fine last.made (λ t. Fine (Some t)) parts.2 parts.5 in
    let test = condition_fine p (number_kind (parts.0).of) (typed.If (spot p) (parts.0).tree parts.1 parts.2) tree parts.6 in
    subst (λ t. ElabStmt around known (stmt.If p e s (Some other)) t last.after)
    (ap (typed.If (spot p) (parts.0).tree parts.1) (fine_is (Some second.0) parts.2 second.2) ∙ test.2)
    (if_else around known p e s other parts.0 test.0 parts.1 second.0 body.after last.after (sound known.names e parts.0 parts.3) test.1
    (here (λ k. ElabStmt around k s parts.1 body.after) known m parts.0 parts.3 (means around (behind known m) parts.1 parts.4))
    (also around body.after second.0 second.1))

-- a `while` loop
while_means : (p : Place) (e : Expr) (s : Stmt) (rule : Statement) → Means s rule → Means (stmt.While p e s) (while_rule p e rule)
unfolding while_rule
while_means p e s rule means around known tree is =
    let m = judge known.names e in
    let body = rule (inside_loop around) (behind known m) in
    let parts = both_fine m body.made (while_made p) tree is in
    let test = condition_fine p (number_kind (parts.0).of) (typed.While (spot p) 0 (parts.0).tree parts.1) tree parts.4 in
    subst (λ t. ElabStmt around known (stmt.While p e s) t body.after) test.2
    (while_loop around known p e s parts.0 test.0 parts.1 body.after (sound known.names e parts.0 parts.2) test.1
    (here (λ k. ElabStmt (inside_loop around) k s parts.1 body.after) known m parts.0 parts.2 (means (inside_loop around) (behind known m) parts.1 parts.3)))

-- a `do` loop
do_means : (p : Place) (s : Stmt) (e : Expr) (rule : Statement) → Means s rule → Means (stmt.DoWhile p s e) (do_rule p rule e)
unfolding do_rule
do_means p s e rule means around known tree is =
    let body = rule (inside_loop around) known in
    let m = judge body.after.names e in
    let parts = both_fine body.made m (do_made p) tree is in
    let test = condition_fine p (number_kind (parts.1).of) (typed.DoWhile (spot p) 0 parts.0 (parts.1).tree) tree parts.4 in
    back (ElabStmt around known (stmt.DoWhile p s e) tree) body.after m parts.1 parts.3
    (subst (λ t. ElabStmt around known (stmt.DoWhile p s e) t (taking body.after parts.1)) test.2
    (do_loop around known p s e parts.0 body.after parts.1 test.0 (means (inside_loop around) known parts.0 parts.2)
    (sound body.after.names e parts.1 parts.3) test.1))

-- the first part of a `for`
first_means : (known : Known) (f : First) (t : TFirst) → (first_judged known f).made ≡ Fine t → ElabFirst known f t (first_judged known f).after
first_means known first.Nothing t is =
    subst (λ x. ElabFirst known first.Nothing x known) (fine_is typed_first.Nothing t is) (nothing_first known)
first_means known (first.Value e) t is =
    let parts = one_fine (judge known.names e) (λ v. Fine (typed_first.Value v.tree)) t is in
    back (ElabFirst known (first.Value e) t) known (judge known.names e) parts.0 parts.1
    (subst (λ x. ElabFirst known (first.Value e) x (taking known parts.0)) (fine_is (typed_first.Value (parts.0).tree) t parts.2)
    (value_first known e parts.0 (sound known.names e parts.0 parts.1)))
first_means known (first.Declare specs list) t is =
    let all = declare_all (saying false specs) known list in
    let parts = one_fine all.made (λ ts. Fine (typed_first.Declare ts)) t is in
    subst (λ x. ElabFirst known (first.Declare specs list) x all.after) (fine_is (typed_first.Declare parts.0) t parts.2)
    (declared_first known specs list parts.0 all.after (declared_sound (saying false specs) known list parts.0 parts.1))

-- the test of a `for`
test_means : (p : Place) (known : Known) (test : Option Expr) (o : Option Typed) (made tree : TStmt)
    → (option_judged known test).made ≡ Fine o → for_condition p o made ≡ Fine tree
    → ElabTest known test (option_tree o) (option_judged known test).after × (made ≡ tree)
test_means p known None o made tree is can =
    let none = fine_is None o is in (
      subst (λ x. ElabTest known None (option_tree x) known) none (no_test known),
      fine_is made tree (subst (λ x. for_condition p x made ≡ Fine tree) (sym none) can),
    )
test_means p known (Some e) o made tree is can =
    let m = judge known.names e in
    let parts = one_fine m (λ v. Fine (Some v)) o is in
    let some = fine_is (Some parts.0) o parts.2 in
    let number = condition_fine p (number_kind (parts.0).of) made tree (subst (λ x. for_condition p x made ≡ Fine tree) (sym some) can) in (
      back (ElabTest known (Some e) (option_tree o)) known m parts.0 parts.1
          (subst (λ x. ElabTest known (Some e) (option_tree x) (taking known parts.0)) some
          (tested known e parts.0 number.0 (sound known.names e parts.0 parts.1) number.1)),
      number.2,
    )

-- the step of a `for`
step_means : (known : Known) (step : Option Expr) (o : Option Typed) → (option_judged known step).made ≡ Fine o
    → ElabStep known step (option_tree o) (option_judged known step).after
step_means known None o is = subst (λ x. ElabStep known None (option_tree x) known) (fine_is None o is) (no_step known)
step_means known (Some e) o is =
    let m = judge known.names e in
    let parts = one_fine m (λ v. Fine (Some v)) o is in
    back (ElabStep known (Some e) (option_tree o)) known m parts.0 parts.1
    (subst (λ x. ElabStep known (Some e) (option_tree x) (taking known parts.0)) (fine_is (Some parts.0) o parts.2)
    (stepped known e parts.0 (sound known.names e parts.0 parts.1)))

-- a `for` loop
for_means : (p : Place) (start : First) (test step : Option Expr) (s : Stmt) (rule : Statement) → Means s rule
    → Means (stmt.For p start test step s) (for_rule p start test step rule)
unfolding for_rule
for_means p start test step s rule means around known tree is =
    let f = first_judged (opened known) start in
    let a = option_judged f.after test in
    let b = option_judged a.after step in
    let body = rule (inside_loop around) b.after in
    let parts = four_fine f.made a.made b.made body.made (for_made p) tree is in
    let tried = test_means p f.after test parts.1 (typed.For (spot p) 0 parts.0 (option_tree parts.1) (option_tree parts.2) parts.3) tree parts.5 parts.8 in
    subst (λ t. ElabStmt around known (stmt.For p start test step s) t (leaving known body.after)) tried.1
    (for_loop around known p start test step s parts.0 (option_tree parts.1) (option_tree parts.2) parts.3 f.after a.after b.after body.after
    (first_means (opened known) start parts.0 parts.4) tried.0 (step_means a.after step parts.2 parts.6)
    (means (inside_loop around) b.after parts.3 parts.7))

-- a switch that is made is on a number
switched_fine : (p : Place) (v : Typed) (ts : List TPart) (k : Option Kind) (tree : TStmt) → switched p v ts k ≡ Fine tree
    → (kind : Kind) × (k ≡ Some kind) × (typed.Switch (spot p) (promoted kind) (in_kind kind (promoted kind) v.tree) ts ≡ tree)
switched_fine p v ts None tree is = absurd (not_made (fault.Kinds p) [] tree is)
switched_fine p v ts (Some kind) tree is = (kind, refl, fine_is (typed.Switch (spot p) (promoted kind) (in_kind kind (promoted kind) v.tree) ts) tree is)

-- a `switch`
switch_means : (p : Place) (e : Expr) (xs : List Part) (rules : List SwitchPart) → AllPartsMean xs rules
    → Means (stmt.Switch p e xs) (switch_rule p e rules)
unfolding switch_rule
switch_means p e xs rules mean around known tree is =
    let m = judge known.names e in
    let all = parts_in_order (inside_switch around) (kind_or_int m) no_labels (behind known m) rules in
    let parts = both_fine m all.made (λ v list. switched p v list (number_kind v.of)) tree is in
    let on = switched_fine p parts.0 parts.1 (number_kind (parts.0).of) tree parts.4 in
    subst (λ t. ElabStmt around known (stmt.Switch p e xs) t all.after) on.2
    (switch_on around known p e xs parts.0 on.0 parts.1 all.after (sound known.names e parts.0 parts.2) on.1
    (here (λ k. ElabParts (inside_switch around) (promoted on.0) no_labels k xs parts.1 all.after) known m parts.0 parts.2
    (subst (λ j. ElabParts (inside_switch around) j no_labels (behind known m) xs parts.1 all.after)
    (ap kind_or_int parts.2 ∙ ap promoted_or_int on.1)
    (mean (inside_switch around) (kind_or_int m) no_labels (behind known m) parts.1 parts.3))))

-- what is made where a test holds
where_fine : {A : Type 0} (b : Bool) (f : TypeFault) (made tree : A) → (if b then Fine made else refused f) ≡ Fine tree → (b ≡ true) × (made ≡ tree)
where_fine true f made tree is = (refl, fine_is made tree is)
where_fine false f made tree is = absurd (not_made f [] tree is)

-- what is made where a test does not hold
unless_fine : {A : Type 0} (b : Bool) (f : TypeFault) (made tree : A) → (if b then refused f else Fine made) ≡ Fine tree → (b ≡ false) × (made ≡ tree)
unless_fine true f made tree is = absurd (not_made f [] tree is)
unless_fine false f made tree is = (refl, fine_is made tree is)

-- a `break`
break_means : (p : Place) → Means (stmt.Break p) (break_rule p)
unfolding break_rule
break_means p around known tree is =
    let can = where_fine (around.in_loop || around.in_switch) (fault.JumpOutside p) (typed.Break (spot p)) tree is in
    subst (λ t. ElabStmt around known (stmt.Break p) t known) can.1 (break_within around known p can.0)

-- a `continue`
continue_means : (p : Place) → Means (stmt.Continue p) (continue_rule p)
unfolding continue_rule
continue_means p around known tree is =
    let can = where_fine around.in_loop (fault.JumpOutside p) (typed.Continue (spot p)) tree is in
    subst (λ t. ElabStmt around known (stmt.Continue p) t known) can.1 (continue_within around known p can.0)

-- a `return` without a value that is made is in a function without a result
nothing_fine : (p : Place) (of : CType) (tree : TStmt) → return_nothing p of ≡ Fine tree → (of ≡ ctype.Void) × (typed.Return (spot p) None ≡ tree)
nothing_fine p ctype.Void tree is = (refl, fine_is (typed.Return (spot p) None) tree is)
nothing_fine p (ctype.Number kind) tree is = absurd (not_made (fault.Kinds p) [] tree is)
nothing_fine p (ctype.Pointer element) tree is = absurd (not_made (fault.Kinds p) [] tree is)
nothing_fine p (ctype.Array count element) tree is = absurd (not_made (fault.Kinds p) [] tree is)

-- a `return` with a value that is made has one that was passed
returned_fine : (p : Place) (o : Option TExpr) (tree : TStmt) → return_made p o ≡ Fine tree
    → (x : TExpr) × (o ≡ Some x) × (typed.Return (spot p) (Some x) ≡ tree)
returned_fine p None tree is = absurd (not_made (fault.Kinds p) [] tree is)
returned_fine p (Some x) tree is = (x, refl, fine_is (typed.Return (spot p) (Some x)) tree is)

-- a `return`
return_means : (p : Place) (e : Option Expr) → Means (stmt.Return p e) (return_rule p e)
unfolding return_rule
return_means p None around known tree is =
    let can = nothing_fine p around.result tree is in
    subst (λ t. ElabStmt around known (stmt.Return p None) t known) can.1 (return_none around known p can.0)
return_means p (Some e) around known tree is =
    let m = judge known.names e in
    let parts = one_fine m (λ v. return_made p (passed around.result v)) tree is in
    let can = returned_fine p (passed around.result parts.0) tree parts.2 in
    back (ElabStmt around known (stmt.Return p (Some e)) tree) known m parts.0 parts.1
    (subst (λ t. ElabStmt around known (stmt.Return p (Some e)) t (taking known parts.0)) can.2
    (return_value around known p e parts.0 can.0 (sound known.names e parts.0 parts.1) can.1))

-- a declaration
declare_means : (p : Place) (specs : List Word) (list : List Declarator) → Means (stmt.Declare p specs list) (declare_rule p specs list)
unfolding declare_rule
declare_means p specs list around known tree is =
    let all = declare_all (saying false specs) known list in
    let parts = one_fine all.made (λ ts. Fine (typed.Declare (spot p) ts)) tree is in
    subst (λ t. ElabStmt around known (stmt.Declare p specs list) t all.after) (fine_is (typed.Declare (spot p) parts.0) tree parts.2)
    (declaration around known p specs list parts.0 all.after (declared_sound (saying false specs) known list parts.0 parts.1))

-- a case that is made is of a constant that differs from those before it
case_fine : (p : Place) (kind : Kind) (labels : Labels) (o : Option ℤ) (tree : TPart) → case_made p kind labels o ≡ Fine tree
    → (z : ℤ) × (o ≡ Some z) × (is_among labels.cases (converted kind z) ≡ false) × (typed_part.Case p (converted kind z) ≡ tree)
case_fine p kind labels None tree is = absurd (not_made (fault.Kinds p) [] tree is)
case_fine p kind labels (Some z) tree is =
    let can = unless_fine (is_among labels.cases (converted kind z)) (fault.CaseAgain p) (typed_part.Case p (converted kind z)) tree is in
    (z, refl, can.0, can.1)

-- a `case`
case_means : (p : Place) (e : Expr) → PartMeans (part.Case p e) (case_rule p e)
unfolding case_rule
case_means p e around kind labels known tree is =
    let m = judge known.names e in
    let parts = one_fine m (λ v. case_made p kind labels (constant v.tree)) tree is in
    let can = case_fine p kind labels (constant (parts.0).tree) tree parts.2 in
    subst (λ l. ElabPart around kind labels known (part.Case p e) tree l (behind known m))
    (sym (ap (case_labels kind labels) parts.1 ∙ ap (constant_labels kind labels) can.1))
    (back (ElabPart around kind labels known (part.Case p e) tree (with_case labels (converted kind can.0))) known m parts.0 parts.1
    (subst (λ t. ElabPart around kind labels known (part.Case p e) t (with_case labels (converted kind can.0)) (taking known parts.0)) can.3
    (case_label around kind labels known p e parts.0 can.0 (sound known.names e parts.0 parts.1) can.1 can.2)))

-- a `default`
default_means : (p : Place) → PartMeans (part.Default p) (default_rule p)
unfolding default_rule
default_means p around kind labels known tree is =
    let can = unless_fine labels.defaulted (fault.CaseAgain p) (typed_part.Default p) tree is in
    subst (λ t. ElabPart around kind labels known (part.Default p) t (with_default labels) known) can.1
    (default_label around kind labels known p can.0)

-- a statement in the braces of a `switch`
does_means : (p : Place) (s : Stmt) (rule : Statement) → Means s rule → PartMeans (part.Does p s) (does_rule p rule)
unfolding does_rule
does_means p s rule means around kind labels known tree is =
    let one = rule around known in
    let parts = one_fine one.made (λ t. Fine (typed_part.Does p t)) tree is in
    subst (λ t. ElabPart around kind labels known (part.Does p s) t labels one.after) (fine_is (typed_part.Does p parts.0) tree parts.2)
    (does around kind labels known p s parts.0 one.after (means around known parts.0 parts.1))

-- what judging makes of a statement, it means by the relation
abbrev pub Sound : Stmt → Type 0
Sound s = Means s (judge_stmt s)

-- what judging makes of a part of a switch, it means by the relation
abbrev pub PartSound : Part → Type 0
PartSound x = PartMeans x (judge_part x)

-- statements in their order, where each means what judging makes of it
stmts_mean : (xs : List ((s : Stmt) × Sound s)) → AllMean (map (λ (x : (s : Stmt) × Sound s). x.0) xs) (map judge_stmt (map (λ (x : (s : Stmt) × Sound s). x.0) xs))
stmts_mean [] around known trees is = subst (λ ts. ElabStmts around known [] ts known) (fine_is [] trees is) (no_stmts around known)
stmts_mean (x ∷ xs) around known trees is =
    let ss = map (λ (y : (s : Stmt) × Sound s). y.0) xs in
    let one = judge_stmt x.0 around known in
    let others = in_order one.after (each_in around (map judge_stmt ss)) in
    let parts = both_fine one.made others.made (λ t ts. Fine (t ∷ ts)) trees is in
    subst (λ ts. ElabStmts around known (x.0 ∷ ss) ts others.after) (fine_is (parts.0 ∷ parts.1) trees parts.4)
    (more_stmts around known x.0 ss parts.0 parts.1 one.after others.after (x.1 around known parts.0 parts.2)
    (stmts_mean xs around one.after parts.1 parts.3))

-- the parts of a switch in their order, where each means what judging makes of it
parts_mean : (xs : List ((s : Part) × PartSound s)) → AllPartsMean (map (λ (x : (s : Part) × PartSound s). x.0) xs) (map judge_part (map (λ (x : (s : Part) × PartSound s). x.0) xs))
parts_mean [] around kind labels known trees is =
    subst (λ ts. ElabParts around kind labels known [] ts known) (fine_is [] trees is) (no_parts around kind labels known)
parts_mean (x ∷ xs) around kind labels known trees is =
    let ss = map (λ (y : (s : Part) × PartSound s). y.0) xs in
    let one = judge_part x.0 around kind labels known in
    let others = parts_in_order around kind one.labels one.after (map judge_part ss) in
    let parts = both_fine one.made others.made (λ t ts. Fine (t ∷ ts)) trees is in
    subst (λ ts. ElabParts around kind labels known (x.0 ∷ ss) ts others.after) (fine_is (parts.0 ∷ parts.1) trees parts.4)
    (more_parts around kind labels known x.0 ss parts.0 parts.1 one.labels one.after others.after (x.1 around kind labels known parts.0 parts.2)
    (parts_mean xs around kind one.labels one.after parts.1 parts.3))

-- a statement alone, of whose statements and parts it is known what they mean
abbrev stmt_layer : Stmt-F ((x : Part) × PartSound x) ((s : Stmt) × Sound s) → Stmt-F Part Stmt
stmt_layer y = map-Stmt _ _ Part Stmt (λ (x : (x : Part) × PartSound x). x.0) (λ (s : (s : Stmt) × Sound s). s.0) y

-- a part of a switch alone
abbrev part_layer : Part-F ((x : Part) × PartSound x) ((s : Stmt) × Sound s) → Part-F Part Stmt
part_layer y = map-Part _ _ Part Stmt (λ (x : (x : Part) × PartSound x). x.0) (λ (s : (s : Stmt) × Sound s). s.0) y

-- a part of a switch, where its statement means what judging makes of it
part_by : (y : Part-F ((x : Part) × PartSound x) ((s : Stmt) × Sound s))
    → PartMeans (roll-Part (part_layer y)) (part_step (map-Part Part Stmt SwitchPart Statement judge_part judge_stmt (part_layer y)))
part_by (Part-F.Case p e) = subst (λ x. PartMeans x (case_rule p e)) (sym (part.rolls-Case p e)) (case_means p e)
part_by (Part-F.Default p) = subst (λ x. PartMeans x (default_rule p)) (sym (part.rolls-Default p)) (default_means p)
part_by (Part-F.Does p s) = subst (λ x. PartMeans x (does_rule p (judge_stmt s.0))) (sym (part.rolls-Does p s.0)) (does_means p s.0 (judge_stmt s.0) s.1)

-- a statement, where its statements and parts mean what judging makes of them
stmt_by : (y : Stmt-F ((x : Part) × PartSound x) ((s : Stmt) × Sound s))
    → Means (roll-Stmt (stmt_layer y)) (stmt_step (map-Stmt Part Stmt SwitchPart Statement judge_part judge_stmt (stmt_layer y)))
stmt_by (Stmt-F.Expr p e) = subst (λ s. Means s (expr_rule p e)) (sym (stmt.rolls-Expr p e)) (expr_means p e)
stmt_by (Stmt-F.Empty p) = subst (λ s. Means s (empty_rule p)) (sym (stmt.rolls-Empty p)) (empty_means p)
stmt_by (Stmt-F.Block p xs) =
    let ss = map (λ (x : (s : Stmt) × Sound s). x.0) xs in
    subst (λ s. Means s (block_rule p (map judge_stmt ss))) (sym (stmt.rolls-Block p ss)) (block_means p ss (map judge_stmt ss) (stmts_mean xs))
stmt_by (Stmt-F.If p e s None) =
    subst (λ x. Means x (if_rule p e (judge_stmt s.0) None)) (sym (stmt.rolls-If p e s.0 None)) (if_alone_means p e s.0 (judge_stmt s.0) s.1)
stmt_by (Stmt-F.If p e s (Some t)) =
    subst (λ x. Means x (if_rule p e (judge_stmt s.0) (Some (judge_stmt t.0)))) (sym (stmt.rolls-If p e s.0 (Some t.0)))
    (if_else_means p e s.0 t.0 (judge_stmt s.0) (judge_stmt t.0) s.1 t.1)
stmt_by (Stmt-F.While p e s) =
    subst (λ x. Means x (while_rule p e (judge_stmt s.0))) (sym (stmt.rolls-While p e s.0)) (while_means p e s.0 (judge_stmt s.0) s.1)
stmt_by (Stmt-F.DoWhile p s e) =
    subst (λ x. Means x (do_rule p (judge_stmt s.0) e)) (sym (stmt.rolls-DoWhile p s.0 e)) (do_means p s.0 e (judge_stmt s.0) s.1)
stmt_by (Stmt-F.For p start test step s) =
    subst (λ x. Means x (for_rule p start test step (judge_stmt s.0))) (sym (stmt.rolls-For p start test step s.0))
    (for_means p start test step s.0 (judge_stmt s.0) s.1)
stmt_by (Stmt-F.Switch p e xs) =
    let ss = map (λ (x : (s : Part) × PartSound s). x.0) xs in
    subst (λ s. Means s (switch_rule p e (map judge_part ss))) (sym (stmt.rolls-Switch p e ss)) (switch_means p e ss (map judge_part ss) (parts_mean xs))
stmt_by (Stmt-F.Break p) = subst (λ s. Means s (break_rule p)) (sym (stmt.rolls-Break p)) (break_means p)
stmt_by (Stmt-F.Continue p) = subst (λ s. Means s (continue_rule p)) (sym (stmt.rolls-Continue p)) (continue_means p)
stmt_by (Stmt-F.Return p e) = subst (λ s. Means s (return_rule p e)) (sym (stmt.rolls-Return p e)) (return_means p e)
stmt_by (Stmt-F.Declare p specs list) =
    subst (λ s. Means s (declare_rule p specs list)) (sym (stmt.rolls-Declare p specs list)) (declare_means p specs list)

-- a part of a switch, by judging
part_case : (y : Part-F ((x : Part) × PartSound x) ((s : Stmt) × Sound s)) → PartSound (roll-Part (part_layer y))
part_case y = subst (PartMeans (roll-Part (part_layer y))) (sym (fold-roll-Part SwitchPart Statement part_step stmt_step (part_layer y))) (part_by y)

-- a statement, by judging
stmt_case : (y : Stmt-F ((x : Part) × PartSound x) ((s : Stmt) × Sound s)) → Sound (roll-Stmt (stmt_layer y))
stmt_case y = subst (Means (roll-Stmt (stmt_layer y))) (sym (fold-roll-Stmt SwitchPart Statement part_step stmt_step (stmt_layer y))) (stmt_by y)

-- a statement that is judged without a fault means what judging makes
pub stmt_sound : (s : Stmt) → Sound s
stmt_sound =
    ind-Stmt PartSound Sound
    (λ x y is. subst (λ (z : Part-F Part Stmt). PartSound (roll-Part z)) is (part_case y))
    (λ x y is. subst (λ (z : Stmt-F Part Stmt). Sound (roll-Stmt z)) is (stmt_case y))

-- statements in their order
pub stmts_sound : (ss : List Stmt) → AllMean ss (map judge_stmt ss)
stmts_sound [] around known trees is = subst (λ ts. ElabStmts around known [] ts known) (fine_is [] trees is) (no_stmts around known)
stmts_sound (s ∷ ss) around known trees is =
    let one = judge_stmt s around known in
    let others = in_order one.after (each_in around (map judge_stmt ss)) in
    let parts = both_fine one.made others.made (λ t ts. Fine (t ∷ ts)) trees is in
    subst (λ ts. ElabStmts around known (s ∷ ss) ts others.after) (fine_is (parts.0 ∷ parts.1) trees parts.4)
    (more_stmts around known s ss parts.0 parts.1 one.after others.after (stmt_sound s around known parts.0 parts.2)
    (stmts_sound ss around one.after parts.1 parts.3))
