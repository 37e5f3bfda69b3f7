-- Judging a statement makes no numbers.
use Rattle.std.proofs.Common.{ℕ, ◌≡◌, refl, sym, ap, ◌∙◌, subst, Bool, true, false, cond, ℤ, List, [], ◌∷◌, ◌++◌, map, length, Option, Some, None}
use Rattle.std.specs.Prelude.{◌||◌}
use Rattle.k_num.specs.declared.numbers.Kind.{Kind}
use Rattle.k_num.specs.declared.place.Place.{Place}
use Rattle.k_num.specs.Kind.{converted, promoted}
use Rattle.k_tree.specs.declared.tokens.word.Word.{Word}
use Rattle.k_tree.specs.declared.tree.declaration.Declarator.{Declarator}
use Rattle.k_tree.specs.declared.tree.expression.Expr.{Expr}
use Rattle.k_tree.specs.declared.tree.statement.First.{First}
use Rattle.k_tree.specs.declared.tree.statement.First.TheVariants as first
use Rattle.k_tree.specs.declared.tree.statement.Part.{Part, fold-Part, fold-roll-Part, map-Part, roll-Part}
use Rattle.k_tree.specs.declared.tree.statement.Part.TheOpen.{Part-F, Stmt-F}
use Rattle.k_tree.specs.declared.tree.statement.Stmt.{Stmt, fold-Stmt, fold-roll-Stmt, ind-Stmt, map-Stmt, roll-Stmt}
use Rattle.k_types_meaning.specs.declared.fault.TypeFault.TheVariants as fault
use Rattle.k_types_meaning.specs.declared.tree.declaration.TDeclarator.{TDeclarator}
use Rattle.k_types_meaning.specs.declared.tree.expression.TExpr.{TExpr}
use Rattle.k_types_meaning.specs.declared.tree.statement.TFirst.{TFirst}
use Rattle.k_types_meaning.specs.declared.tree.statement.TFirst.TheVariants as typed_first
use Rattle.k_types_meaning.specs.declared.tree.statement.TPart.{TPart, fold-TPart}
use Rattle.k_types_meaning.specs.declared.tree.statement.TPart.TheVariants as typed_part
use Rattle.k_types_meaning.specs.declared.tree.statement.TStmt.{TStmt}
use Rattle.k_types_meaning.specs.declared.tree.statement.TStmt.TheVariants as typed
use Rattle.k_types_meaning.specs.declared.types.CType.{CType}
use Rattle.k_types_meaning.specs.declared.types.CType.TheVariants as ctype
use Rattle.k_types_meaning.specs.Bare.{bare_declared, bare_expr, bare_first, bare_init, bare_option, bare_part_step, bare_stmt, bare_stmt_step}
use Rattle.k_types_meaning.specs.Constants.{constant}
use Rattle.k_types_meaning.specs.Conversions.{Typed, in_kind, passed}
use Rattle.k_types_meaning.specs.Declarations.{Saying, declarator_judged, saying}
use Rattle.k_types_meaning.proofs.Folds.{done_Expr, done_Empty, done_Block, done_alone, done_else, done_While, done_DoWhile, done_For, done_Switch, done_Break, done_Continue, done_Return, done_Declare, part_Case, part_Default, part_Does}
use Rattle.k_types_meaning.specs.Made.{Made, Fine, both, refused, then_made}
use Rattle.k_types_meaning.specs.Statements.{Around, Judged, JudgedPart, Known, Labels, Statement, SwitchPart, at_known, behind, block_rule, break_rule, case_made, case_rule, condition, conditioned, continue_rule, declare, declare_all, declare_rule, declared, default_rule, do_rule, does_rule, each_in, else_judged, empty_rule, expr_rule, first_judged, for_behind, for_condition, for_made, for_rule, if_made, if_rule, in_order, inside_loop, inside_switch, is_among, judge_body, judge_stmt, judged_as, kind_or_int, no_labels, opened, option_judged, option_tree, part_before, part_step, parts_in_order, return_nothing, return_rule, return_made, spot, stmt_step, switch_rule, switched, while_rule}
use Rattle.k_types_meaning.specs.Types.{number_kind}
use Rattle.k_types_bare.proofs.Expressions.{IsBareTyped, BareOption, bare_passed, judge_bare}
use Rattle.k_types_bare.proofs.Initialisers.{IsBareObject, declarator_bare}
use Rattle.k_types_meaning.proofs.Fine.{AllOf, IfFine, IfThere, both_has, cond_has, four_has, then_has, three_has}
use Rattle.k_types_bare.proofs.Nodes.{IsBare, bare_in_kind}

-- a part of a switch without its numbers
abbrev bare_part : TPart → TPart
bare_part = fold-TPart TPart TStmt bare_part_step bare_stmt_step

-- a statement has no numbers
abbrev pub IsBareStmt : TStmt → Type 0
IsBareStmt s = bare_stmt s ≡ s

-- a part of a switch has no numbers
abbrev IsBarePart : TPart → Type 0
IsBarePart p = bare_part p ≡ p

-- a declared variable has no numbers
abbrev IsBareDeclarator : TDeclarator → Type 0
IsBareDeclarator d = bare_init d.init ≡ d.init

-- statements have no numbers
pub stmts_bare : (ss : List TStmt) → AllOf IsBareStmt ss → map bare_stmt ss ≡ ss
stmts_bare [] all = refl
stmts_bare (s ∷ ss) all = λ i. all.0 i ∷ stmts_bare ss all.1 i

parts_bare : (ps : List TPart) → AllOf IsBarePart ps → map bare_part ps ≡ ps
parts_bare [] all = refl
parts_bare (p ∷ ps) all = λ i. all.0 i ∷ parts_bare ps all.1 i

declared_bare : (ds : List TDeclarator) → AllOf IsBareDeclarator ds → bare_declared ds ≡ ds
declared_bare [] all = refl
declared_bare (d ∷ ds) all = λ i. record d { init = all.0 i } ∷ declared_bare ds all.1 i

-- an expression that may be left out has no numbers
option_bare : (o : Option TExpr) → IfThere IsBare o → bare_option o ≡ o
option_bare None h = refl
option_bare (Some e) h = ap (λ (x : TExpr). Some x) h

-- what is judged in order, of whose parts it is known
in_order_bare : {A : Type 0} (P : A → Type 0) (parts : List (Known → Judged A)) → AllOf (λ (part : Known → Judged A). (known : Known) → IfFine P (part known).made) parts
    → (known : Known) → IfFine (AllOf P) (in_order known parts).made
in_order_bare P [] all known = tt
in_order_bare P (part ∷ parts) all known =
    both_has P (AllOf P) (AllOf P) (part known).made (in_order (part known).after parts).made (λ x xs. Fine (x ∷ xs)) (all.0 known) (in_order_bare P parts all.1 (part known).after)
    (λ x xs h k. (h, k))

-- a condition, of which the rest has no numbers
conditioned_bare : {A : Type 0} (P : A → Type 0) (p : Place) (k : Option Kind) (made : A) → P made → IfFine P (conditioned p k made)
conditioned_bare P p None made h = tt
conditioned_bare P p (Some kind) made h = h

-- a statement that is judged makes no numbers
abbrev BareStatement : Statement → Type 0
BareStatement s = (around : Around) (known : Known) → IfFine IsBareStmt (s around known).made

-- a part of a switch that is judged makes no numbers
abbrev BareSwitchPart : SwitchPart → Type 0
BareSwitchPart p = (around : Around) (kind : Kind) (labels : Labels) (known : Known) → IfFine IsBarePart (p around kind labels known).made

-- an expression
expr_bare : (p : Place) (e : Expr) → BareStatement (expr_rule p e)
unfolding expr_rule
expr_bare p e around known =
    then_has IsBareTyped IsBareStmt (at_known known e) (λ v. Fine (typed.Expr (spot p) v.tree)) (judge_bare known.names e)
    (λ v h. done_Expr TPart TStmt bare_part_step bare_stmt_step (spot p) v.tree ∙ ap (typed.Expr (spot p)) h)

empty_bare : (p : Place) → BareStatement (empty_rule p)
unfolding empty_rule
empty_bare p around known = done_Empty TPart TStmt bare_part_step bare_stmt_step (spot p)

-- a block
each_bare : (around : Around) (ss : List Statement) → AllOf BareStatement ss → AllOf (λ (part : Known → Judged TStmt). (known : Known) → IfFine IsBareStmt (part known).made) (each_in around ss)
each_bare around [] all = tt
each_bare around (s ∷ ss) all = (λ known. all.0 around known, each_bare around ss all.1)

block_bare : (p : Place) (ss : List Statement) → AllOf BareStatement ss → BareStatement (block_rule p ss)
unfolding block_rule
block_bare p ss all around known =
    then_has (AllOf IsBareStmt) IsBareStmt (in_order (opened known) (each_in around ss)).made (λ trees. Fine (typed.Block (spot p) trees))
    (in_order_bare IsBareStmt (each_in around ss) (each_bare around ss all) (opened known))
    (λ trees h. done_Block TPart TStmt bare_part_step bare_stmt_step (spot p) trees ∙ ap (typed.Block (spot p)) (stmts_bare trees h))

-- an `if`
if_made_bare : (p : Place) (v : Typed) (a : TStmt) (b : Option TStmt) → IsBareTyped v → IsBareStmt a → IfThere IsBareStmt b → IfFine IsBareStmt (if_made p v a b)
if_made_bare p v a None h k j =
    conditioned_bare IsBareStmt p (number_kind v.of) (typed.If (spot p) v.tree a None)
    (done_alone TPart TStmt bare_part_step bare_stmt_step (spot p) v.tree a ∙ (λ i. typed.If (spot p) (h i) (k i) None))
if_made_bare p v a (Some b) h k j =
    conditioned_bare IsBareStmt p (number_kind v.of) (typed.If (spot p) v.tree a (Some b))
    (done_else TPart TStmt bare_part_step bare_stmt_step (spot p) v.tree a b ∙ (λ i. typed.If (spot p) (h i) (k i) (Some (j i))))

else_bare : (o : Option Statement) → IfThere BareStatement o → (around : Around) (known : Known) → IfFine (λ (b : Option TStmt). IfThere IsBareStmt b) (else_judged around known o).made
else_bare None h around known = tt
else_bare (Some s) h around known =
    then_has IsBareStmt (λ (b : Option TStmt). IfThere IsBareStmt b) (s around known).made (λ x. Fine (Some x)) (h around known) (λ x k. k)

if_bare : (p : Place) (test : Expr) (s : Statement) (o : Option Statement) → BareStatement s → IfThere BareStatement o → BareStatement (if_rule p test s o)
unfolding if_rule
if_bare p test s o h k around known =
    three_has IsBareTyped IsBareStmt (λ (b : Option TStmt). IfThere IsBareStmt b) IsBareStmt (at_known known test) (s around (behind known (at_known known test))).made
    (else_judged around (s around (behind known (at_known known test))).after o).made (if_made p) (judge_bare known.names test)
    (h around (behind known (at_known known test))) (else_bare o k around (s around (behind known (at_known known test))).after) (if_made_bare p)

-- loops
while_bare : (p : Place) (test : Expr) (s : Statement) → BareStatement s → BareStatement (while_rule p test s)
unfolding while_rule
while_bare p test s h around known =
    both_has IsBareTyped IsBareStmt IsBareStmt (at_known known test) (s (inside_loop around) (behind known (at_known known test))).made
    (λ v t. condition p v (typed.While (spot p) 0 v.tree t)) (judge_bare known.names test) (h (inside_loop around) (behind known (at_known known test)))
    (λ v t k j. conditioned_bare IsBareStmt p (number_kind v.of) (typed.While (spot p) 0 v.tree t)
    (done_While TPart TStmt bare_part_step bare_stmt_step (spot p) 0 v.tree t ∙ (λ i. typed.While (spot p) 0 (k i) (j i))))

do_bare : (p : Place) (s : Statement) (test : Expr) → BareStatement s → BareStatement (do_rule p s test)
unfolding do_rule
do_bare p s test h around known =
    both_has IsBareStmt IsBareTyped IsBareStmt (s (inside_loop around) known).made (at_known (s (inside_loop around) known).after test)
    (λ t v. condition p v (typed.DoWhile (spot p) 0 t v.tree)) (h (inside_loop around) known) (judge_bare (s (inside_loop around) known).after.names test)
    (λ t v j k. conditioned_bare IsBareStmt p (number_kind v.of) (typed.DoWhile (spot p) 0 t v.tree)
    (done_DoWhile TPart TStmt bare_part_step bare_stmt_step (spot p) 0 t v.tree ∙ (λ i. typed.DoWhile (spot p) 0 (j i) (k i))))

-- declarations
declare_bare : (s : Saying) (known : Known) (d : Declarator) → IfFine IsBareDeclarator (declare s known d).made
unfolding declare
declare_bare s known d =
    then_has IsBareObject IsBareDeclarator (declarator_judged false s (length known.variables) known.names d)
    (λ o. Fine (record { place = o.place; variable = length known.variables; init = o.init }))
    (declarator_bare false s (length known.variables) known.names d) (λ o h. h)

declare_all_bare : (s : Saying) (known : Known) (ds : List Declarator) → IfFine (AllOf IsBareDeclarator) (declare_all s known ds).made
declare_all_bare s known [] = tt
declare_all_bare s known (d ∷ ds) =
    both_has IsBareDeclarator (AllOf IsBareDeclarator) (AllOf IsBareDeclarator) (declare s known d).made (declare_all s (declare s known d).after ds).made (λ x xs. Fine (x ∷ xs))
    (declare_bare s known d) (declare_all_bare s (declare s known d).after ds) (λ x xs h k. (h, k))

declaration_bare : (p : Place) (specs : List Word) (list : List Declarator) → BareStatement (declare_rule p specs list)
unfolding declare_rule
declaration_bare p specs list around known =
    then_has (AllOf IsBareDeclarator) IsBareStmt (declare_all (saying false specs) known list).made (λ ds. Fine (typed.Declare (spot p) ds)) (declare_all_bare (saying false specs) known list)
    (λ ds h. done_Declare TPart TStmt bare_part_step bare_stmt_step (spot p) ds ∙ ap (typed.Declare (spot p)) (declared_bare ds h))

-- a `for`
abbrev IsBareFirst : TFirst → Type 0
IsBareFirst f = bare_first f ≡ f

first_bare : (known : Known) (f : First) → IfFine IsBareFirst (first_judged known f).made
first_bare known first.Nothing = refl
first_bare known (first.Value e) =
    then_has IsBareTyped IsBareFirst (at_known known e) (λ v. Fine (typed_first.Value v.tree)) (judge_bare known.names e) (λ v h. ap typed_first.Value h)
first_bare known (first.Declare specs list) =
    then_has (AllOf IsBareDeclarator) IsBareFirst (declare_all (saying false specs) known list).made (λ ds. Fine (typed_first.Declare ds)) (declare_all_bare (saying false specs) known list)
    (λ ds h. ap typed_first.Declare (declared_bare ds h))

abbrev BareTyped : Option Typed → Type 0
BareTyped o = IfThere IsBareTyped o

option_judged_bare : (known : Known) (e : Option Expr) → IfFine BareTyped (option_judged known e).made
option_judged_bare known None = tt
option_judged_bare known (Some e) = then_has IsBareTyped BareTyped (at_known known e) (λ v. Fine (Some v)) (judge_bare known.names e) (λ v h. h)

tree_bare : (o : Option Typed) → BareTyped o → bare_option (option_tree o) ≡ option_tree o
tree_bare None h = refl
tree_bare (Some v) h = ap (λ (x : TExpr). Some x) h

for_condition_bare : (p : Place) (o : Option Typed) (s : TStmt) → IsBareStmt s → IfFine IsBareStmt (for_condition p o s)
for_condition_bare p None s h = h
for_condition_bare p (Some v) s h = conditioned_bare IsBareStmt p (number_kind v.of) s h

for_made_bare : (p : Place) (f : TFirst) (test step : Option Typed) (s : TStmt) → IsBareFirst f → BareTyped test → BareTyped step → IsBareStmt s → IfFine IsBareStmt (for_made p f test step s)
for_made_bare p f test step s h k j l =
    for_condition_bare p test (typed.For (spot p) 0 f (option_tree test) (option_tree step) s)
    (done_For TPart TStmt bare_part_step bare_stmt_step (spot p) 0 f (option_tree test) (option_tree step) s
    ∙ (λ i. typed.For (spot p) 0 (h i) (tree_bare test k i) (tree_bare step j i) (l i)))

for_behind_bare : (p : Place) (test step : Option Expr) (s : Statement) (around : Around) (f : Judged TFirst) → BareStatement s → IfFine IsBareFirst f.made
    → IfFine IsBareStmt (for_behind p test step s around f).made
for_behind_bare p test step s around f h k =
    let t = option_judged f.after test in
    let u = option_judged t.after step in
    four_has IsBareFirst BareTyped BareTyped IsBareStmt IsBareStmt f.made t.made u.made (s (inside_loop around) u.after).made (for_made p)
    k (option_judged_bare f.after test) (option_judged_bare t.after step) (h (inside_loop around) u.after) (for_made_bare p)

for_bare : (p : Place) (f : First) (test step : Option Expr) (s : Statement) → BareStatement s → BareStatement (for_rule p f test step s)
unfolding for_rule
for_bare p f test step s h around known = for_behind_bare p test step s around (first_judged (opened known) f) h (first_bare (opened known) f)

-- jumps
break_bare : (p : Place) → BareStatement (break_rule p)
unfolding break_rule
break_bare p around known = cond_has IsBareStmt (around.in_loop || around.in_switch) (Fine (typed.Break (spot p))) (refused (fault.JumpOutside p)) (done_Break TPart TStmt bare_part_step bare_stmt_step (spot p)) tt

continue_bare : (p : Place) → BareStatement (continue_rule p)
unfolding continue_rule
continue_bare p around known =
    cond_has IsBareStmt around.in_loop (Fine (typed.Continue (spot p))) (refused (fault.JumpOutside p)) (done_Continue TPart TStmt bare_part_step bare_stmt_step (spot p)) tt

returned_bare : (p : Place) (o : Option TExpr) → BareOption o → IfFine IsBareStmt (return_made p o)
returned_bare p None h = tt
returned_bare p (Some e) h = done_Return TPart TStmt bare_part_step bare_stmt_step (spot p) (Some e) ∙ ap (λ (x : TExpr). typed.Return (spot p) (Some x)) h

return_nothing_bare : (p : Place) (of : CType) → IfFine IsBareStmt (return_nothing p of)
return_nothing_bare p ctype.Void = done_Return TPart TStmt bare_part_step bare_stmt_step (spot p) None
return_nothing_bare p (ctype.Number kind) = tt
return_nothing_bare p (ctype.Pointer e) = tt
return_nothing_bare p (ctype.Array count e) = tt

return_bare : (p : Place) (e : Option Expr) → BareStatement (return_rule p e)
unfolding return_rule
return_bare p None around known = return_nothing_bare p around.result
return_bare p (Some e) around known =
    then_has IsBareTyped IsBareStmt (at_known known e) (λ v. return_made p (passed around.result v)) (judge_bare known.names e)
    (λ v h. returned_bare p (passed around.result v) (bare_passed around.result v h))

-- a `switch`
parts_in_order_bare : (around : Around) (kind : Kind) (labels : Labels) (known : Known) (ps : List SwitchPart) → AllOf BareSwitchPart ps
    → IfFine (AllOf IsBarePart) (parts_in_order around kind labels known ps).made
parts_in_order_bare around kind labels known [] all = tt
parts_in_order_bare around kind labels known (p ∷ ps) all =
    let j = p around kind labels known in
    both_has IsBarePart (AllOf IsBarePart) (AllOf IsBarePart) j.made (parts_in_order around kind j.labels j.after ps).made (λ x xs. Fine (x ∷ xs))
    (all.0 around kind labels known) (parts_in_order_bare around kind j.labels j.after ps all.1) (λ x xs h k. (h, k))

switched_bare : (p : Place) (v : Typed) (parts : List TPart) (k : Option Kind) → IsBareTyped v → AllOf IsBarePart parts → IfFine IsBareStmt (switched p v parts k)
switched_bare p v parts None h all = tt
switched_bare p v parts (Some kind) h all =
    done_Switch TPart TStmt bare_part_step bare_stmt_step (spot p) (promoted kind) (in_kind kind (promoted kind) v.tree) parts
    ∙ (λ i. typed.Switch (spot p) (promoted kind) (bare_in_kind kind (promoted kind) v.tree h i) (parts_bare parts all i))

switch_bare : (p : Place) (on : Expr) (ps : List SwitchPart) → AllOf BareSwitchPart ps → BareStatement (switch_rule p on ps)
unfolding switch_rule
switch_bare p on ps all around known =
    both_has IsBareTyped (AllOf IsBarePart) IsBareStmt (at_known known on)
    (parts_in_order (inside_switch around) (kind_or_int (at_known known on)) no_labels (behind known (at_known known on)) ps).made
    (λ v list. switched p v list (number_kind v.of)) (judge_bare known.names on)
    (parts_in_order_bare (inside_switch around) (kind_or_int (at_known known on)) no_labels (behind known (at_known known on)) ps all)
    (λ v list h k. switched_bare p v list (number_kind v.of) h k)

case_made_bare : (p : Place) (kind : Kind) (labels : Labels) (o : Option ℤ) → IfFine IsBarePart (case_made p kind labels o)
case_made_bare p kind labels None = tt
case_made_bare p kind labels (Some z) =
    cond_has IsBarePart (is_among labels.cases (converted kind z)) (refused (fault.CaseAgain p)) (Fine (typed_part.Case p (converted kind z))) tt
    (part_Case TPart TStmt bare_part_step bare_stmt_step p (converted kind z))

case_bare : (p : Place) (e : Expr) → BareSwitchPart (case_rule p e)
unfolding case_rule
case_bare p e around kind labels known =
    then_has IsBareTyped IsBarePart (at_known known e) (λ v. case_made p kind labels (constant v.tree)) (judge_bare known.names e) (λ v h. case_made_bare p kind labels (constant v.tree))

default_bare : (p : Place) → BareSwitchPart (default_rule p)
unfolding default_rule
default_bare p around kind labels known =
    cond_has IsBarePart labels.defaulted (refused (fault.CaseAgain p)) (Fine (typed_part.Default p)) tt (part_Default TPart TStmt bare_part_step bare_stmt_step p)

does_bare : (p : Place) (s : Statement) → BareStatement s → BareSwitchPart (does_rule p s)
unfolding does_rule
does_bare p s h around kind labels known =
    then_has IsBareStmt IsBarePart (s around known).made (λ t. Fine (typed_part.Does p t)) (h around known)
    (λ t k. part_Does TPart TStmt bare_part_step bare_stmt_step p t ∙ ap (typed_part.Does p) k)

-- a part of a switch
abbrev judge_part : Part → SwitchPart
judge_part = fold-Part SwitchPart Statement part_step stmt_step

-- a statement is judged without numbers
abbrev StmtBare : Stmt → Type 0
StmtBare s = BareStatement (judge_stmt s)

-- a part of a switch is judged without numbers
abbrev PartBare : Part → Type 0
PartBare p = BareSwitchPart (judge_part p)

all_stmts : (xs : List ((s : Stmt) × StmtBare s)) → AllOf BareStatement (map judge_stmt (map (λ (x : (s : Stmt) × StmtBare s). x.0) xs))
all_stmts [] = tt
all_stmts (x ∷ xs) = (x.1, all_stmts xs)

all_parts : (xs : List ((p : Part) × PartBare p)) → AllOf BareSwitchPart (map judge_part (map (λ (x : (p : Part) × PartBare p). x.0) xs))
all_parts [] = tt
all_parts (x ∷ xs) = (x.1, all_parts xs)

part_by : (y : Part-F ((p : Part) × PartBare p) ((s : Stmt) × StmtBare s))
    → BareSwitchPart (part_step (map-Part Part Stmt SwitchPart Statement judge_part judge_stmt (map-Part _ _ Part Stmt (λ (x : (p : Part) × PartBare p). x.0) (λ (x : (s : Stmt) × StmtBare s). x.0) y)))
part_by (Part-F.Case p e) = case_bare p e
part_by (Part-F.Default p) = default_bare p
part_by (Part-F.Does p s) = does_bare p (judge_stmt s.0) s.1

stmt_by : (y : Stmt-F ((p : Part) × PartBare p) ((s : Stmt) × StmtBare s))
    → BareStatement (stmt_step (map-Stmt Part Stmt SwitchPart Statement judge_part judge_stmt (map-Stmt _ _ Part Stmt (λ (x : (p : Part) × PartBare p). x.0) (λ (x : (s : Stmt) × StmtBare s). x.0) y)))
stmt_by (Stmt-F.Expr p e) = expr_bare p e
stmt_by (Stmt-F.Empty p) = empty_bare p
stmt_by (Stmt-F.Block p parts) = block_bare p (map judge_stmt (map (λ (x : (s : Stmt) × StmtBare s). x.0) parts)) (all_stmts parts)
stmt_by (Stmt-F.If p test s None) = if_bare p test (judge_stmt s.0) None s.1 tt
stmt_by (Stmt-F.If p test s (Some t)) = if_bare p test (judge_stmt s.0) (Some (judge_stmt t.0)) s.1 t.1
stmt_by (Stmt-F.While p test s) = while_bare p test (judge_stmt s.0) s.1
stmt_by (Stmt-F.DoWhile p s test) = do_bare p (judge_stmt s.0) test s.1
stmt_by (Stmt-F.For p f test step s) = for_bare p f test step (judge_stmt s.0) s.1
stmt_by (Stmt-F.Switch p on parts) = switch_bare p on (map judge_part (map (λ (x : (p : Part) × PartBare p). x.0) parts)) (all_parts parts)
stmt_by (Stmt-F.Break p) = break_bare p
stmt_by (Stmt-F.Continue p) = continue_bare p
stmt_by (Stmt-F.Return p value) = return_bare p value
stmt_by (Stmt-F.Declare p specs list) = declaration_bare p specs list

-- judging a statement makes no numbers
stmt_bare : (s : Stmt) → StmtBare s
stmt_bare =
    ind-Stmt PartBare StmtBare
    (λ x y is. subst BareSwitchPart (sym (fold-roll-Part SwitchPart Statement part_step stmt_step x))
    (subst (λ (z : Part-F Part Stmt). BareSwitchPart (part_step (map-Part Part Stmt SwitchPart Statement judge_part judge_stmt z))) is (part_by y)))
    (λ x y is. subst BareStatement (sym (fold-roll-Stmt SwitchPart Statement part_step stmt_step x))
    (subst (λ (z : Stmt-F Part Stmt). BareStatement (stmt_step (map-Stmt Part Stmt SwitchPart Statement judge_part judge_stmt z))) is (stmt_by y)))

all_judged : (body : List Stmt) → AllOf BareStatement (map judge_stmt body)
all_judged [] = tt
all_judged (s ∷ body) = (stmt_bare s, all_judged body)

-- judging the block of a function makes no numbers
pub body_bare : (around : Around) (known : Known) (body : List Stmt) → IfFine (AllOf IsBareStmt) (judge_body around known body).made
unfolding judge_body
body_bare around known body = in_order_bare IsBareStmt (each_in around (map judge_stmt body)) (each_bare around (map judge_stmt body) (all_judged body)) known
