-- What is found in a typed tree stands where it stands in the tree of syntax: functions, and in them loops and their bodies.
use Rattle.std.proofs.Common.{◌≡◌, refl, sym, ap, ◌∙◌, subst, false, ℤ, List, [], ◌∷◌, ◌++◌, map, Option, Some, None}
use Rattle.std.specs.Prelude.{◌||◌}
use Rattle.std.proofs.lemmas.List.{map-append}
use Rattle.k_num.specs.declared.numbers.Kind.{Kind}
use Rattle.k_num.specs.declared.place.Place.{Place}
use Rattle.k_num.specs.Kind.{converted, promoted}
use Rattle.k_tree.specs.declared.tokens.word.Word.{Word}
use Rattle.k_tree.specs.declared.tree.declaration.Declarator.{Declarator}
use Rattle.k_tree.specs.declared.tree.expression.Expr.{Expr}
use Rattle.k_tree.specs.declared.tree.statement.First.{First}
use Rattle.k_tree.specs.declared.tree.statement.Part.{Part, fold-Part, fold-roll-Part, map-Part}
use Rattle.k_tree.specs.declared.tree.statement.Part.TheOpen.{Part-F, Stmt-F}
use Rattle.k_tree.specs.declared.tree.statement.Stmt.{Stmt, fold-Stmt, fold-roll-Stmt, ind-Stmt, map-Stmt}
use Rattle.k_types_meaning.specs.declared.fault.TypeFault.TheVariants as fault
use Rattle.k_types_meaning.specs.declared.tree.expression.TExpr.{TExpr}
use Rattle.k_types_meaning.specs.declared.tree.statement.TFirst.{TFirst}
use Rattle.k_types_meaning.specs.declared.tree.statement.TPart.{TPart}
use Rattle.k_types_meaning.specs.declared.tree.statement.TPart.TheVariants as typed_part
use Rattle.k_types_meaning.specs.declared.tree.statement.TStmt.{TStmt}
use Rattle.k_types_meaning.specs.declared.tree.statement.TStmt.TheVariants as typed
use Rattle.k_types_meaning.specs.declared.types.CType.{CType}
use Rattle.k_types_meaning.specs.declared.types.CType.TheVariants as ctype
use Rattle.k_types_meaning.specs.Constants.{constant}
use Rattle.k_types_meaning.specs.Conversions.{Typed, in_kind, passed}
use Rattle.k_types_meaning.specs.Declarations.{saying}
use Rattle.k_types_meaning.proofs.Folds.{done_Expr, done_Empty, done_Block, done_alone, done_else, done_While, done_DoWhile, done_For, done_Switch, done_Break, done_Continue, done_Return, done_Declare, part_Case, part_Default, part_Does}
use Rattle.k_types_meaning.specs.Made.{Fine, refused}
use Rattle.k_types_meaning.specs.Statements.{Around, Judged, Known, Labels, Statement, SwitchPart, at_known, behind, block_rule, break_rule, case_made, case_rule, condition, conditioned, continue_rule, declare_all, declare_rule, default_rule, do_rule, does_rule, each_in, else_judged, empty_rule, expr_rule, first_judged, for_behind, for_condition, for_made, for_rule, if_made, if_rule, in_order, inside_loop, inside_switch, is_among, judge_body, judge_stmt, kind_or_int, no_labels, opened, option_judged, option_tree, part_step, parts_in_order, return_nothing, return_rule, return_made, spot, stmt_step, switch_rule, switched, while_rule}
use Rattle.k_types_meaning.specs.Types.{number_kind}
use Rattle.k_regions.specs.declared.loops.LoopAt.{LoopAt}
use Rattle.k_regions.specs.Regions as regions
use Rattle.k_regions.specs.Regions.{Located, find, find_part, loops_of_all}
use Rattle.k_types_meaning.proofs.Fine.{IfFine, Anything, anything, cond_has, then_has, both_has, three_has, four_has}

-- where a loop and its body stand
abbrev pub Pair : Type 0
Pair = Place × Place

-- where a statement stands, and where its loops and their bodies do
pub record Shape : Type 0 where
  pub place : Place
  pub loops : List Pair

abbrev pub pair_of : LoopAt → Pair
pair_of l = (l.place, l.body)

abbrev pub shape_of : Located → Shape
shape_of f = record { place = f.place; loops = map pair_of f.loops }

abbrev pub all_loops : List Shape → List Pair
all_loops [] = []
all_loops (s ∷ ss) = s.loops ++ all_loops ss

abbrev pub loops_or_none : Option Shape → List Pair
loops_or_none None = []
loops_or_none (Some s) = s.loops

-- nothing but statements and parts with these loops
abbrev pub shaped : Place → List Pair → Shape
shaped p loops = record { place = p; loops = loops }

-- a loop before those in its body
abbrev pub loop_shaped : Place → Shape → Shape
loop_shaped p body = shaped p ((p, body.place) ∷ body.loops)

-- THE TREE OF SYNTAX
abbrev pub see_stmt_step : Stmt-F Shape Shape → Shape
see_stmt_step (Stmt-F.Expr p e) = shaped p []
see_stmt_step (Stmt-F.Empty p) = shaped p []
see_stmt_step (Stmt-F.Block p parts) = shaped p (all_loops parts)
see_stmt_step (Stmt-F.If p test first second) = shaped p (first.loops ++ loops_or_none second)
see_stmt_step (Stmt-F.While p test body) = loop_shaped p body
see_stmt_step (Stmt-F.DoWhile p body test) = loop_shaped p body
see_stmt_step (Stmt-F.For p start test step body) = loop_shaped p body
see_stmt_step (Stmt-F.Switch p on parts) = shaped p (all_loops parts)
see_stmt_step (Stmt-F.Break p) = shaped p []
see_stmt_step (Stmt-F.Continue p) = shaped p []
see_stmt_step (Stmt-F.Return p value) = shaped p []
see_stmt_step (Stmt-F.Declare p specs list) = shaped p []

abbrev pub see_part_step : Part-F Shape Shape → Shape
see_part_step (Part-F.Case p e) = shaped p []
see_part_step (Part-F.Default p) = shaped p []
see_part_step (Part-F.Does p s) = shaped p s.loops

abbrev pub see : Stmt → Shape
see = fold-Stmt Shape Shape see_part_step see_stmt_step

abbrev pub see_part : Part → Shape
see_part = fold-Part Shape Shape see_part_step see_stmt_step

-- THE TYPED TREE
abbrev pub stmt_shape : TStmt → Shape
stmt_shape t = shape_of (find t)

abbrev pub part_shape : TPart → Shape
part_shape t = shape_of (find_part t)

pub all_shapes : (ts : List TStmt) → map pair_of (loops_of_all (map find ts)) ≡ all_loops (map stmt_shape ts)
all_shapes [] = refl
all_shapes (t ∷ ts) =
    map-append pair_of (find t).loops (loops_of_all (map find ts)) ∙ ap (λ (e : List Pair). map pair_of (find t).loops ++ e) (all_shapes ts)

pub all_part_shapes : (ts : List TPart) → map pair_of (loops_of_all (map find_part ts)) ≡ all_loops (map part_shape ts)
all_part_shapes [] = refl
all_part_shapes (t ∷ ts) =
    map-append pair_of (find_part t).loops (loops_of_all (map find_part ts)) ∙ ap (λ (e : List Pair). map pair_of (find_part t).loops ++ e) (all_part_shapes ts)

-- what is made of a statement has this shape
abbrev Follows : Shape → Statement → Type 0
Follows f s = (around : Around) (known : Known) → IfFine (λ (t : TStmt). stmt_shape t ≡ f) (s around known).made

abbrev PartFollows : Shape → SwitchPart → Type 0
PartFollows f p = (around : Around) (kind : Kind) (labels : Labels) (known : Known) → IfFine (λ (t : TPart). part_shape t ≡ f) (p around kind labels known).made

-- statements, each with its shape
abbrev AllFollow : List Shape → List Statement → Type 0
AllFollow [] [] = Unit {0}
AllFollow [] (s ∷ ss) = ⊥
AllFollow (f ∷ fs) [] = ⊥
AllFollow (f ∷ fs) (s ∷ ss) = Follows f s × AllFollow fs ss

abbrev PartsFollow : List Shape → List SwitchPart → Type 0
PartsFollow [] [] = Unit {0}
PartsFollow [] (p ∷ ps) = ⊥
PartsFollow (f ∷ fs) [] = ⊥
PartsFollow (f ∷ fs) (p ∷ ps) = PartFollows f p × PartsFollow fs ps

abbrev pub HaveShapes : List Shape → List TStmt → Type 0
HaveShapes fs ts = map stmt_shape ts ≡ fs

abbrev PartsHave : List Shape → List TPart → Type 0
PartsHave fs ts = map part_shape ts ≡ fs

in_order_follow : (around : Around) (fs : List Shape) (ss : List Statement) → AllFollow fs ss → (known : Known) → IfFine (HaveShapes fs) (in_order known (each_in around ss)).made
in_order_follow around [] [] all known = refl
in_order_follow around [] (s ∷ ss) all known = absurd all
in_order_follow around (f ∷ fs) [] all known = absurd all
in_order_follow around (f ∷ fs) (s ∷ ss) all known =
    both_has (λ (t : TStmt). stmt_shape t ≡ f) (HaveShapes fs) (HaveShapes (f ∷ fs)) (s around known).made (in_order (s around known).after (each_in around ss)).made (λ x xs. Fine (x ∷ xs))
    (all.0 around known) (in_order_follow around fs ss all.1 (s around known).after) (λ x xs h k. λ i. h i ∷ k i)

conditioned_has : {A : Type 0} (P : A → Type 0) (p : Place) (k : Option Kind) (made : A) → P made → IfFine P (conditioned p k made)
conditioned_has P p None made h = tt
conditioned_has P p (Some kind) made h = h

expr_follows : (p : Place) (e : Expr) → Follows (shaped p []) (expr_rule p e)
unfolding expr_rule
expr_follows p e around known =
    then_has Anything (λ (t : TStmt). stmt_shape t ≡ shaped p []) (at_known known e) (λ v. Fine (typed.Expr (spot p) v.tree)) (anything (at_known known e))
    (λ v h. ap shape_of (done_Expr Located Located regions.part_step regions.stmt_step (spot p) v.tree))

empty_follows : (p : Place) → Follows (shaped p []) (empty_rule p)
unfolding empty_rule
empty_follows p around known = ap shape_of (done_Empty Located Located regions.part_step regions.stmt_step (spot p))

block_follows : (p : Place) (fs : List Shape) (ss : List Statement) → AllFollow fs ss → Follows (shaped p (all_loops fs)) (block_rule p ss)
unfolding block_rule
block_follows p fs ss all around known =
    then_has (HaveShapes fs) (λ (t : TStmt). stmt_shape t ≡ shaped p (all_loops fs)) (in_order (opened known) (each_in around ss)).made (λ trees. Fine (typed.Block (spot p) trees))
    (in_order_follow around fs ss all (opened known))
    (λ trees h. ap shape_of (done_Block Located Located regions.part_step regions.stmt_step (spot p) trees) ∙ ap (shaped p) (all_shapes trees ∙ ap all_loops h))

-- an `if`
abbrev OrNone : Option Shape → Option TStmt → Type 0
OrNone None None = Unit {0}
OrNone None (Some t) = ⊥
OrNone (Some f) None = ⊥
OrNone (Some f) (Some t) = stmt_shape t ≡ f

if_made_has : (p : Place) (f : Shape) (g : Option Shape) (v : Typed) (a : TStmt) (b : Option TStmt) → stmt_shape a ≡ f → OrNone g b
    → IfFine (λ (t : TStmt). stmt_shape t ≡ shaped p (f.loops ++ loops_or_none g)) (if_made p v a b)
if_made_has p f None v a None k j =
    conditioned_has (λ (t : TStmt). stmt_shape t ≡ shaped p (f.loops ++ [])) p (number_kind v.of) (typed.If (spot p) v.tree a None)
    (ap shape_of (done_alone Located Located regions.part_step regions.stmt_step (spot p) v.tree a) ∙ ap (shaped p) (map-append pair_of (find a).loops [] ∙ ap (λ (s : Shape). s.loops ++ []) k))
if_made_has p f None v a (Some b) k j = absurd j
if_made_has p f (Some g) v a None k j = absurd j
if_made_has p f (Some g) v a (Some b) k j =
    conditioned_has (λ (t : TStmt). stmt_shape t ≡ shaped p (f.loops ++ g.loops)) p (number_kind v.of) (typed.If (spot p) v.tree a (Some b))
    (ap shape_of (done_else Located Located regions.part_step regions.stmt_step (spot p) v.tree a b)
    ∙ ap (shaped p) (map-append pair_of (find a).loops (find b).loops ∙ (λ i. (k i).loops ++ (j i).loops)))

abbrev ElseFollows : Option Shape → Option Statement → Type 0
ElseFollows None None = Unit {0}
ElseFollows None (Some s) = ⊥
ElseFollows (Some f) None = ⊥
ElseFollows (Some f) (Some s) = Follows f s

else_follows : (g : Option Shape) (o : Option Statement) → ElseFollows g o → (around : Around) (known : Known) → IfFine (OrNone g) (else_judged around known o).made
else_follows None None h around known = tt
else_follows None (Some s) h around known = absurd h
else_follows (Some g) None h around known = absurd h
else_follows (Some g) (Some s) h around known = then_has (λ (t : TStmt). stmt_shape t ≡ g) (OrNone (Some g)) (s around known).made (λ x. Fine (Some x)) (h around known) (λ x k. k)

if_follows : (p : Place) (test : Expr) (f : Shape) (s : Statement) (g : Option Shape) (o : Option Statement) → Follows f s → ElseFollows g o
    → Follows (shaped p (f.loops ++ loops_or_none g)) (if_rule p test s o)
unfolding if_rule
if_follows p test f s g o h k around known =
    three_has Anything (λ (t : TStmt). stmt_shape t ≡ f) (OrNone g) (λ (t : TStmt). stmt_shape t ≡ shaped p (f.loops ++ loops_or_none g)) (at_known known test)
    (s around (behind known (at_known known test))).made (else_judged around (s around (behind known (at_known known test))).after o).made (if_made p) (anything (at_known known test))
    (h around (behind known (at_known known test))) (else_follows g o k around (s around (behind known (at_known known test))).after) (λ v a b x y z. if_made_has p f g v a b y z)

-- loops
while_follows : (p : Place) (test : Expr) (f : Shape) (s : Statement) → Follows f s → Follows (loop_shaped p f) (while_rule p test s)
unfolding while_rule
while_follows p test f s h around known =
    both_has Anything (λ (t : TStmt). stmt_shape t ≡ f) (λ (t : TStmt). stmt_shape t ≡ loop_shaped p f) (at_known known test)
    (s (inside_loop around) (behind known (at_known known test))).made (λ v t. condition p v (typed.While (spot p) 0 v.tree t)) (anything (at_known known test))
    (h (inside_loop around) (behind known (at_known known test)))
    (λ v t k j. conditioned_has (λ (x : TStmt). stmt_shape x ≡ loop_shaped p f) p (number_kind v.of) (typed.While (spot p) 0 v.tree t)
    (ap shape_of (done_While Located Located regions.part_step regions.stmt_step (spot p) 0 v.tree t) ∙ ap (loop_shaped p) j))

do_follows : (p : Place) (f : Shape) (s : Statement) (test : Expr) → Follows f s → Follows (loop_shaped p f) (do_rule p s test)
unfolding do_rule
do_follows p f s test h around known =
    both_has (λ (t : TStmt). stmt_shape t ≡ f) Anything (λ (t : TStmt). stmt_shape t ≡ loop_shaped p f) (s (inside_loop around) known).made
    (at_known (s (inside_loop around) known).after test) (λ t v. condition p v (typed.DoWhile (spot p) 0 t v.tree)) (h (inside_loop around) known)
    (anything (at_known (s (inside_loop around) known).after test))
    (λ t v j k. conditioned_has (λ (x : TStmt). stmt_shape x ≡ loop_shaped p f) p (number_kind v.of) (typed.DoWhile (spot p) 0 t v.tree)
    (ap shape_of (done_DoWhile Located Located regions.part_step regions.stmt_step (spot p) 0 t v.tree) ∙ ap (loop_shaped p) j))

for_made_has : (p : Place) (f : Shape) (start : TFirst) (test step : Option Typed) (s : TStmt) → stmt_shape s ≡ f
    → IfFine (λ (t : TStmt). stmt_shape t ≡ loop_shaped p f) (for_made p start test step s)
for_made_has p f start test step s h = by test
  where
    tree : Option Typed → TStmt
    tree o = typed.For (spot p) 0 start (option_tree o) (option_tree step) s

    shape : (o : Option Typed) → stmt_shape (tree o) ≡ loop_shaped p f
    shape o = ap shape_of (done_For Located Located regions.part_step regions.stmt_step (spot p) 0 start (option_tree o) (option_tree step) s) ∙ ap (loop_shaped p) h

    by : (o : Option Typed) → IfFine (λ (t : TStmt). stmt_shape t ≡ loop_shaped p f) (for_condition p o (tree o))
    by None = shape None
    by (Some v) = conditioned_has (λ (t : TStmt). stmt_shape t ≡ loop_shaped p f) p (number_kind v.of) (tree (Some v)) (shape (Some v))

for_behind_follows : (p : Place) (f : Shape) (test step : Option Expr) (s : Statement) (around : Around) (start : Judged TFirst) → Follows f s
    → IfFine (λ (t : TStmt). stmt_shape t ≡ loop_shaped p f) (for_behind p test step s around start).made
for_behind_follows p f test step s around start h =
    let t = option_judged start.after test in
    let u = option_judged t.after step in
    four_has Anything Anything Anything (λ (x : TStmt). stmt_shape x ≡ f) (λ (x : TStmt). stmt_shape x ≡ loop_shaped p f) start.made t.made u.made (s (inside_loop around) u.after).made (for_made p)
    (anything start.made) (anything t.made) (anything u.made) (h (inside_loop around) u.after) (λ a b c d x y z w. for_made_has p f a b c d w)

for_follows : (p : Place) (start : First) (test step : Option Expr) (f : Shape) (s : Statement) → Follows f s → Follows (loop_shaped p f) (for_rule p start test step s)
unfolding for_rule
for_follows p start test step f s h around known = for_behind_follows p f test step s around (first_judged (opened known) start) h

-- jumps and declarations
break_follows : (p : Place) → Follows (shaped p []) (break_rule p)
unfolding break_rule
break_follows p around known =
    cond_has (λ (t : TStmt). stmt_shape t ≡ shaped p []) (around.in_loop || around.in_switch) (Fine (typed.Break (spot p))) (refused (fault.JumpOutside p))
    (ap shape_of (done_Break Located Located regions.part_step regions.stmt_step (spot p))) tt

continue_follows : (p : Place) → Follows (shaped p []) (continue_rule p)
unfolding continue_rule
continue_follows p around known =
    cond_has (λ (t : TStmt). stmt_shape t ≡ shaped p []) around.in_loop (Fine (typed.Continue (spot p))) (refused (fault.JumpOutside p))
    (ap shape_of (done_Continue Located Located regions.part_step regions.stmt_step (spot p))) tt

return_shape : (p : Place) (o : Option TExpr) → stmt_shape (typed.Return (spot p) o) ≡ shaped p []
return_shape p o = ap shape_of (done_Return Located Located regions.part_step regions.stmt_step (spot p) o)

returned_has : (p : Place) (o : Option TExpr) → IfFine (λ (t : TStmt). stmt_shape t ≡ shaped p []) (return_made p o)
returned_has p None = tt
returned_has p (Some e) = return_shape p (Some e)

return_nothing_has : (p : Place) (of : CType) → IfFine (λ (t : TStmt). stmt_shape t ≡ shaped p []) (return_nothing p of)
return_nothing_has p ctype.Void = return_shape p None
return_nothing_has p (ctype.Number kind) = tt
return_nothing_has p (ctype.Pointer e) = tt
return_nothing_has p (ctype.Array count e) = tt

return_follows : (p : Place) (e : Option Expr) → Follows (shaped p []) (return_rule p e)
unfolding return_rule
return_follows p None around known = return_nothing_has p around.result
return_follows p (Some e) around known =
    then_has Anything (λ (t : TStmt). stmt_shape t ≡ shaped p []) (at_known known e) (λ v. return_made p (passed around.result v)) (anything (at_known known e))
    (λ v h. returned_has p (passed around.result v))

declaration_follows : (p : Place) (specs : List Word) (list : List Declarator) → Follows (shaped p []) (declare_rule p specs list)
unfolding declare_rule
declaration_follows p specs list around known =
    then_has Anything (λ (t : TStmt). stmt_shape t ≡ shaped p []) (declare_all (saying false specs) known list).made (λ ds. Fine (typed.Declare (spot p) ds))
    (anything (declare_all (saying false specs) known list).made) (λ ds h. ap shape_of (done_Declare Located Located regions.part_step regions.stmt_step (spot p) ds))

-- a `switch`
parts_in_order_follow : (around : Around) (kind : Kind) (labels : Labels) (known : Known) (fs : List Shape) (ps : List SwitchPart) → PartsFollow fs ps
    → IfFine (PartsHave fs) (parts_in_order around kind labels known ps).made
parts_in_order_follow around kind labels known [] [] all = refl
parts_in_order_follow around kind labels known [] (p ∷ ps) all = absurd all
parts_in_order_follow around kind labels known (f ∷ fs) [] all = absurd all
parts_in_order_follow around kind labels known (f ∷ fs) (p ∷ ps) all =
    let j = p around kind labels known in
    both_has (λ (t : TPart). part_shape t ≡ f) (PartsHave fs) (PartsHave (f ∷ fs)) j.made (parts_in_order around kind j.labels j.after ps).made (λ x xs. Fine (x ∷ xs))
    (all.0 around kind labels known) (parts_in_order_follow around kind j.labels j.after fs ps all.1) (λ x xs h k. λ i. h i ∷ k i)

switched_has : (p : Place) (fs : List Shape) (v : Typed) (parts : List TPart) (k : Option Kind) → PartsHave fs parts
    → IfFine (λ (t : TStmt). stmt_shape t ≡ shaped p (all_loops fs)) (switched p v parts k)
switched_has p fs v parts None all = tt
switched_has p fs v parts (Some kind) all =
    ap shape_of (done_Switch Located Located regions.part_step regions.stmt_step (spot p) (promoted kind) (in_kind kind (promoted kind) v.tree) parts)
    ∙ ap (shaped p) (all_part_shapes parts ∙ ap all_loops all)

switch_follows : (p : Place) (on : Expr) (fs : List Shape) (ps : List SwitchPart) → PartsFollow fs ps → Follows (shaped p (all_loops fs)) (switch_rule p on ps)
unfolding switch_rule
switch_follows p on fs ps all around known =
    both_has Anything (PartsHave fs) (λ (t : TStmt). stmt_shape t ≡ shaped p (all_loops fs)) (at_known known on)
    (parts_in_order (inside_switch around) (kind_or_int (at_known known on)) no_labels (behind known (at_known known on)) ps).made
    (λ v list. switched p v list (number_kind v.of)) (anything (at_known known on))
    (parts_in_order_follow (inside_switch around) (kind_or_int (at_known known on)) no_labels (behind known (at_known known on)) fs ps all)
    (λ v list h k. switched_has p fs v list (number_kind v.of) k)

case_made_has : (p : Place) (kind : Kind) (labels : Labels) (o : Option ℤ) → IfFine (λ (t : TPart). part_shape t ≡ shaped p []) (case_made p kind labels o)
case_made_has p kind labels None = tt
case_made_has p kind labels (Some z) =
    cond_has (λ (t : TPart). part_shape t ≡ shaped p []) (is_among labels.cases (converted kind z)) (refused (fault.CaseAgain p)) (Fine (typed_part.Case p (converted kind z))) tt
    (ap shape_of (part_Case Located Located regions.part_step regions.stmt_step p (converted kind z)))

case_follows : (p : Place) (e : Expr) → PartFollows (shaped p []) (case_rule p e)
unfolding case_rule
case_follows p e around kind labels known =
    then_has Anything (λ (t : TPart). part_shape t ≡ shaped p []) (at_known known e) (λ v. case_made p kind labels (constant v.tree)) (anything (at_known known e))
    (λ v h. case_made_has p kind labels (constant v.tree))

default_follows : (p : Place) → PartFollows (shaped p []) (default_rule p)
unfolding default_rule
default_follows p around kind labels known =
    cond_has (λ (t : TPart). part_shape t ≡ shaped p []) labels.defaulted (refused (fault.CaseAgain p)) (Fine (typed_part.Default p)) tt
    (ap shape_of (part_Default Located Located regions.part_step regions.stmt_step p))

does_follows : (p : Place) (f : Shape) (s : Statement) → Follows f s → PartFollows (shaped p f.loops) (does_rule p s)
unfolding does_rule
does_follows p f s h around kind labels known =
    then_has (λ (t : TStmt). stmt_shape t ≡ f) (λ (t : TPart). part_shape t ≡ shaped p f.loops) (s around known).made (λ t. Fine (typed_part.Does p t)) (h around known)
    (λ t k. ap shape_of (part_Does Located Located regions.part_step regions.stmt_step p t) ∙ ap (λ (g : Shape). shaped p g.loops) k)

-- A STATEMENT
abbrev judge_part : Part → SwitchPart
judge_part = fold-Part SwitchPart Statement part_step stmt_step

abbrev StmtFollows : Stmt → Type 0
StmtFollows s = Follows (see s) (judge_stmt s)

abbrev OnePart : Part → Type 0
OnePart p = PartFollows (see_part p) (judge_part p)

abbrev Stmts : Type 0
Stmts = List ((s : Stmt) × StmtFollows s)

abbrev Parts : Type 0
Parts = List ((p : Part) × OnePart p)

abbrev stmts : Stmts → List Stmt
stmts xs = map (λ (x : (s : Stmt) × StmtFollows s). x.0) xs

abbrev parts_in : Parts → List Part
parts_in xs = map (λ (x : (p : Part) × OnePart p). x.0) xs

all_stmts : (xs : Stmts) → AllFollow (map see (stmts xs)) (map judge_stmt (stmts xs))
all_stmts [] = tt
all_stmts (x ∷ xs) = (x.1, all_stmts xs)

all_parts : (xs : Parts) → PartsFollow (map see_part (parts_in xs)) (map judge_part (parts_in xs))
all_parts [] = tt
all_parts (x ∷ xs) = (x.1, all_parts xs)

abbrev PartLayer : Part-F Part Stmt → Type 0
PartLayer z = PartFollows (see_part_step (map-Part Part Stmt Shape Shape see_part see z)) (part_step (map-Part Part Stmt SwitchPart Statement judge_part judge_stmt z))

abbrev StmtLayer : Stmt-F Part Stmt → Type 0
StmtLayer z = Follows (see_stmt_step (map-Stmt Part Stmt Shape Shape see_part see z)) (stmt_step (map-Stmt Part Stmt SwitchPart Statement judge_part judge_stmt z))

part_by : (y : Part-F ((p : Part) × OnePart p) ((s : Stmt) × StmtFollows s))
    → PartLayer (map-Part _ _ Part Stmt (λ (x : (p : Part) × OnePart p). x.0) (λ (x : (s : Stmt) × StmtFollows s). x.0) y)
part_by (Part-F.Case p e) = case_follows p e
part_by (Part-F.Default p) = default_follows p
part_by (Part-F.Does p s) = does_follows p (see s.0) (judge_stmt s.0) s.1

stmt_by : (y : Stmt-F ((p : Part) × OnePart p) ((s : Stmt) × StmtFollows s))
    → StmtLayer (map-Stmt _ _ Part Stmt (λ (x : (p : Part) × OnePart p). x.0) (λ (x : (s : Stmt) × StmtFollows s). x.0) y)
stmt_by (Stmt-F.Expr p e) = expr_follows p e
stmt_by (Stmt-F.Empty p) = empty_follows p
stmt_by (Stmt-F.Block p parts) = block_follows p (map see (stmts parts)) (map judge_stmt (stmts parts)) (all_stmts parts)
stmt_by (Stmt-F.If p test s None) = if_follows p test (see s.0) (judge_stmt s.0) None None s.1 tt
stmt_by (Stmt-F.If p test s (Some t)) = if_follows p test (see s.0) (judge_stmt s.0) (Some (see t.0)) (Some (judge_stmt t.0)) s.1 t.1
stmt_by (Stmt-F.While p test s) = while_follows p test (see s.0) (judge_stmt s.0) s.1
stmt_by (Stmt-F.DoWhile p s test) = do_follows p (see s.0) (judge_stmt s.0) test s.1
stmt_by (Stmt-F.For p f test step s) = for_follows p f test step (see s.0) (judge_stmt s.0) s.1
stmt_by (Stmt-F.Switch p on parts) = switch_follows p on (map see_part (parts_in parts)) (map judge_part (parts_in parts)) (all_parts parts)
stmt_by (Stmt-F.Break p) = break_follows p
stmt_by (Stmt-F.Continue p) = continue_follows p
stmt_by (Stmt-F.Return p value) = return_follows p value
stmt_by (Stmt-F.Declare p specs list) = declaration_follows p specs list

moved : {A B : Type 0} (R : A → B → Type 0) (a c : A) (b d : B) → a ≡ c → b ≡ d → R a b → R c d
moved R a c b d p q x = subst (λ e. R e d) p (subst (R a) q x)

-- judging a statement keeps its shape
stmt_follows : (s : Stmt) → StmtFollows s
stmt_follows =
    ind-Stmt OnePart StmtFollows
    (λ x y is. moved PartFollows _ _ _ _ (sym (fold-roll-Part Shape Shape see_part_step see_stmt_step x)) (sym (fold-roll-Part SwitchPart Statement part_step stmt_step x)) (subst PartLayer is (part_by y)))
    (λ x y is. moved Follows _ _ _ _ (sym (fold-roll-Stmt Shape Shape see_part_step see_stmt_step x)) (sym (fold-roll-Stmt SwitchPart Statement part_step stmt_step x)) (subst StmtLayer is (stmt_by y)))

all_judged : (body : List Stmt) → AllFollow (map see body) (map judge_stmt body)
all_judged [] = tt
all_judged (s ∷ body) = (stmt_follows s, all_judged body)

-- judging the block of a function keeps the shapes of its statements
pub body_follows : (around : Around) (known : Known) (body : List Stmt) → IfFine (HaveShapes (map see body)) (judge_body around known body).made
unfolding judge_body
body_follows around known body = in_order_follow around (map see body) (map judge_stmt body) (all_judged body) known
