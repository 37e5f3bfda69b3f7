-- The definitions of all functions of a source, and its file objects, are among its nodes.
use Rattle.std.proofs.Common.{ℕ, suc, ◌≡◌, ◌+◌, ◌≤◌, Bool, true, List, [], ◌∷◌, ◌++◌, map, length, refl, sym, ◌∙◌, ap, arith, length-append}
use Rattle.std.specs.Prelude.{sum}
use Rattle.k_num.specs.declared.place.Place.{Place}
use Rattle.k_tree.specs.declared.tree.declaration.Declarator.{Declarator}
use Rattle.k_tree.specs.declared.tree.statement.Stmt.{Stmt}
use Rattle.k_tree.specs.declared.tree.unit.Head.{Head}
use Rattle.k_tree.specs.declared.tree.unit.Item.{Item}
use Rattle.k_tree.specs.declared.tree.unit.Item.TheVariants as item
use Rattle.k_tree.specs.Count.{declarator_count, declarators_count, item_count, unit_count}
use Rattle.k_types_meaning.specs.declared.tree.unit.TFunc.{TFunc}
use Rattle.k_types_meaning.specs.declared.tree.unit.TObject.{TObject}
use Rattle.k_types_meaning.specs.declared.tree.unit.TUnit.{TUnit}
use Rattle.k_types_meaning.specs.Bare.{bare_function}
use Rattle.k_types_meaning.specs.Declarations.{Saying, saying}
use Rattle.k_types_meaning.specs.Names.{Names}
use Rattle.k_types_meaning.specs.Units.{FileKnown, Parts, defined_by, is_name, nothing_known}
use Rattle.k_types_meaning.specs.ElaboratedFunctions.{ElabFunction, definition}
use Rattle.k_types_meaning.specs.ElaboratedUnits.{ElabObjects, ElabItem, ElabItems, no_objects, more_objects, function, prototype_alone, objects, no_items, more_items, with_object}
use Rattle.k_types_meaning.proofs.SourcesElaborate.{typed_items_elaborate}
use Rattle.k_lower_fits.proofs.Functions.{no_functions}
use Rattle.k_lower_fits.proofs.Ready.{sum_cons}
use Rattle.k_lower_sizes.specs.Laws.{NodesAddUp, nodes_of}

pub nodes_cons : (f : TFunc) (fs : List TFunc) → nodes_of (f ∷ fs) ≡ f.nodes + nodes_of fs
nodes_cons f fs = sum_cons f.nodes (map (λ (g : TFunc). g.nodes) fs)

nodes_both : (fs gs : List TFunc) → nodes_of (fs ++ gs) ≡ nodes_of fs + nodes_of gs
nodes_both [] gs = (let e : nodes_of gs ≡ 0 + nodes_of gs = omega arith in e)
nodes_both (f ∷ fs) gs =
    let all : nodes_of (f ∷ (fs ++ gs)) ≡ f.nodes + nodes_of (fs ++ gs) = nodes_cons f (fs ++ gs) in
    let first : nodes_of (f ∷ fs) ≡ f.nodes + nodes_of fs = nodes_cons f fs in
    let rest : nodes_of (fs ++ gs) ≡ nodes_of fs + nodes_of gs = nodes_both fs gs in
    omega (arith, all, first, rest)

function_nodes : (listed : List (List ℕ)) (again : Bool) (names : Names) (p : Place) (head : Head) (body : List Stmt) (close : Place) (f : TFunc)
    → ElabFunction listed again names p head body close f → f.nodes ≡ item_count (item.Function p head body close)
function_nodes _ _ _ _ _ _ _ _ (definition listed again names p head body close types inside of trees after given declares stmts) = refl

declared_counted : (ds : List Declarator) → length ds ≤ declarators_count ds
declared_counted [] = omega arith
declared_counted (d ∷ ds) =
    let total : sum (declarator_count d ∷ map declarator_count ds) ≡ declarator_count d + sum (map declarator_count ds) = sum_cons (declarator_count d) (map declarator_count ds) in
    let rest : length ds ≤ declarators_count ds = declared_counted ds in
    omega (arith, total, rest)

objects_counted : (s : Saying) (known : FileKnown) (ds : List Declarator) (parts : Parts) (after : FileKnown) → ElabObjects s known ds parts after → length parts.objects ≡ length ds
objects_counted _ _ _ _ _ (no_objects s known) = refl
objects_counted _ _ _ _ _ (more_objects s known d ds o rest after x xs) = ap suc (objects_counted s (with_object known o) ds rest after xs)

abbrev weight : Parts → ℕ
weight parts = length parts.objects + nodes_of parts.functions

item_weight : (listed : List (List ℕ)) (known : FileKnown) (i : Item) (parts : Parts) (after : FileKnown) → ElabItem listed known i parts after → weight parts ≤ item_count i
item_weight _ _ _ _ _ (function listed known p head body close f x) =
    let is : f.nodes ≡ item_count (item.Function p head body close) = function_nodes listed (is_name known.functions head.name) known.names p head body close f x in
    let one : nodes_of (f ∷ []) ≡ f.nodes + nodes_of [] = nodes_cons f [] in
    let goal : 0 + nodes_of (f ∷ []) ≤ item_count (item.Function p head body close) = omega (arith, is, one) in
    goal
item_weight _ _ _ _ _ (prototype_alone listed known p head x) = omega arith
item_weight _ _ _ _ _ (objects listed known p specs list parts after x) =
    let many : length parts.objects ≡ length list = objects_counted (saying true specs) known list parts after x in
    let few : length list ≤ declarators_count list = declared_counted list in
    let none : nodes_of parts.functions ≡ 0 = ap nodes_of (no_functions (saying true specs) known list parts after x) in
    let goal : length parts.objects + nodes_of parts.functions ≤ 1 + declarators_count list = omega (arith, many, few, none) in
    goal

items_weight : (listed : List (List ℕ)) (known : FileKnown) (items : List Item) (parts : Parts) (after : FileKnown) → ElabItems listed known items parts after → weight parts ≤ sum (map item_count items)
items_weight _ _ _ _ _ (no_items listed known) = omega arith
items_weight _ _ _ _ _ (more_items listed known i items a b middle after x xs) =
    let one : weight a ≤ item_count i = item_weight listed known i a middle x in
    let rest : weight b ≤ sum (map item_count items) = items_weight listed middle items b after xs in
    let total : sum (item_count i ∷ map item_count items) ≡ item_count i + sum (map item_count items) = sum_cons (item_count i) (map item_count items) in
    let os : length (a.objects ++ b.objects) ≡ length a.objects + length b.objects = length-append a.objects b.objects in
    let fs : nodes_of (a.functions ++ b.functions) ≡ nodes_of a.functions + nodes_of b.functions = nodes_both a.functions b.functions in
    let goal : length (a.objects ++ b.objects) + nodes_of (a.functions ++ b.functions) ≤ sum (item_count i ∷ map item_count items) = omega (arith, one, rest, total, os, fs) in
    goal

bare_nodes : (fs : List TFunc) → nodes_of (map bare_function fs) ≡ nodes_of fs
bare_nodes [] = refl
bare_nodes (f ∷ fs) = nodes_cons (bare_function f) (map bare_function fs) ∙ ap (λ (n : ℕ). f.nodes + n) (bare_nodes fs) ∙ sym (nodes_cons f fs)

pub nodes_add_up : NodesAddUp
nodes_add_up unit typed h =
    let found = (typed_items_elaborate unit typed).0 h in
    let parts : Parts = found.0 in
    let few : weight parts ≤ unit_count unit = items_weight (defined_by unit) nothing_known unit.items parts found.1 found.2 in
    let fs : map bare_function typed.functions ≡ parts.functions = ap (λ (u : TUnit). u.functions) (found.3).0 in
    let os : typed.objects ≡ parts.objects = ap (λ (u : TUnit). u.objects) (found.3).0 in
    let nodes : nodes_of typed.functions ≡ nodes_of parts.functions = sym (bare_nodes typed.functions) ∙ ap nodes_of fs in
    let many : length typed.objects ≡ length parts.objects = ap (λ (xs : List TObject). length xs) os in
    omega (arith, few, nodes, many)
