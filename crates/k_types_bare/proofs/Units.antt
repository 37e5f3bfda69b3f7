-- Judging the items of a source makes trees without numbers.
use Rattle.std.proofs.Common.{ℕ, ◌≡◌, refl, ap, subst, Bool, true, false, List, [], ◌∷◌, ◌++◌, map, length}
use Rattle.k_num.specs.declared.place.Place.{Place}
use Rattle.k_tree.specs.declared.tree.declaration.Declarator.{Declarator}
use Rattle.k_tree.specs.declared.tree.statement.Stmt.{Stmt}
use Rattle.k_tree.specs.declared.tree.unit.Head.{Head}
use Rattle.k_tree.specs.declared.tree.unit.Item.{Item}
use Rattle.k_tree.specs.declared.tree.unit.Item.TheVariants as item
use Rattle.k_tree.specs.declared.tree.unit.Unit as source
use Rattle.k_types_meaning.specs.declared.names.Signature.{Signature}
use Rattle.k_types_meaning.specs.declared.tree.statement.TStmt.{TStmt}
use Rattle.k_types_meaning.specs.declared.tree.unit.TFunc.{TFunc}
use Rattle.k_types_meaning.specs.declared.types.CType.{CType}
use Rattle.k_types_meaning.specs.Bare.{bare_function, bare_unit}
use Rattle.k_types_meaning.specs.Declarations.{Object, Saying, declarator_judged, saying}
use Rattle.k_types_meaning.specs.Functions.{body_judged, function_body, function_judged, function_made, function_tree, head_params, in_function, meaning_here, prototype_judged, result_type, signature}
use Rattle.k_types_meaning.specs.Made.{Made, Fine, then_made}
use Rattle.k_types_meaning.specs.Names.{Names}
use Rattle.k_types_meaning.specs.Statements.{Judged}
use Rattle.k_types_meaning.specs.Units.{FileKnown, Parts, Placed, defined_by, is_name, item_placed, items_placed, no_parts, nothing_known, object_part, object_placed, objects_placed, parts_of_both, tree_of_parts, unit_placed}
use Rattle.k_types_meaning.proofs.Fine.{AllOf, Anything, IfFine, anything, both_has, then_has}
use Rattle.k_types_bare.specs.Laws.{TypingMakesNoNumbers}
use Rattle.k_types_bare.proofs.Statements.{IsBareStmt, body_bare, stmts_bare}

-- a function has no numbers
abbrev IsBareFunction : TFunc → Type 0
IsBareFunction f = bare_function f ≡ f

-- functions have no numbers
abbrev BareParts : Parts → Type 0
BareParts parts = AllOf IsBareFunction parts.functions

both_parts : (a b : List TFunc) → AllOf IsBareFunction a → AllOf IsBareFunction b → AllOf IsBareFunction (a ++ b)
both_parts [] b h k = k
both_parts (f ∷ a) b h k = (h.0, both_parts a b h.1 k)

parts_bare : (a b : Parts) → BareParts a → BareParts b → IfFine BareParts (parts_of_both a b)
parts_bare a b h k = both_parts a.functions b.functions h k

-- a definition
body_judged_bare : (defined : List (List ℕ)) (again : Bool) (names : Names) (p : Place) (head : Head) (body : List Stmt) (close : Place) (types : Judged (List CType)) (statements : Judged (List TStmt))
    → IfFine (AllOf IsBareStmt) statements.made → IfFine IsBareFunction (body_judged defined again names p head body close types statements)
body_judged_bare defined again names p head body close types statements h =
    both_has Anything (AllOf IsBareStmt) IsBareFunction types.made statements.made
    (λ list trees. then_made (function_made p head.name (signature defined names head) again (result_type head) (meaning_here names head.name))
    (λ f. Fine (function_tree p head body close f.result (length list) statements.after trees)))
    (anything types.made) h
    (λ list trees k j. then_has Anything IsBareFunction (function_made p head.name (signature defined names head) again (result_type head) (meaning_here names head.name))
    (λ f. Fine (function_tree p head body close f.result (length list) statements.after trees))
    (anything (function_made p head.name (signature defined names head) again (result_type head) (meaning_here names head.name)))
    (λ f l. λ i. record (function_tree p head body close f.result (length list) statements.after trees) { body = stmts_bare trees j i }))

function_bare : (defined : List (List ℕ)) (again : Bool) (names : Names) (p : Place) (head : Head) (body : List Stmt) (close : Place)
    → IfFine IsBareFunction (function_judged defined again names p head body close)
unfolding function_judged
function_bare defined again names p head body close =
    let types = head_params true names head in
    body_judged_bare defined again names p head body close types (function_body defined names head types.after body) (body_bare (in_function head) _ body)

-- items
object_bare : (s : Saying) (known : FileKnown) (d : Declarator) → IfFine BareParts (object_placed s known d).made
object_bare s known d =
    then_has Anything BareParts (declarator_judged true s known.objects known.names d) object_part (anything (declarator_judged true s known.objects known.names d)) (λ o h. tt)

objects_bare : (s : Saying) (known : FileKnown) (ds : List Declarator) → IfFine BareParts (objects_placed s known ds).made
objects_bare s known [] = tt
objects_bare s known (d ∷ ds) =
    both_has BareParts BareParts BareParts (object_placed s known d).made (objects_placed s (object_placed s known d).after ds).made parts_of_both
    (object_bare s known d) (objects_bare s (object_placed s known d).after ds) parts_bare

item_bare : (defined : List (List ℕ)) (known : FileKnown) (i : Item) → IfFine BareParts (item_placed defined known i).made
item_bare defined known (item.Function p head body close) =
    then_has IsBareFunction BareParts (function_judged defined (is_name known.functions head.name) known.names p head body close)
    (λ f. Fine (record { objects = []; functions = f ∷ [] })) (function_bare defined (is_name known.functions head.name) known.names p head body close) (λ f h. (h, tt))
item_bare defined known (item.Prototype p head) =
    then_has Anything BareParts (prototype_judged defined known.names p head) (λ f. Fine no_parts) (anything (prototype_judged defined known.names p head)) (λ f h. tt)
item_bare defined known (item.Objects p specs list) = objects_bare (saying true specs) known list

items_bare : (defined : List (List ℕ)) (known : FileKnown) (items : List Item) → IfFine BareParts (items_placed defined known items).made
items_bare defined known [] = tt
items_bare defined known (i ∷ items) =
    both_has BareParts BareParts BareParts (item_placed defined known i).made (items_placed defined (item_placed defined known i).after items).made parts_of_both
    (item_bare defined known i) (items_bare defined (item_placed defined known i).after items) parts_bare

functions_bare : (fs : List TFunc) → AllOf IsBareFunction fs → map bare_function fs ≡ fs
functions_bare [] all = refl
functions_bare (f ∷ fs) all = λ i. all.0 i ∷ functions_bare fs all.1 i

-- the tree of the parts of a source has no numbers
pub tree_bare : TypingMakesNoNumbers
tree_bare unit parts made =
    let bare : BareParts parts = subst (IfFine BareParts) made (items_bare (defined_by unit) nothing_known unit.items) in
    λ i. record (tree_of_parts unit parts) { functions = functions_bare parts.functions bare i }
