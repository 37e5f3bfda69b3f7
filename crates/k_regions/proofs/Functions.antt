-- The functions of a typed source have the places and the names of those of its tree of syntax, and their loops have their places.
use Rattle.std.proofs.Common.{◌≡◌, ℕ, refl, sym, ap, ◌∙◌, subst, Bool, true, List, [], ◌∷◌, ◌++◌, map, length}
use Rattle.std.proofs.lemmas.List.{map-append}
use Rattle.k_num.specs.declared.place.Place.{Place}
use Rattle.k_tree.specs.declared.tree.declaration.Declarator.{Declarator}
use Rattle.k_tree.specs.declared.tree.statement.Stmt.{Stmt}
use Rattle.k_tree.specs.declared.tree.unit.Head.{Head}
use Rattle.k_tree.specs.declared.tree.unit.Item.{Item}
use Rattle.k_tree.specs.declared.tree.unit.Item.TheVariants as item
use Rattle.k_tree.specs.declared.tree.unit.Unit as source
use Rattle.k_types_meaning.specs.declared.tree.statement.TStmt.{TStmt}
use Rattle.k_types_meaning.specs.declared.tree.unit.TFunc.{TFunc}
use Rattle.k_types_meaning.specs.declared.tree.unit.TUnit.{TUnit}
use Rattle.k_types_meaning.specs.declared.types.CType.{CType}
use Rattle.k_types_meaning.specs.Bare.{IsTyped, bare_function, bare_stmt}
use Rattle.k_types_meaning.specs.Declarations.{Saying, declarator_judged, saying}
use Rattle.k_types_meaning.specs.Functions.{body_judged, function_body, function_judged, function_made, function_tree, head_params, in_function, meaning_here, prototype_judged, result_type, signature}
use Rattle.k_types_meaning.specs.Made.{Fine, then_made}
use Rattle.k_types_meaning.specs.Names.{Names}
use Rattle.k_types_meaning.specs.Statements.{Judged}
use Rattle.k_types_meaning.specs.Units.{FileKnown, Parts, all_names, defined_by, defined_in, is_name, item_placed, items_placed, no_parts, nothing_known, object_part, object_placed, objects_placed, parts_of_both}
use Rattle.k_regions.specs.Laws.{FunctionsHaveTheirNames}
use Rattle.k_regions.specs.Regions.{loops_of}
use Rattle.k_regions.proofs.Bare.{all_bare_same}
use Rattle.k_types_meaning.proofs.Fine.{IfFine, Anything, anything, both_has, then_has}
use Rattle.k_regions.proofs.Seen.{HaveShapes, Shape, all_loops, all_shapes, body_follows, pair_of, see, shaped}

-- where a function stands, and where its loops and their bodies do
abbrev pub function_shape : TFunc → Shape
function_shape f = shaped f.place (map pair_of (loops_of f))

abbrev pub function_seen : Head → List Stmt → Shape
function_seen head body = shaped head.name_place (all_loops (map see body))

abbrev pub item_seen : Item → List Shape
item_seen (item.Function p head body close) = function_seen head body ∷ []
item_seen (item.Prototype p head) = []
item_seen (item.Objects p specs list) = []

abbrev pub items_seen : List Item → List Shape
items_seen [] = []
items_seen (i ∷ items) = item_seen i ++ items_seen items

abbrev pub name_of : TFunc → List ℕ
name_of f = f.name

-- a function is one of this head and block
abbrev Has : Head → List Stmt → TFunc → Type 0
Has head body f = (function_shape f ≡ function_seen head body) × (name_of f ≡ head.name)

abbrev Have : List Shape → List (List ℕ) → Parts → Type 0
Have ss names parts = (map function_shape parts.functions ≡ ss) × (map name_of parts.functions ≡ names)

parts_have : (ss ts : List Shape) (xs ys : List (List ℕ)) (a b : Parts) → Have ss xs a → Have ts ys b → IfFine (Have (ss ++ ts) (xs ++ ys)) (parts_of_both a b)
parts_have ss ts xs ys a b h k = (
  map-append function_shape a.functions b.functions ∙ (λ i. h.0 i ++ k.0 i),
  map-append name_of a.functions b.functions ∙ (λ i. h.1 i ++ k.1 i),
)

body_judged_has : (defined : List (List ℕ)) (again : Bool) (names : Names) (p : Place) (head : Head) (body : List Stmt) (close : Place) (types : Judged (List CType)) (statements : Judged (List TStmt))
    → IfFine (HaveShapes (map see body)) statements.made → IfFine (Has head body) (body_judged defined again names p head body close types statements)
body_judged_has defined again names p head body close types statements h =
    both_has Anything (HaveShapes (map see body)) (Has head body) types.made statements.made
    (λ list trees. then_made (function_made p head.name (signature defined names head) again (result_type head) (meaning_here names head.name))
    (λ f. Fine (function_tree p head body close f.result (length list) statements.after trees)))
    (anything types.made) h
    (λ list trees k j. then_has Anything (Has head body) (function_made p head.name (signature defined names head) again (result_type head) (meaning_here names head.name))
    (λ f. Fine (function_tree p head body close f.result (length list) statements.after trees))
    (anything (function_made p head.name (signature defined names head) again (result_type head) (meaning_here names head.name)))
    (λ f l. (ap (shaped head.name_place) (all_shapes trees ∙ ap all_loops j), refl)))

function_has : (defined : List (List ℕ)) (again : Bool) (names : Names) (p : Place) (head : Head) (body : List Stmt) (close : Place)
    → IfFine (Has head body) (function_judged defined again names p head body close)
unfolding function_judged
function_has defined again names p head body close =
    let types = head_params true names head in
    body_judged_has defined again names p head body close types (function_body defined names head types.after body) (body_follows (in_function head) _ body)

objects_have : (s : Saying) (known : FileKnown) (ds : List Declarator) → IfFine (Have [] []) (objects_placed s known ds).made
objects_have s known [] = (refl, refl)
objects_have s known (d ∷ ds) =
    both_has (Have [] []) (Have [] []) (Have [] []) (object_placed s known d).made (objects_placed s (object_placed s known d).after ds).made parts_of_both
    (then_has Anything (Have [] []) (declarator_judged true s known.objects known.names d) object_part (anything (declarator_judged true s known.objects known.names d)) (λ o h. (refl, refl)))
    (objects_have s (object_placed s known d).after ds) (parts_have [] [] [] [])

item_has : (defined : List (List ℕ)) (known : FileKnown) (i : Item) → IfFine (Have (item_seen i) (defined_in i)) (item_placed defined known i).made
item_has defined known (item.Function p head body close) =
    then_has (Has head body) (Have (function_seen head body ∷ []) (head.name ∷ [])) (function_judged defined (is_name known.functions head.name) known.names p head body close)
    (λ f. Fine (record { objects = []; functions = f ∷ [] })) (function_has defined (is_name known.functions head.name) known.names p head body close)
    (λ f h. (λ i. h.0 i ∷ [], λ i. h.1 i ∷ []))
item_has defined known (item.Prototype p head) =
    then_has Anything (Have [] []) (prototype_judged defined known.names p head) (λ f. Fine no_parts) (anything (prototype_judged defined known.names p head)) (λ f h. (refl, refl))
item_has defined known (item.Objects p specs list) = objects_have (saying true specs) known list

items_have : (defined : List (List ℕ)) (known : FileKnown) (items : List Item) → IfFine (Have (items_seen items) (all_names (map defined_in items))) (items_placed defined known items).made
items_have defined known [] = (refl, refl)
items_have defined known (i ∷ items) =
    both_has (Have (item_seen i) (defined_in i)) (Have (items_seen items) (all_names (map defined_in items)))
    (Have (item_seen i ++ items_seen items) (defined_in i ++ all_names (map defined_in items))) (item_placed defined known i).made
    (items_placed defined (item_placed defined known i).after items).made parts_of_both
    (item_has defined known i) (items_have defined (item_placed defined known i).after items)
    (parts_have (item_seen i) (items_seen items) (defined_in i) (all_names (map defined_in items)))

functions_same : (fs : List TFunc) → map function_shape (map bare_function fs) ≡ map function_shape fs
functions_same [] = refl
functions_same (f ∷ fs) =
    λ i. shaped f.place ((all_shapes (map bare_stmt f.body) ∙ ap all_loops (all_bare_same f.body) ∙ sym (all_shapes f.body)) i) ∷ functions_same fs i

names_same : (fs : List TFunc) → map name_of (map bare_function fs) ≡ map name_of fs
names_same [] = refl
names_same (f ∷ fs) = ap (λ (names : List (List ℕ)). f.name ∷ names) (names_same fs)

-- the functions of a typed source are where those of its tree are
pub functions_seen : (unit : source.Unit) (typed : TUnit) → IsTyped unit typed → map function_shape typed.functions ≡ items_seen unit.items
unfolding IsTyped
functions_seen unit typed h =
    sym (functions_same typed.functions) ∙ ap (λ (u : TUnit). map function_shape u.functions) h.2
    ∙ (subst (IfFine (Have (items_seen unit.items) (defined_by unit))) h.1 (items_have (defined_by unit) nothing_known unit.items)).0

-- and they have their names
pub functions_named : FunctionsHaveTheirNames
unfolding IsTyped
functions_named unit typed h =
    sym (names_same typed.functions) ∙ ap (λ (u : TUnit). map name_of u.functions) h.2
    ∙ (subst (IfFine (Have (items_seen unit.items) (defined_by unit))) h.1 (items_have (defined_by unit) nothing_known unit.items)).1
