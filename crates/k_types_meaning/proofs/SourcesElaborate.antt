-- Judging a source and the relation of what it means agree.
use Rattle.std.proofs.Common.{◌≡◌, refl, sym, ◌∙◌, ap, subst, ℕ, ◌+◌, Bool, true, false, ◌||◌, if◌then◌else◌, List, [], ◌∷◌, ◌++◌, map, is_some}
use Rattle.std.specs.Prelude.{All}
use Rattle.std.proofs.lemmas.List.Elements.{All-nil, All-cons, All-head, All-tail}
use Rattle.k_tree.specs.declared.tree.declaration.Declarator.{Declarator}
use Rattle.k_tree.specs.declared.tree.unit.Item.{Item}
use Rattle.k_tree.specs.declared.tree.unit.Item.TheVariants as item
use Rattle.k_tree.specs.declared.tree.unit.Unit as source
use Rattle.k_types_meaning.specs.declared.fault.TypeFault.{TypeFault}
use Rattle.k_types_meaning.specs.declared.fault.TypeFault.TheVariants as fault
use Rattle.k_types_meaning.specs.declared.tree.unit.TUnit.{TUnit}
use Rattle.k_types_meaning.specs.Bare.{IsTyped}
use Rattle.k_types_meaning.specs.Called.{Called, calls_of_unit}
use Rattle.k_types_meaning.specs.Declarations.{Object, Saying, saying, declarator_judged}
use Rattle.k_types_meaning.specs.Functions.{prototype_judged, function_judged}
use Rattle.k_types_meaning.specs.Made.{Made, Fine, then_made, faults_of}
use Rattle.k_types_meaning.specs.Names.{meaning_in, library}
use Rattle.k_types_meaning.specs.Units.{FileKnown, Parts, Placed, nothing_known, no_parts, parts_of_both, object_part, object_placed, placed_before, objects_placed, is_name, item_placed, items_placed, defined_by, undefined_call, has_main, main_faults, all_faults, unit_placed, call_faults, faults}
use Rattle.k_types_meaning.proofs.Elaborates.{both_fine, one_fine, fine_is}
use Rattle.k_types_meaning.specs.ElaboratedDeclarators.{ElabObject}
use Rattle.k_types_meaning.specs.Laws.{SourceMeansOne, SourcesElaborate, TypedTreesElaborate, TypedItemsElaborate, MeansTree, ItemsMeanTree}
use Rattle.k_types_meaning.specs.ElaboratedUnits.{ElabObjects, ElabItem, ElabItems, ElabUnit, IsDefined, no_objects, more_objects, function, prototype_alone, objects, no_items, more_items, whole, object_tree, with_object, with_prototype, with_function, parts_then, function_alone}
use Rattle.k_types_meaning.proofs.Declared.{object_sound, object_complete, names_are}
use Rattle.k_types_meaning.proofs.FunctionsElaborate.{prototype_sound, prototype_complete, function_sound, definition_complete}

-- this is made, and this is known behind it
abbrev placed : Made Parts → FileKnown → Placed
placed m after = record { made = m; after = after }

-- these parts are made without a fault, and this is known behind them
abbrev gives : Parts → FileKnown → Placed
gives parts after = placed (Fine parts) after

-- a file object alone
abbrev object_alone : Object → Parts
object_alone o = record { objects = object_tree o ∷ []; functions = [] }

-- what a declarator at file scope comes to
object_comes : (s : Saying) (known : FileKnown) (d : Declarator) (o : Object) → ElabObject true s known.objects known.names d o
    → object_placed s known d ≡ gives (object_alone o) (with_object known o)
object_comes s known d o x =
    let judged = object_complete true s known.objects known.names d o x in
    let names = names_are true s known.objects known.names d o x in
    λ i. record { made = then_made (judged i) object_part; after = record known { names = names i; objects = known.objects + 1 } }

-- declarators at file scope that are judged without a fault declare file objects
objects_sound : (s : Saying) (known : FileKnown) (ds : List Declarator) (parts : Parts) → (objects_placed s known ds).made ≡ Fine parts
    → ElabObjects s known ds parts (objects_placed s known ds).after
objects_sound s known [] parts is = subst (λ t. ElabObjects s known [] t known) (fine_is no_parts parts is) (no_objects s known)
objects_sound s known (d ∷ ds) parts is =
    let one = object_placed s known d in
    let rest = objects_placed s one.after ds in
    let found = both_fine one.made rest.made parts_of_both parts is in
    let made = one_fine (declarator_judged true s known.objects known.names d) object_part found.0 found.2 in
    let declares = object_sound true s known.objects known.names d made.0 made.1 in
    subst (λ t. ElabObjects s known (d ∷ ds) t rest.after)
    (ap (λ a. parts_then a found.1) (fine_is (object_alone made.0) found.0 made.2) ∙ fine_is (parts_then found.0 found.1) parts found.4)
    (more_objects s known d ds made.0 found.1 rest.after declares
    (subst (λ k. ElabObjects s k ds found.1 rest.after) (ap (λ j. j.after) (object_comes s known d made.0 declares))
    (objects_sound s one.after ds found.1 found.3)))

-- what declarators at file scope declare is what judging makes
objects_complete : (s : Saying) (known : FileKnown) (ds : List Declarator) (parts : Parts) (after : FileKnown) → ElabObjects s known ds parts after
    → objects_placed s known ds ≡ gives parts after
objects_complete _ _ _ _ _ (no_objects s known) = refl
objects_complete _ _ _ _ _ (more_objects s known d ds o rest after one others) =
    ap (λ j. placed_before j (objects_placed s j.after ds)) (object_comes s known d o one)
    ∙ ap (λ j. placed_before (gives (object_alone o) (with_object known o)) j) (objects_complete s (with_object known o) ds rest after others)

-- an item that is judged without a fault means what judging makes
item_sound : (defined : List (List ℕ)) (known : FileKnown) (i : Item) (parts : Parts) → (item_placed defined known i).made ≡ Fine parts
    → ElabItem defined known i parts (item_placed defined known i).after
item_sound defined known (item.Function p head body close) parts is =
    let again = is_name known.functions head.name in
    let made = one_fine (function_judged defined again known.names p head body close) (λ f. Fine (function_alone f)) parts is in
    subst (λ t. ElabItem defined known (item.Function p head body close) t (with_function defined known head)) (fine_is (function_alone made.0) parts made.2)
    (function defined known p head body close made.0 (function_sound defined again known.names p head body close made.0 made.1))
item_sound defined known (item.Prototype p head) parts is =
    let made = one_fine (prototype_judged defined known.names p head) (λ f. Fine no_parts) parts is in
    subst (λ t. ElabItem defined known (item.Prototype p head) t (with_prototype defined known head)) (fine_is no_parts parts made.2)
    (prototype_alone defined known p head (prototype_sound defined known.names p head made.0 made.1))
item_sound defined known (item.Objects p specs list) parts is =
    objects defined known p specs list parts (objects_placed (saying true specs) known list).after (objects_sound (saying true specs) known list parts is)

-- what an item means is what judging makes
item_complete : (defined : List (List ℕ)) (known : FileKnown) (i : Item) (parts : Parts) (after : FileKnown) → ElabItem defined known i parts after
    → item_placed defined known i ≡ gives parts after
item_complete _ _ _ _ _ (function defined known p head body close f x) =
    ap (λ m. placed (then_made m (λ g. Fine (function_alone g))) (with_function defined known head))
    (definition_complete defined (is_name known.functions head.name) known.names p head body close f x)
item_complete _ _ _ _ _ (prototype_alone defined known p head x) =
    ap (λ m. placed (then_made m (λ g. Fine no_parts)) (with_prototype defined known head))
    (prototype_complete defined known.names head x p)
item_complete _ _ _ _ _ (objects defined known p specs list parts after x) = objects_complete (saying true specs) known list parts after x

-- items that are judged without a fault mean what judging makes
items_sound : (defined : List (List ℕ)) (known : FileKnown) (items : List Item) (parts : Parts) → (items_placed defined known items).made ≡ Fine parts
    → ElabItems defined known items parts (items_placed defined known items).after
items_sound defined known [] parts is = subst (λ t. ElabItems defined known [] t known) (fine_is no_parts parts is) (no_items defined known)
items_sound defined known (i ∷ items) parts is =
    let one = item_placed defined known i in
    let rest = items_placed defined one.after items in
    let found = both_fine one.made rest.made parts_of_both parts is in
    subst (λ t. ElabItems defined known (i ∷ items) t rest.after) (fine_is (parts_then found.0 found.1) parts found.4)
    (more_items defined known i items found.0 found.1 one.after rest.after (item_sound defined known i found.0 found.2)
    (items_sound defined one.after items found.1 found.3))

-- what items mean is what judging makes
items_complete : (defined : List (List ℕ)) (known : FileKnown) (items : List Item) (parts : Parts) (after : FileKnown) → ElabItems defined known items parts after
    → items_placed defined known items ≡ gives parts after
items_complete _ _ _ _ _ (no_items defined known) = refl
items_complete _ _ _ _ _ (more_items defined known i items a b middle after one others) =
    ap (λ j. placed_before j (items_placed defined j.after items)) (item_complete defined known i a middle one)
    ∙ ap (λ j. placed_before (gives a middle) j) (items_complete defined middle items b after others)

-- there is none
abbrev IsNone : {A : Type 0} → List A → Type 0
IsNone [] = Unit {0}
IsNone (x ∷ xs) = ⊥

-- where two lists have nothing, neither has
none_of : {A : Type 0} (xs ys : List A) → xs ++ ys ≡ [] → (xs ≡ []) × (ys ≡ [])
none_of [] ys is = (refl, is)
none_of (x ∷ xs) ys is = absurd (subst IsNone (sym is) tt)

-- there is no fault, so it holds
holds_of : (b : Bool) (f : TypeFault) → (if b then [] else f ∷ []) ≡ [] → b ≡ true
holds_of true f is = refl
holds_of false f is = absurd (subst IsNone (sym is) tt)

-- where no call has a fault, each is of a function that is defined
calls_sound : (defined : List (List ℕ)) (calls : List Called) → all_faults (map (undefined_call defined) calls) ≡ [] → All (IsDefined defined) calls
calls_sound defined [] is = All-nil (IsDefined defined)
calls_sound defined (c ∷ calls) is =
    let parts = none_of (undefined_call defined c) (all_faults (map (undefined_call defined) calls)) is in
    All-cons (IsDefined defined) c calls
    (holds_of (is_name defined c.name || is_some (meaning_in library c.name)) (fault.NotDefined c.name c.place) parts.0)
    (calls_sound defined calls parts.1)

-- a call of a function that is defined has no fault
call_complete : (defined : List (List ℕ)) (c : Called) → IsDefined defined c → undefined_call defined c ≡ []
call_complete defined c is = ap (λ b. if b then [] else fault.NotDefined c.name c.place ∷ []) is

-- where each is of a function that is defined, no call has a fault
calls_complete : (defined : List (List ℕ)) (calls : List Called) → All (IsDefined defined) calls → all_faults (map (undefined_call defined) calls) ≡ []
calls_complete defined [] h = refl
calls_complete defined (c ∷ calls) h =
    let one = call_complete defined c (All-head (IsDefined defined) c calls h) in
    let others = calls_complete defined calls (All-tail (IsDefined defined) c calls h) in
    λ i. one i ++ others i

-- a source without a fault means what judging makes
unit_sound : (unit : source.Unit) (parts : Parts) → faults unit ≡ [] → (unit_placed unit).made ≡ Fine parts → ElabUnit unit parts
unfolding faults
unit_sound unit parts none is =
    let later = none_of (faults_of (unit_placed unit).made) (call_faults unit ++ main_faults unit) none in
    let last = none_of (call_faults unit) (main_faults unit) later.1 in
    whole unit parts (unit_placed unit).after (items_sound (defined_by unit) nothing_known unit.items parts is)
    (calls_sound (defined_by unit) (calls_of_unit unit) last.0) (holds_of (has_main unit.items) (fault.NoMain unit.end) last.1)

-- what a source means is what judging makes
unit_complete : (unit : source.Unit) (parts : Parts) → ElabUnit unit parts → (faults unit ≡ []) × ((unit_placed unit).made ≡ Fine parts)
unfolding faults
unit_complete _ _ (whole unit parts after items calls main) =
    let found = items_complete (defined_by unit) nothing_known unit.items parts after items in
    let made = ap (λ j. j.made) found in
    let called = calls_complete (defined_by unit) (calls_of_unit unit) calls in
    ((λ i. faults_of (made i) ++ (called i ++ (if main i then [] else fault.NoMain unit.end ∷ []))), made)

-- judging and the relation agree on a source
pub sources_elaborate : SourcesElaborate
sources_elaborate unit parts = (λ is. unit_sound unit parts is.0 is.1, unit_complete unit parts)

-- a source means at most one list of file objects and one of functions
pub source_means_one : SourceMeansOne
source_means_one unit a b x y = fine_is a b (sym (unit_complete unit a x).1 ∙ (unit_complete unit b y).1)

-- a typed tree of a source without a fault is that of what the source means
tree_means : (unit : source.Unit) (typed : TUnit) → IsTyped unit typed × (faults unit ≡ []) → MeansTree unit typed
unfolding IsTyped
tree_means unit typed h = ((h.0).0, unit_sound unit (h.0).0 h.1 (h.0).1, ((h.0).2, (h.0).3))

-- the tree of what a source means is a typed tree of it, and there is no fault
means_tree : (unit : source.Unit) (typed : TUnit) → MeansTree unit typed → IsTyped unit typed × (faults unit ≡ [])
unfolding IsTyped
means_tree unit typed h =
    let judged = unit_complete unit h.0 h.1 in
    ((h.0, judged.1, (h.2).0, (h.2).1), judged.0)

-- typed trees of sources without a fault
pub typed_trees_elaborate : TypedTreesElaborate
typed_trees_elaborate unit typed = (tree_means unit typed, means_tree unit typed)

-- a typed tree is that of what the items mean
tree_items : (unit : source.Unit) (typed : TUnit) → IsTyped unit typed → ItemsMeanTree unit typed
unfolding IsTyped
tree_items unit typed h =
    (h.0, (unit_placed unit).after, items_sound (defined_by unit) nothing_known unit.items h.0 h.1, (h.2, h.3))

-- the tree of what the items mean is a typed tree
items_tree : (unit : source.Unit) (typed : TUnit) → ItemsMeanTree unit typed → IsTyped unit typed
unfolding IsTyped
items_tree unit typed h =
    (h.0, ap (λ j. j.made) (items_complete (defined_by unit) nothing_known unit.items h.0 h.1 h.2), (h.3).0, (h.3).1)

-- typed trees of sources
pub typed_items_elaborate : TypedItemsElaborate
typed_items_elaborate unit typed = (tree_items unit typed, items_tree unit typed)
