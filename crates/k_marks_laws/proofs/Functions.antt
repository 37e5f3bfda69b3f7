-- Each function that the items of a source mean has loops of which typing says what the laws ask.
use Rattle.std.proofs.Common.{◌≡◌, ℕ, zero, suc, ◌+◌, Bool, true, List, [], ◌∷◌, ◌++◌, length, slice_get, Option, Some, None, ◌∙◌, ap, subst, arith, length-append}
use Rattle.std.proofs.lemmas.Option.{none-some, same_Some}
use Rattle.k_num.specs.declared.numbers.Kind.{Kind}
use Rattle.k_num.specs.declared.place.Place.{Place}
use Rattle.k_tree.specs.declared.tree.declaration.Declarator.{Declarator}
use Rattle.k_tree.specs.declared.tree.declaration.Param.{Param}
use Rattle.k_tree.specs.declared.tree.statement.Stmt.{Stmt}
use Rattle.k_tree.specs.declared.tree.unit.Head.{Head}
use Rattle.k_tree.specs.declared.tree.unit.Item.{Item}
use Rattle.k_types_meaning.specs.declared.names.Meaning.{Meaning}
use Rattle.k_types_meaning.specs.declared.names.Meaning.TheVariants as meaning
use Rattle.k_types_meaning.specs.declared.types.CType.{CType}
use Rattle.k_types_meaning.specs.declared.types.CType.TheVariants as ctype
use Rattle.k_types_meaning.specs.declared.types.TType.TheVariants as ttype
use Rattle.k_types_meaning.specs.declared.tree.unit.TFunc.{TFunc}
use Rattle.k_types_meaning.specs.declared.tree.unit.TVariable.{TVariable}
use Rattle.k_types_meaning.specs.Declarations.{Saying, saying}
use Rattle.k_types_meaning.specs.Functions.{behind_param, body_names, entered_option, names_behind_head, object_elements, has_number, param_fixed, params_of, signature, type_of_param, variables_from, within_function}
use Rattle.k_types_meaning.specs.Names.{Names}
use Rattle.k_types_meaning.specs.Statements.{Known, Variable}
use Rattle.k_types_meaning.specs.Types.{told}
use Rattle.k_types_meaning.specs.Units.{FileKnown, Parts, is_name}
use Rattle.k_types_meaning.specs.ElaboratedFunctions.{ElabParams, ElabFunction, no_params, more_params, definition, known_to_body, within}
use Rattle.k_types_meaning.specs.ElaboratedUnits.{ElabObjects, ElabItem, ElabItems, no_objects, more_objects, function, prototype_alone, objects, no_items, more_items, with_object}
use Rattle.k_marks_laws.specs.Counted.{IsOfKind}
use Rattle.k_marks_laws.specs.Standing.{loops_of}
use Rattle.k_marks_laws.proofs.Growing.{Grows, KnownGrows, grows_not, grows_then, grows_by, last_there, stmts_grow}
use Rattle.k_marks_laws.proofs.Scopes.{NamesEach, Fits, IsNoVariable, names_among, entered_each, no_variables_fit}
use Rattle.k_marks_laws.proofs.Sound.{AllLoops}
use Rattle.k_marks_laws.proofs.Statements.{AreOfKinds, FitsKnown, stmts_come}

-- THE KINDS of the variables of a function are those of their types
told_number : (c : CType) (kind : Kind) → told c ≡ ttype.Number kind → c ≡ ctype.Number kind
told_number ctype.Void kind is = absurd cc
told_number (ctype.Number k) kind is = ap ctype.Number (by is)
  where
    by : ttype.Number k ≡ ttype.Number kind → k ≡ kind
    by same = cc
told_number (ctype.Pointer e) kind is = absurd cc
told_number (ctype.Array n e) kind is = absurd cc

kinds_from : (m : ℕ) (taken : List ℕ) (vs : List Variable) (n : ℕ) (v : Variable) (w : TVariable) (kind : Kind)
    → slice_get vs n ≡ Some v → slice_get (variables_from m taken vs) n ≡ Some w → w.of ≡ ttype.Number kind → v.of ≡ ctype.Number kind
kinds_from m taken [] n v w kind there told_there of = absurd (none-some v there)
kinds_from m taken (x ∷ vs) zero v w kind there told_there of =
    let first : x ≡ v = same_Some x v there in
    let made : TVariable = record { place = x.place; of = told x.of; elements = object_elements x.of (has_number taken m) } in
    let second : made ≡ w = same_Some made w told_there in
    subst (λ (y : Variable). y.of ≡ ctype.Number kind) first (told_number x.of kind (ap (λ (y : TVariable). y.of) second ∙ of))
kinds_from m taken (x ∷ vs) (suc n) v w kind there told_there of = kinds_from (m + 1) taken vs n v w kind there told_there of

are_of_kinds : (taken : List ℕ) (vs : List Variable) → AreOfKinds (IsOfKind (variables_from 0 taken vs)) vs
are_of_kinds taken vs n v kind there has = kinds_from 0 taken vs n v has.0 kind there has.1 has.2

-- PARAMETERS
param_grows : (known : Known) (p : Param) → KnownGrows known (behind_param known p)
param_grows known p = grows_by known.variables (record { place = p.place; of = type_of_param known.names p })

params_grow : (defines : Bool) (known : Known) (ps : List Param) (ofs : List CType) (after : Known) → ElabParams defines known ps ofs after → KnownGrows known after
params_grow _ _ _ _ _ (no_params defines known) = grows_not known.variables
params_grow _ _ _ _ _ (more_params defines known p ps of ofs after x rest) =
    grows_then known.variables (behind_param known p).variables after.variables (param_grows known p) (params_grow defines (behind_param known p) ps ofs after rest)

option_entered : (P : Meaning → Type 0) (x : Option (List ℕ)) (m : Meaning) (names : Names) → P m → NamesEach P names → NamesEach P (entered_option x m names)
option_entered P None m names one h = h
option_entered P (Some x) m names one h = entered_each P x m names one h

param_fits : (K : ℕ → Kind → Type 0) (final : List Variable) → AreOfKinds K final → (known : Known) (p : Param) → Grows (behind_param known p).variables final → FitsKnown K known
    → FitsKnown K (behind_param known p)
param_fits K final are known p grows fit =
    let v : Variable = record { place = p.place; of = type_of_param known.names p } in
    let count : length (known.variables ++ v ∷ []) ≡ length known.variables + 1 = length-append known.variables (v ∷ []) in
    option_entered (Fits K (length (known.variables ++ v ∷ []))) p.name (meaning.Variable (length known.variables) (type_of_param known.names p) (param_fixed p)) known.names
    (omega (arith, count), λ kind has. are (length known.variables) v kind (grows.keeps (length known.variables) v (last_there known.variables v)) has)
    (names_among K (length known.variables) (length (known.variables ++ v ∷ [])) known.names (omega (arith, count)) fit)

params_fit : (K : ℕ → Kind → Type 0) (final : List Variable) → AreOfKinds K final → (defines : Bool) (known : Known) (ps : List Param) (ofs : List CType) (after : Known)
    → ElabParams defines known ps ofs after → Grows after.variables final → FitsKnown K known → FitsKnown K after
params_fit K final are _ _ _ _ _ (no_params defines known) grows fit = fit
params_fit K final are _ _ _ _ _ (more_params defines known p ps of ofs after x rest) grows fit =
    params_fit K final are defines (behind_param known p) ps ofs after rest grows
    (param_fits K final are known p (grows_then (behind_param known p).variables after.variables final (params_grow defines (behind_param known p) ps ofs after rest) grows) fit)

-- THE NAMES OF A FILE are no variables
head_named : (defined : List (List ℕ)) (names : Names) (head : Head) → NamesEach IsNoVariable names → NamesEach IsNoVariable (names_behind_head defined names head)
head_named defined names head h = entered_each IsNoVariable head.name (meaning.Function (signature defined names head)) names tt h

-- what the block of a function knows fits
body_fits : (K : ℕ → Kind → Type 0) (count : ℕ) (defined : List (List ℕ)) (names : Names) (head : Head) (inner : Names)
    → NamesEach IsNoVariable names → NamesEach (Fits K count) inner → NamesEach (Fits K count) (body_names defined names head inner)
body_fits K count defined names head [] none h =
    names_among K 0 count (names_behind_head defined names head) (omega arith) (no_variables_fit K (names_behind_head defined names head) (head_named defined names head none))
body_fits K count defined names head (scope ∷ inner) none h = (
  h.0,
  names_among K 0 count (names_behind_head defined names head) (omega arith) (no_variables_fit K (names_behind_head defined names head) (head_named defined names head none)),
)

-- A FUNCTION
abbrev pub FunctionSound : TFunc → Type 0
FunctionSound f = AllLoops (IsOfKind f.variables) (loops_of f)

function_sound : (defined : List (List ℕ)) (again : Bool) (names : Names) (p : Place) (head : Head) (body : List Stmt) (close : Place) (f : TFunc)
    → ElabFunction defined again names p head body close f → NamesEach IsNoVariable names → FunctionSound f
function_sound _ _ _ _ _ _ _ _ (definition defined again names p head body close types inner of trees after params declares stmts) none =
    let K : ℕ → Kind → Type 0 = IsOfKind (variables_from 0 after.taken after.variables) in
    let known : Known = known_to_body defined names head inner in
    let are : AreOfKinds K after.variables = are_of_kinds after.taken after.variables in
    let grows : Grows inner.variables after.variables = stmts_grow (within of) known body trees after stmts in
    let fit : FitsKnown K inner =
    params_fit K after.variables are true (within_function names) (params_of head.params) types inner params grows (tt, no_variables_fit K names none) in
    (stmts_come K after.variables are 0 (within of) known body trees after stmts (grows_not after.variables)
    (body_fits K (length inner.variables) defined names head inner.names none fit) (omega arith)).0.loops

-- ALL FUNCTIONS
abbrev pub AllSound : List TFunc → Type 0
AllSound [] = Unit {0}
AllSound (f ∷ fs) = FunctionSound f × AllSound fs

all_both : (fs gs : List TFunc) → AllSound fs → AllSound gs → AllSound (fs ++ gs)
all_both [] gs h k = k
all_both (f ∷ fs) gs h k = (h.0, all_both fs gs h.1 k)

-- what part of a file comes to
abbrev pub Comes : Parts → FileKnown → Type 0
Comes parts after = AllSound parts.functions × NamesEach IsNoVariable after.names

objects_come : (s : Saying) (known : FileKnown) (ds : List Declarator) (parts : Parts) (after : FileKnown)
    → ElabObjects s known ds parts after → NamesEach IsNoVariable known.names → Comes parts after
objects_come _ _ _ _ _ (no_objects s known) none = (tt, none)
objects_come _ _ _ _ _ (more_objects s known d ds o rest after x xs) none =
    objects_come s (with_object known o) ds rest after xs (entered_each IsNoVariable o.name (meaning.Object known.objects o.of o.fixed) known.names tt none)

item_comes : (defined : List (List ℕ)) (known : FileKnown) (i : Item) (parts : Parts) (after : FileKnown)
    → ElabItem defined known i parts after → NamesEach IsNoVariable known.names → Comes parts after
item_comes _ _ _ _ _ (function defined known p head body close f x) none =
    ((function_sound defined (is_name known.functions head.name) known.names p head body close f x none, tt), head_named defined known.names head none)
item_comes _ _ _ _ _ (prototype_alone defined known p head x) none = (tt, head_named defined known.names head none)
item_comes _ _ _ _ _ (objects defined known p specs list parts after x) none = objects_come (saying true specs) known list parts after x none

pub items_come : (defined : List (List ℕ)) (known : FileKnown) (items : List Item) (parts : Parts) (after : FileKnown)
    → ElabItems defined known items parts after → NamesEach IsNoVariable known.names → Comes parts after
items_come _ _ _ _ _ (no_items defined known) none = (tt, none)
items_come _ _ _ _ _ (more_items defined known i items a b middle after x xs) none =
    let h = item_comes defined known i a middle x none in
    let k = items_come defined middle items b after xs h.1 in
    (all_both a.functions b.functions h.0 k.0, k.1)
