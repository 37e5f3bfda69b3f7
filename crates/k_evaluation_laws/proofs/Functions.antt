-- Each function that the items of a source mean fits.
use Rattle.std.proofs.Common.{◌≡◌, ℕ, zero, suc, ◌+◌, Bool, true, false, ◌&&◌, ◌||◌, if◌then◌else◌, List, [], ◌∷◌, ◌++◌, map, take, length, slice_get, Option, Some, None, refl, sym, ◌∙◌, ap, subst, arith, length-append}
use Rattle.std.specs.Cmp.Lexicographic.{same_text}
use Rattle.std.specs.Prelude.{codes, not}
use Rattle.std.specs.Str.{bytes_eq}
use Rattle.std.proofs.lemmas.Bool.{and_from, and_parts}
use Rattle.std.proofs.lemmas.List.{append-nil}
use Rattle.std.proofs.lemmas.Option.{none-some, same_Some}
use Rattle.std.proofs.lemmas.Slice.Eq.{bytes_eq-Decides}
use Rattle.k_num.specs.declared.numbers.Kind.TheVariants.{I32}
use Rattle.k_num.specs.declared.place.Place.{Place}
use Rattle.k_tree.specs.declared.tree.declaration.Declarator.{Declarator}
use Rattle.k_tree.specs.declared.tree.declaration.Param.{Param}
use Rattle.k_tree.specs.declared.tree.statement.Stmt.{Stmt}
use Rattle.k_tree.specs.declared.tree.unit.Head.{Head}
use Rattle.k_tree.specs.declared.tree.unit.Item.{Item}
use Rattle.k_tree.specs.declared.tree.unit.Item.TheVariants as item
use Rattle.k_types_meaning.specs.declared.names.Meaning.{Meaning}
use Rattle.k_types_meaning.specs.declared.names.Meaning.TheVariants as meaning
use Rattle.k_types_meaning.specs.declared.names.Signature.{Signature}
use Rattle.k_types_meaning.specs.declared.types.CType.{CType}
use Rattle.k_types_meaning.specs.declared.types.CType.TheVariants as ctype
use Rattle.k_types_meaning.specs.declared.tree.unit.TFunc.{TFunc}
use Rattle.k_types_meaning.specs.declared.tree.unit.TObject.{TObject}
use Rattle.k_types_meaning.specs.Declarations.{Saying, saying, type_or_int}
use Rattle.k_types_meaning.specs.ElaboratedFunctions.{ElabParams, ElabFunction, no_params, more_params, definition, within, known_to_body}
use Rattle.k_types_meaning.specs.ElaboratedUnits.{ElabObjects, ElabItem, ElabItems, no_objects, more_objects, function, prototype_alone, objects, no_items, more_items, with_object, object_tree}
use Rattle.k_types_meaning.specs.Functions.{has_none, params_of, variables_from, function_tree, within_function, behind_param, entered_option, type_of_param, param_fixed, signature, result_type, meaning_here, names_behind_head, body_names}
use Rattle.k_types_meaning.specs.Names.{Names, Scope, place_in}
use Rattle.k_types_meaning.specs.Statements.{Known, Variable}
use Rattle.k_types_meaning.specs.Units.{FileKnown, Parts, has_main, is_int, is_main, is_name}
use Rattle.k_types_meaning.proofs.Fine.{AllOf, IfThere}
use Rattle.k_marks_laws.proofs.Growing.{Grows, grows_by, grows_not, grows_then, last_there, stmts_grow}
use Rattle.k_regions.proofs.Numbers.{at_front}
use Rattle.k_lower_fits.proofs.Functions.{no_functions}
use Rattle.k_lower_fits.proofs.Named.{ScopeEach, NamesEach, entered_each}
use Rattle.k_lower_fits.proofs.Signatures.{entered_here}
use Rattle.k_evaluation_laws.specs.Kinds.{Sort, ANumber, sort_of}
use Rattle.k_evaluation_laws.proofs.Fits.{Around, Callee, is_nothing, all_stand, stmt_fits, sorts_of, callee, have_values}
use Rattle.k_evaluation_laws.proofs.Judged.{sort_in, shape, IsCallee, NameFits}
use Rattle.k_evaluation_laws.proofs.Signatures.{sorts_in, sort_of_param, param_sort, param_has, param_behind, shape_of, signature_shape, same_sorts, settled, or_first, first_head, item_settled}
use Rattle.k_evaluation_laws.proofs.Stated.{HasValues, NamesFit, AreThere, typed_has, stmts_good}

-- PARAMETERS
params_grow : (defines : Bool) (known : Known) (ps : List Param) (types : List CType) (after : Known) → ElabParams defines known ps types after → Grows known.variables after.variables
params_grow _ _ _ _ _ (no_params defines known) = grows_not known.variables
params_grow _ _ _ _ _ (more_params defines known p ps of ofs after x rest) =
    grows_then known.variables (behind_param known p).variables after.variables (grows_by known.variables (record { place = p.place; of = type_of_param known.names p }))
    (params_grow defines (behind_param known p) ps ofs after rest)

-- there is a variable for each, of its sort
params_sorts : (defines : Bool) (known : Known) (ps : List Param) (types : List CType) (after : Known) → ElabParams defines known ps types after
    → (length after.variables ≡ length known.variables + length types) × (sorts_in after.variables ≡ sorts_in known.variables ++ map sort_of_param ps)
params_sorts _ _ _ _ _ (no_params defines known) = (omega arith, sym (append-nil (sorts_in known.variables)))
params_sorts _ _ _ _ _ (more_params defines known p ps of ofs after x rest) =
    let r = params_sorts defines (behind_param known p) ps ofs after rest in
    let v : Variable = record { place = p.place; of = type_of_param known.names p } in
    let one : length (known.variables ++ v ∷ []) ≡ length known.variables + 1 = length-append known.variables (v ∷ []) in
    let later : length after.variables ≡ length (known.variables ++ v ∷ []) + length ofs = r.0 in
    (omega (arith, later, one), r.1 ∙ param_behind known p (map sort_of_param ps))

option_entered : (P : List ℕ → Meaning → Type 0) (x : Option (List ℕ)) (m : Meaning) (names : Names) → ((y : List ℕ) → P y m) → NamesEach P names → NamesEach P (entered_option x m names)
option_entered P None m names one h = h
option_entered P (Some x) m names one h = entered_each P x m names (one x) h

params_fit : (site : Around) (final : List Variable) → AreThere site final → (defines : Bool) (known : Known) (ps : List Param) (types : List CType) (after : Known) → ElabParams defines known ps types after
    → Grows after.variables final → NamesFit site known → NamesFit site after
params_fit site final are _ _ _ _ _ (no_params defines known) grows fit = fit
params_fit site final are _ _ _ _ _ (more_params defines known p ps of ofs after x rest) grows fit =
    let v : Variable = record { place = p.place; of = type_of_param known.names p } in
    let more = grows_then (behind_param known p).variables after.variables final (params_grow defines (behind_param known p) ps ofs after rest) grows in
    let there : slice_get site.variables (length known.variables) ≡ Some (sort_in v.of) = are (length known.variables) v (more.keeps (length known.variables) v (last_there known.variables v)) in
    let has : HasValues v.of = ap is_nothing (param_sort known.names p) ∙ param_has p in
    params_fit site final are defines (behind_param known p) ps ofs after rest grows
    (option_entered (NameFits site) p.name (meaning.Variable (length known.variables) (type_of_param known.names p) (param_fixed p)) known.names (λ y. (there, has)) fit)

-- VARIABLES have the sorts of their types
variables_sorts : (n : ℕ) (taken : List ℕ) (vs : List Variable) → sorts_of (variables_from n taken vs) ≡ sorts_in vs
variables_sorts n taken [] = refl
variables_sorts n taken (v ∷ vs) = ap (λ (ss : List Sort). sort_in v.of ∷ ss) (variables_sorts (n + 1) taken vs)

sorts_there : (vs : List Variable) (n : ℕ) (v : Variable) → slice_get vs n ≡ Some v → slice_get (sorts_in vs) n ≡ Some (sort_in v.of)
sorts_there [] n v is = absurd (none-some v is)
sorts_there (w ∷ vs) zero v is = ap (λ (x : Variable). Some (sort_in x.of)) (same_Some w v is)
sorts_there (w ∷ vs) (suc n) v is = sorts_there vs n v is

-- the first of them are those that were there first
front_sorts : (xs ys : List Variable) → ((n : ℕ) (v : Variable) → slice_get xs n ≡ Some v → slice_get ys n ≡ Some v) → take (length xs) (sorts_in ys) ≡ sorts_in xs
front_sorts [] ys keeps = refl
front_sorts (x ∷ xs) [] keeps = absurd (none-some x (keeps 0 x refl))
front_sorts (x ∷ xs) (y ∷ ys) keeps =
    ap (λ (v : Variable). sort_in v.of ∷ take (length xs) (sorts_in ys)) (same_Some y x (keeps 0 x refl))
    ∙ ap (λ (ss : List Sort). sort_in x.of ∷ ss) (front_sorts xs ys (λ n. keeps (suc n)))

params_have : (ps : List Param) → have_values (map sort_of_param ps) ≡ true
params_have [] = refl
params_have (p ∷ ps) = and_from (not (is_nothing (sort_of_param p))) (have_values (map sort_of_param ps)) (ap not (param_has p)) (params_have ps)

-- the parameters of a definition
front_is : (listed : List (List ℕ)) (names : Names) (head : Head) (body : List Stmt) (types : List CType) (inside after : Known)
    → ElabParams true (within_function names) (params_of head.params) types inside → Grows inside.variables after.variables
    → take (length types) (sorts_of (variables_from 0 after.taken after.variables)) ≡ map sort_of_param (params_of head.params)
front_is listed names head body types inside after given grows =
    let r = params_sorts true (within_function names) (params_of head.params) types inside given in
    let count : length inside.variables ≡ 0 + length types = r.0 in
    ap (take (length types)) (variables_sorts 0 after.taken after.variables)
    ∙ ap (λ (n : ℕ). take n (sorts_in after.variables)) (let e : length types ≡ length inside.variables = omega (arith, count) in e)
    ∙ front_sorts inside.variables after.variables grows.keeps
    ∙ r.1

-- THE SHAPE of a function is that of its head
function_shape : (listed : List (List ℕ)) (again : Bool) (names : Names) (p : Place) (head : Head) (body : List Stmt) (close : Place) (f : TFunc) → ElabFunction listed again names p head body close f
    → (callee f ≡ shape_of head) × (f.name ≡ head.name)
function_shape _ _ _ _ _ _ _ _ (definition listed again names p head body close types inside of trees after given declares stmts) =
    let front = front_is listed names head body types inside after given (stmts_grow (within of) (known_to_body listed names head inside) body trees after stmts) in
    (λ i. record { params = front i; result = sort_in (ap type_or_int (sym declares.0) i) }, refl)

-- a text is itself
bytes_same : (x : List ℕ) → bytes_eq x x ≡ true
bytes_same x = (bytes_eq-Decides x x).1 refl

-- a declared function is settled
settled_here : (listed : List (List ℕ)) (names : Names) (head : Head) (items : List Item) → settled (names_behind_head listed names head) items head.name ≡ Some (shape (signature listed names head))
settled_here listed names head items =
    ap (λ (o : Option Meaning). or_first o (first_head items head.name))
    (entered_here head.name (meaning.Function (signature listed names head)) names head.name
    ∙ ap (λ (b : Bool). if b then Some (meaning.Function (signature listed names head)) else meaning_here names head.name) (bytes_same head.name))

-- WHAT CALLS FIND, where C says of each name what it is settled as
module _ (C : List ℕ → Option Callee) where
  abbrev pub IsShaped : TFunc → Type 0
  IsShaped f = Some (callee f) ≡ C f.name

  both_shaped : (fs gs : List TFunc) → AllOf IsShaped fs → AllOf IsShaped gs → AllOf IsShaped (fs ++ gs)
  both_shaped [] gs h k = k
  both_shaped (f ∷ fs) gs h k = (h.0, both_shaped fs gs h.1 k)

  item_shaped : (listed : List (List ℕ)) (known : FileKnown) (i : Item) (parts : Parts) (after : FileKnown) (items : List Item) → ElabItem listed known i parts after
      → ((x : List ℕ) → settled after.names items x ≡ C x) → AllOf IsShaped parts.functions
  item_shaped _ _ _ _ _ items (function listed known p head body close f x) is =
      let made = function_shape listed (is_name known.functions head.name) known.names p head body close f x in
      (ap (λ (c : Callee). Some c) (made.0 ∙ sym (signature_shape listed known.names head)) ∙ sym (settled_here listed known.names head items) ∙ is head.name ∙ ap C (sym made.1), tt)
  item_shaped _ _ _ _ _ items (prototype_alone listed known p head x) is = tt
  item_shaped _ _ _ _ _ items (objects listed known p specs list parts after x) is = subst (AllOf IsShaped) (sym (no_functions (saying true specs) known list parts after x)) tt

  pub items_shaped : (listed : List (List ℕ)) (known : FileKnown) (items : List Item) (parts : Parts) (after : FileKnown) → ElabItems listed known items parts after
      → ((x : List ℕ) → settled known.names items x ≡ C x) → AllOf IsShaped parts.functions
  items_shaped _ _ _ _ _ (no_items listed known) is = tt
  items_shaped _ _ _ _ _ (more_items listed known i items a b middle after x xs) is =
      let next : (y : List ℕ) → settled middle.names items y ≡ C y = λ y. item_settled listed known i a middle x items y ∙ is y in
      both_shaped a.functions b.functions (item_shaped listed known i a middle items x next) (items_shaped listed middle items b after xs next)

  -- what is found at the place of a name is what C says of it
  abbrev pub IsSettled : List ℕ → Option Callee → Type 0
  IsSettled x found = IfThere (λ (c : Callee). C x ≡ Some c) found

  at_head : (f : TFunc) (fs : List TFunc) (x : List ℕ) (b : Bool) → bytes_eq f.name x ≡ b → IsShaped f
      → IsSettled x (slice_get (map callee fs) (place_in (map (λ (g : TFunc). g.name) fs) x))
      → IsSettled x (slice_get (callee f ∷ map callee fs) (if b then 0 else 1 + place_in (map (λ (g : TFunc). g.name) fs) x))
  at_head f fs x true is here rest = ap C (sym (same_text f.name x (sym is))) ∙ sym here
  at_head f fs x false is here rest =
      let n : ℕ = place_in (map (λ (g : TFunc). g.name) fs) x in
      subst (λ (k : ℕ). IsSettled x (slice_get (callee f ∷ map callee fs) k)) (let e : suc n ≡ 1 + n = omega arith in e) rest

  pub called_at : (fs : List TFunc) (x : List ℕ) → AllOf IsShaped fs → IsSettled x (slice_get (map callee fs) (place_in (map (λ (f : TFunc). f.name) fs) x))
  called_at [] x h = tt
  called_at (f ∷ fs) x h = at_head f fs x (bytes_eq f.name x) refl h.0 (called_at fs x h.1)

-- THE NAMES OF A FILE, where its objects have these sorts and its functions these names, which are settled as C says
abbrev pub FileName : (List ℕ → Option Callee) → List (List ℕ) → List Sort → List ℕ → Meaning → Type 0
FileName C listed sorts x (meaning.Variable n of fixed) = ⊥
FileName C listed sorts x (meaning.Object n of fixed) = (slice_get sorts n ≡ Some (sort_in of)) × HasValues of
FileName C listed sorts x (meaning.Function s) = (s.number ≡ place_in listed x) × (C x ≡ Some (shape s))
FileName C listed sorts x (meaning.Library f) = Unit {0}

-- what a function may name, by its variables and its result
abbrev pub site_of : List Sort → List Callee → TFunc → Around
site_of sorts callees f = record { variables = sorts_of f.variables; objects = sorts; callees = callees; result = sort_of f.result }

-- A FUNCTION is good
pub record FunctionGood (sorts : List Sort) (callees : List Callee) (f : TFunc) : Type 0 where
  pub params : have_values (take f.params (sorts_of f.variables)) ≡ true
  pub body : all_stand (map (stmt_fits (site_of sorts callees f)) f.body) ≡ true

module _ (C : List ℕ → Option Callee) (listed : List (List ℕ)) (sorts : List Sort) (callees : List Callee)
    (there : (x : List ℕ) → IsSettled C x (slice_get callees (place_in listed x))) (f : TFunc) where
  -- so they fit in each function
  function_fits : (x : List ℕ) (s : Signature) (o : Option Callee) → IsSettled C x o → C x ≡ Some (shape s) → IsCallee o s
  function_fits x s None found is = tt
  function_fits x s (Some c) found is = same_Some c (shape s) (sym found ∙ is)

  name_fits : (x : List ℕ) (m : Meaning) → FileName C listed sorts x m → NameFits (site_of sorts callees f) x m
  name_fits x (meaning.Variable n of fixed) h = absurd h
  name_fits x (meaning.Object n of fixed) h = h
  name_fits x (meaning.Function s) h =
      subst (λ (n : ℕ). IsCallee (slice_get callees n) s) (sym h.0) (function_fits x s (slice_get callees (place_in listed x)) (there x) h.1)
  name_fits x (meaning.Library l) h = tt

  scope_fits : (scope : Scope) → ScopeEach (FileName C listed sorts) scope → ScopeEach (NameFits (site_of sorts callees f)) scope
  scope_fits [] h = tt
  scope_fits (entry ∷ scope) h = (name_fits entry.0 entry.1 h.0, scope_fits scope h.1)

  file_fits : (names : Names) → NamesEach (FileName C listed sorts) names → NamesEach (NameFits (site_of sorts callees f)) names
  file_fits [] h = tt
  file_fits (scope ∷ names) h = (scope_fits scope h.0, file_fits names h.1)

body_names_fit : (site : Around) (listed : List (List ℕ)) (names : Names) (head : Head) (inner : Names) → NamesEach (NameFits site) (names_behind_head listed names head)
    → NamesEach (NameFits site) inner → NamesEach (NameFits site) (body_names listed names head inner)
body_names_fit site listed names head [] file h = file
body_names_fit site listed names head (scope ∷ inner) file h = (h.0, file)

-- the names of a scope fit in each function
abbrev FitAll : List Sort → List Callee → Names → Type 0
FitAll sorts callees names = (f : TFunc) → NamesEach (NameFits (site_of sorts callees f)) names

-- A FUNCTION
function_good : (sorts : List Sort) (callees : List Callee) (listed : List (List ℕ)) (again : Bool) (names : Names) (p : Place) (head : Head) (body : List Stmt) (close : Place) (f : TFunc)
    → ElabFunction listed again names p head body close f → FitAll sorts callees names → FitAll sorts callees (names_behind_head listed names head) → FunctionGood sorts callees f
function_good sorts callees _ _ _ _ _ _ _ _ (definition listed again names p head body close types inside of trees after given declares stmts) outer behind =
    let f : TFunc = function_tree p head body close of (length types) after trees in
    let site : Around = site_of sorts callees f in
    let known : Known = known_to_body listed names head inside in
    let grows : Grows inside.variables after.variables = stmts_grow (within of) known body trees after stmts in
    let are : AreThere site after.variables =
    λ n v is. ap (λ (ss : List Sort). slice_get ss n) (variables_sorts 0 after.taken after.variables) ∙ sorts_there after.variables n v is in
    let inside_fit : NamesFit site inside = params_fit site after.variables are true (within_function names) (params_of head.params) types inside given grows (tt, outer f) in
    record {
      params = ap have_values (front_is listed names head body types inside after given grows) ∙ params_have (params_of head.params);
      body = (stmts_good site after.variables are (within of) refl known body trees after stmts (grows_not after.variables)
          (body_names_fit site listed names head inside.names (behind f) inside_fit)).0;
    }

-- FILE OBJECTS, which have these sorts from this number on
abbrev pub AreFrom : List Sort → ℕ → List TObject → Type 0
AreFrom sorts n os = (k : ℕ) (o : TObject) → slice_get os k ≡ Some o → slice_get sorts (n + k) ≡ Some (sort_of o.of)

from_next : (sorts : List Sort) (n : ℕ) (o : TObject) (os : List TObject) → AreFrom sorts n (o ∷ os) → AreFrom sorts (n + 1) os
from_next sorts n o os are k x is = subst (λ (m : ℕ). slice_get sorts m ≡ Some (sort_of x.of)) (let e : n + suc k ≡ n + 1 + k = omega arith in e) (are (suc k) x is)

from_behind : (sorts : List Sort) (n : ℕ) (xs ys : List TObject) → AreFrom sorts n (xs ++ ys) → AreFrom sorts (n + length xs) ys
from_behind sorts n [] ys are k x is = subst (λ (m : ℕ). slice_get sorts m ≡ Some (sort_of x.of)) (let e : n + k ≡ n + 0 + k = omega arith in e) (are k x is)
from_behind sorts n (o ∷ xs) ys are k x is =
    subst (λ (m : ℕ). slice_get sorts m ≡ Some (sort_of x.of)) (let e : n + 1 + length xs + k ≡ n + suc (length xs) + k = omega arith in e)
    (from_behind sorts (n + 1) xs ys (from_next sorts n o (xs ++ ys) are) k x is)

-- ALL ITEMS
module _ (C : List ℕ → Option Callee) (listed : List (List ℕ)) (sorts : List Sort) where
  abbrev FileFits : Names → Type 0
  FileFits names = NamesEach (FileName C listed sorts) names

  objects_good : (s : Saying) (known : FileKnown) (ds : List Declarator) (parts : Parts) (after : FileKnown)
      → ElabObjects s known ds parts after → AreFrom sorts known.objects parts.objects → FileFits known.names → FileFits after.names × (after.objects ≡ known.objects + length parts.objects)
  objects_good _ _ _ _ _ (no_objects s known) are fit = (fit, omega arith)
  objects_good _ _ _ _ _ (more_objects s known d ds o rest after x xs) are fit =
      let here : slice_get sorts known.objects ≡ Some (sort_in o.of) =
      subst (λ (m : ℕ). slice_get sorts m ≡ Some (sort_in o.of)) (let e : known.objects + 0 ≡ known.objects = omega arith in e) (are 0 (object_tree o) refl) in
      let r =
      objects_good s (with_object known o) ds rest after xs (from_next sorts known.objects (object_tree o) rest.objects are)
      (entered_each (FileName C listed sorts) o.name (meaning.Object known.objects o.of o.fixed) known.names (here, typed_has true s known.objects known.names d o x) fit) in
      let count : after.objects ≡ known.objects + 1 + length rest.objects = r.1 in
      (r.0, omega (arith, count))

  -- what is good of the functions of a part, and what is known behind it
  abbrev ItemGood : List Callee → FileKnown → Parts → FileKnown → Type 0
  ItemGood callees known parts after = AllOf (FunctionGood sorts callees) parts.functions × FileFits after.names × (after.objects ≡ known.objects + length parts.objects)

  head_fits : (names : Names) (head : Head) (items : List Item) → ((x : List ℕ) → settled (names_behind_head listed names head) items x ≡ C x) → FileFits names → FileFits (names_behind_head listed names head)
  head_fits names head items is fit =
      entered_each (FileName C listed sorts) head.name (meaning.Function (signature listed names head)) names (refl, sym (is head.name) ∙ settled_here listed names head items) fit

item_good : (C : List ℕ → Option Callee) (sorts : List Sort) (callees : List Callee) (listed : List (List ℕ)) (known : FileKnown) (i : Item) (parts : Parts) (after : FileKnown) (items : List Item)
    → ElabItem listed known i parts after → ((x : List ℕ) → IsSettled C x (slice_get callees (place_in listed x))) → ((x : List ℕ) → settled after.names items x ≡ C x)
    → AreFrom sorts known.objects parts.objects → FileFits C listed sorts known.names → ItemGood C listed sorts callees known parts after
item_good C sorts callees _ _ _ _ _ items (function listed known p head body close f x) there is are fit =
    let behind : FileFits C listed sorts (names_behind_head listed known.names head) = head_fits C listed sorts known.names head items is fit in (
      (
        function_good sorts callees listed (is_name known.functions head.name) known.names p head body close f x
            (λ g. file_fits C listed sorts callees there g known.names fit)
            (λ g. file_fits C listed sorts callees there g (names_behind_head listed known.names head) behind),
        tt,
      ),
      behind,
      omega arith,
    )
item_good C sorts callees _ _ _ _ _ items (prototype_alone listed known p head x) there is are fit = (tt, head_fits C listed sorts known.names head items is fit, omega arith)
item_good C sorts callees _ _ _ _ _ items (objects listed known p specs list parts after x) there is are fit =
    let r = objects_good C listed sorts (saying true specs) known list parts after x are fit in
    (subst (AllOf (FunctionGood sorts callees)) (sym (no_functions (saying true specs) known list parts after x)) tt, r.0, r.1)

both_good : (P : TFunc → Type 0) (fs gs : List TFunc) → AllOf P fs → AllOf P gs → AllOf P (fs ++ gs)
both_good P [] gs h k = k
both_good P (f ∷ fs) gs h k = (h.0, both_good P fs gs h.1 k)

pub items_good : (C : List ℕ → Option Callee) (sorts : List Sort) (callees : List Callee) (listed : List (List ℕ)) (known : FileKnown) (items : List Item) (parts : Parts) (after : FileKnown)
    → ElabItems listed known items parts after → ((x : List ℕ) → IsSettled C x (slice_get callees (place_in listed x))) → ((x : List ℕ) → settled known.names items x ≡ C x)
    → AreFrom sorts known.objects parts.objects → FileFits C listed sorts known.names → AllOf (FunctionGood sorts callees) parts.functions
items_good C sorts callees _ _ _ _ _ (no_items listed known) there is are fit = tt
items_good C sorts callees _ _ _ _ _ (more_items listed known i items a b middle after x xs) there is are fit =
    let next : (y : List ℕ) → settled middle.names items y ≡ C y = λ y. item_settled listed known i a middle x items y ∙ is y in
    let first = item_good C sorts callees listed known i a middle items x there next (λ k o at. are k o (at_front a.objects b.objects k o at)) fit in
    let count : middle.objects ≡ known.objects + length a.objects = first.2 in
    both_good (FunctionGood sorts callees) a.functions b.functions first.0
    (items_good C sorts callees listed middle items b after xs there next
    (subst (λ (n : ℕ). AreFrom sorts n b.objects) (sym count) (from_behind sorts known.objects a.objects b.objects are)) first.1)

-- MAIN is settled as a function that gives an int
abbrev pub GivesInt : Option Callee → Type 0
GivesInt None = ⊥
GivesInt (Some c) = c.result ≡ ANumber I32

int_sort : (of : Option CType) → is_int of ≡ true → sort_in (type_or_int of) ≡ ANumber I32
int_sort None is = absurd cc
int_sort (Some of) is = same_sorts of (ctype.Number I32) is

main_head : (C : List ℕ → Option Callee) (listed : List (List ℕ)) (names : Names) (p : Place) (head : Head) (body : List Stmt) (close : Place) (items : List Item)
    → ((x : List ℕ) → settled (names_behind_head listed names head) items x ≡ C x) → is_main (item.Function p head body close) ≡ true → GivesInt (C (codes "main"))
main_head C listed names p head body close items is main =
    let parts = and_parts (bytes_eq head.name (codes "main")) (is_int (result_type head) && has_none (params_of head.params)) main in
    let int : sort_in (type_or_int (result_type head)) ≡ ANumber I32 = int_sort (result_type head) (and_parts (is_int (result_type head)) (has_none (params_of head.params)) parts.1).0 in
    subst (λ (x : List ℕ). GivesInt (C x)) (same_text head.name (codes "main") (sym parts.0))
    (subst GivesInt (sym (settled_here listed names head items) ∙ is head.name) int)

main_item : (C : List ℕ → Option Callee) (listed : List (List ℕ)) (known : FileKnown) (i : Item) (parts : Parts) (after : FileKnown) (items : List Item) (b : Bool)
    → ElabItem listed known i parts after → ((x : List ℕ) → settled after.names items x ≡ C x) → is_main i ≡ b → (is_main i || has_main items) ≡ true
    → (has_main items ≡ true → GivesInt (C (codes "main"))) → GivesInt (C (codes "main"))
main_item C _ _ i _ _ items false x is here main rest = rest (subst (λ (h : Bool). (h || has_main items) ≡ true) here main)
main_item C _ _ _ _ _ items true (function listed known p head body close f x) is here main rest = main_head C listed known.names p head body close items is here
main_item C _ _ _ _ _ items true (prototype_alone listed known p head x) is here main rest = absurd (cc here)
main_item C _ _ _ _ _ items true (objects listed known p specs list parts after x) is here main rest = absurd (cc here)

pub main_settled : (C : List ℕ → Option Callee) (listed : List (List ℕ)) (known : FileKnown) (items : List Item) (parts : Parts) (after : FileKnown)
    → ElabItems listed known items parts after → ((x : List ℕ) → settled known.names items x ≡ C x) → has_main items ≡ true → GivesInt (C (codes "main"))
main_settled C _ _ _ _ _ (no_items listed known) is main = absurd cc
main_settled C _ _ _ _ _ (more_items listed known i items a b middle after x xs) is main =
    let next : (y : List ℕ) → settled middle.names items y ≡ C y = λ y. item_settled listed known i a middle x items y ∙ is y in
    main_item C listed known i a middle items (is_main i) x next refl main (λ later. main_settled C listed middle items b after xs next later)
