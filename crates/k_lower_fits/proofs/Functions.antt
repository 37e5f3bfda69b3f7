-- Each function that the items of a source mean fits, and its nodes pay for it.
use Rattle.std.proofs.Common.{◌≡◌, ℕ, suc, ◌+◌, ◌*◌, ◌<◌, ◌≤◌, Bool, true, false, ◌||◌, if◌then◌else◌, List, [], ◌∷◌, ◌++◌, map, length, slice_get, Option, Some, None, refl, sym, ◌∙◌, ap, subst, arith, length-append}
use Rattle.std.specs.Prelude.{is_some, sum}
use Rattle.std.specs.Cmp.Lexicographic.{same_text}
use Rattle.std.specs.Str.{bytes_eq}
use Rattle.std.proofs.lemmas.Slice.Eq.{bytes_eq-Decides}
use Rattle.k_num.specs.declared.place.Place.{Place}
use Rattle.k_tree.specs.declared.tree.declaration.Declarator.{Declarator}
use Rattle.k_tree.specs.declared.tree.declaration.Param.{Param}
use Rattle.k_tree.specs.declared.tree.declaration.Params.{Params}
use Rattle.k_tree.specs.declared.tree.declaration.Params.TheVariants as params
use Rattle.k_tree.specs.declared.tree.statement.Stmt.{Stmt}
use Rattle.k_tree.specs.declared.tree.unit.Head.{Head}
use Rattle.k_tree.specs.declared.tree.unit.Item.{Item}
use Rattle.k_tree.specs.Count.{param_count, params_count, stmt_count}
use Rattle.k_types_meaning.specs.declared.names.Meaning.{Meaning}
use Rattle.k_types_meaning.specs.declared.names.Meaning.TheVariants as meaning
use Rattle.k_types_meaning.specs.declared.names.Signature.{Signature}
use Rattle.k_types_meaning.specs.declared.types.CType.{CType}
use Rattle.k_types_meaning.specs.declared.tree.unit.TFunc.{TFunc}
use Rattle.k_types_meaning.specs.Called.{all_calls, item_calls, params_calls, stmt_calls}
use Rattle.k_types_meaning.specs.Declarations.{Saying, saying, type_or_int}
use Rattle.k_types_meaning.specs.Functions.{params_of, variables_from, function_tree, within_function, behind_param, entered_option, type_of_param, param_fixed, signature, meaning_here, names_behind_head, body_names}
use Rattle.k_types_meaning.specs.Names.{Names, Scope, meaning_in, or_meaning, library, place_in}
use Rattle.k_types_meaning.specs.Statements.{Known, Variable}
use Rattle.k_types_meaning.specs.Types.{told}
use Rattle.k_types_meaning.specs.Units.{FileKnown, Parts, defined_in, all_names, is_name}
use Rattle.k_types_meaning.specs.ElaboratedFunctions.{ElabParams, ElabFunction, MayDeclare, no_params, more_params, first_declared, declared_alike, definition, within, known_to_body}
use Rattle.k_types_meaning.specs.ElaboratedUnits.{IsDefined, ElabObjects, ElabItem, ElabItems, no_objects, more_objects, function, prototype_alone, objects, no_items, more_items, with_object}
use Rattle.k_types_meaning.proofs.Fine.{AllOf}
use Rattle.k_lower_fits.specs.Costs.{body_cost, registers_of, instructions_of}
use Rattle.k_lower_fits.specs.Fits.{Callee, Limits, callee, has_values, body_fits}
use Rattle.k_lower_fits.proofs.Named.{ScopeEach, NamesEach, found_in, entered_each}
use Rattle.k_lower_fits.proofs.Operands.{NameFits}
use Rattle.k_lower_fits.proofs.Ready.{sum_cons}
use Rattle.k_lower_fits.proofs.Signatures.{shape, shape_of, settled, or_first, first_head, item_settled, entered_here, signature_shape, function_may, prototype_may}
use Rattle.k_lower_fits.proofs.Split as split
use Rattle.k_lower_fits.proofs.Statements.{Comes, Held, max_above, stmts_come}

-- a text is itself
bytes_same : (x : List ℕ) → bytes_eq x x ≡ true
bytes_same x = (bytes_eq-Decides x x).1 refl

-- PARAMETERS
params_length : (defines : Bool) (known : Known) (ps : List Param) (types : List CType) (after : Known) → ElabParams defines known ps types after
    → (length types ≡ length ps) × (length after.variables ≡ length known.variables + length ps)
params_length _ _ _ _ _ (no_params defines known) = (refl, omega arith)
params_length _ _ _ _ _ (more_params defines known p ps of ofs after x rest) =
    let r = params_length defines (behind_param known p) ps ofs after rest in
    let v : Variable = record { place = p.place; of = type_of_param known.names p } in
    let one : length (known.variables ++ v ∷ []) ≡ length known.variables + 1 = length-append known.variables (v ∷ []) in
    let types : length ofs ≡ length ps = r.0 in
    let later : length after.variables ≡ length (known.variables ++ v ∷ []) + length ps = r.1 in
    (omega (arith, types), omega (arith, later, one))

list_counted : (ps : List Param) → length ps ≤ sum (map param_count ps)
list_counted [] = omega arith
list_counted (p ∷ ps) =
    let total : sum (param_count p ∷ map param_count ps) ≡ param_count p + sum (map param_count ps) = sum_cons (param_count p) (map param_count ps) in
    let rest : length ps ≤ sum (map param_count ps) = list_counted ps in
    omega (arith, total, rest)

params_counted : (p : Params) → length (params_of p) ≤ params_count p
params_counted params.Empty = omega arith
params_counted params.Void = omega arith
params_counted (params.List list) = list_counted list

variables_length : (n : ℕ) (taken : List ℕ) (vs : List Variable) → length (variables_from n taken vs) ≡ length vs
variables_length n taken [] = refl
variables_length n taken (v ∷ vs) = ap suc (variables_length (n + 1) taken vs)

option_entered : (P : List ℕ → Meaning → Type 0) (x : Option (List ℕ)) (m : Meaning) (names : Names) → ((y : List ℕ) → P y m) → NamesEach P names → NamesEach P (entered_option x m names)
option_entered P None m names one h = h
option_entered P (Some x) m names one h = entered_each P x m names (one x) h

params_fit : (limits : Limits) (listed : List (List ℕ)) (defines : Bool) (known : Known) (ps : List Param) (types : List CType) (after : Known) → ElabParams defines known ps types after
    → length after.variables ≤ limits.variables → NamesEach (NameFits limits listed) known.names → NamesEach (NameFits limits listed) after.names
params_fit limits listed _ _ _ _ _ (no_params defines known) less fit = fit
params_fit limits listed _ _ _ _ _ (more_params defines known p ps of ofs after x rest) less fit =
    let v : Variable = record { place = p.place; of = type_of_param known.names p } in
    let one : length (known.variables ++ v ∷ []) ≡ length known.variables + 1 = length-append known.variables (v ∷ []) in
    let later : length after.variables ≡ length (known.variables ++ v ∷ []) + length ps = (params_length defines (behind_param known p) ps ofs after rest).1 in
    let below : length known.variables < limits.variables = omega (arith, one, later, less) in
    params_fit limits listed defines (behind_param known p) ps ofs after rest less
    (option_entered (NameFits limits listed) p.name (meaning.Variable (length known.variables) (type_of_param known.names p) (param_fixed p)) known.names (λ y. below) fit)

-- THE SHAPE of a function is that of its head
function_shape : (listed : List (List ℕ)) (again : Bool) (names : Names) (p : Place) (head : Head) (body : List Stmt) (close : Place) (f : TFunc) → ElabFunction listed again names p head body close f
    → (callee f ≡ shape_of head) × (f.name ≡ head.name)
function_shape _ _ _ _ _ _ _ _ (definition listed again names p head body close types inside of trees after given declares stmts) = (
  (λ i. record { params = (params_length true (within_function names) (params_of head.params) types inside given).0 i; gives = has_values (told (ap type_or_int (sym declares.0) i)) }),
  refl,
)

-- a declared function is settled
pub settled_here : (listed : List (List ℕ)) (names : Names) (head : Head) (items : List Item) → settled (names_behind_head listed names head) items head.name ≡ Some (shape (signature listed names head))
settled_here listed names head items =
    ap (λ (o : Option Meaning). or_first o (first_head items head.name))
    (entered_here head.name (meaning.Function (signature listed names head)) names head.name
    ∙ ap (λ (b : Bool). if b then Some (meaning.Function (signature listed names head)) else meaning_here names head.name) (bytes_same head.name))

-- declarations make no functions
pub no_functions : (s : Saying) (known : FileKnown) (ds : List Declarator) (parts : Parts) (after : FileKnown) → ElabObjects s known ds parts after → parts.functions ≡ []
no_functions _ _ _ _ _ (no_objects s known) = refl
no_functions _ _ _ _ _ (more_objects s known d ds o rest after x xs) = no_functions s (with_object known o) ds rest after xs

-- WHAT CALLS FIND, where C says of each name what it is settled as
module _ (C : List ℕ → Option Callee) where
  abbrev IsShaped : TFunc → Type 0
  IsShaped f = Some (callee f) ≡ C f.name

  both_shaped : (fs gs : List TFunc) → AllOf IsShaped fs → AllOf IsShaped gs → AllOf IsShaped (fs ++ gs)
  both_shaped [] gs h k = k
  both_shaped (f ∷ fs) gs h k = (h.0, both_shaped fs gs h.1 k)

  item_shaped : (listed : List (List ℕ)) (known : FileKnown) (i : Item) (parts : Parts) (after : FileKnown) (items : List Item) → ElabItem listed known i parts after
      → ((x : List ℕ) → settled after.names items x ≡ C x) → AllOf IsShaped parts.functions
  item_shaped _ _ _ _ _ items (function listed known p head body close f x) is =
      let made = function_shape listed (is_name known.functions head.name) known.names p head body close f x in
      (ap (λ (c : Callee). Some c) (made.0 ∙ sym (signature_shape listed known.names head)) ∙ sym (settled_here listed known.names head items) ∙ is head.name ∙ ap C (sym made.1), tt)
  item_shaped _ _ _ _ _ items (prototype_alone listed known p head x) is = tt
  item_shaped _ _ _ _ _ items (objects listed known p specs list parts after x) is = subst (AllOf IsShaped) (sym (no_functions (saying true specs) known list parts after x)) tt

  pub items_shaped : (listed : List (List ℕ)) (known : FileKnown) (items : List Item) (parts : Parts) (after : FileKnown) → ElabItems listed known items parts after
      → ((x : List ℕ) → settled known.names items x ≡ C x) → AllOf IsShaped parts.functions
  items_shaped _ _ _ _ _ (no_items listed known) is = tt
  items_shaped _ _ _ _ _ (more_items listed known i items a b middle after x xs) is =
      let next : (y : List ℕ) → settled middle.names items y ≡ C y = λ y. item_settled listed known i a middle x items y ∙ is y in
      both_shaped a.functions b.functions (item_shaped listed known i a middle items x next) (items_shaped listed middle items b after xs next)

  -- a name that is listed is found at its place
  at_head : (f : TFunc) (fs : List TFunc) (x : List ℕ) (b : Bool) → bytes_eq f.name x ≡ b → IsShaped f
      → (b ≡ false → slice_get (map callee fs) (place_in (map (λ (g : TFunc). g.name) fs) x) ≡ C x)
      → slice_get (callee f ∷ map callee fs) (if b then 0 else 1 + place_in (map (λ (g : TFunc). g.name) fs) x) ≡ C x
  at_head f fs x true is here rest = here ∙ ap C (same_text f.name x (sym is))
  at_head f fs x false is here rest =
      let n : ℕ = place_in (map (λ (g : TFunc). g.name) fs) x in
      subst (λ (k : ℕ). slice_get (callee f ∷ map callee fs) k ≡ C x) (let e : suc n ≡ 1 + n = omega arith in e) (rest refl)

  pub called_at : (fs : List TFunc) (x : List ℕ) → AllOf IsShaped fs → is_name (map (λ (f : TFunc). f.name) fs) x ≡ true
      → slice_get (map callee fs) (place_in (map (λ (f : TFunc). f.name) fs) x) ≡ C x
  called_at [] x h there = absurd cc
  called_at (f ∷ fs) x h there =
      at_head f fs x (bytes_eq f.name x) refl h.0
      (λ other. called_at fs x h.1 (subst (λ (b : Bool). (b || is_name (map (λ (g : TFunc). g.name) fs) x) ≡ true) other there))

-- the names of functions, in their order
all_named : (xs ys : List TFunc) (as_ bs : List (List ℕ)) → map (λ (f : TFunc). f.name) xs ≡ as_ → map (λ (f : TFunc). f.name) ys ≡ bs → map (λ (f : TFunc). f.name) (xs ++ ys) ≡ as_ ++ bs
all_named [] ys as_ bs h k = subst (λ (ns : List (List ℕ)). map (λ (f : TFunc). f.name) ys ≡ ns ++ bs) h k
all_named (x ∷ xs) ys as_ bs h k = subst (λ (ns : List (List ℕ)). map (λ (f : TFunc). f.name) ((x ∷ xs) ++ ys) ≡ ns ++ bs) h (ap (λ (ns : List (List ℕ)). x.name ∷ ns) (all_named xs ys (map (λ (f : TFunc). f.name) xs) bs refl k))

item_named : (listed : List (List ℕ)) (known : FileKnown) (i : Item) (parts : Parts) (after : FileKnown) → ElabItem listed known i parts after → map (λ (f : TFunc). f.name) parts.functions ≡ defined_in i
item_named _ _ _ _ _ (function listed known p head body close f x) = ap (λ (n : List ℕ). n ∷ []) (function_shape listed (is_name known.functions head.name) known.names p head body close f x).1
item_named _ _ _ _ _ (prototype_alone listed known p head x) = refl
item_named _ _ _ _ _ (objects listed known p specs list parts after x) = ap (λ (fs : List TFunc). map (λ (f : TFunc). f.name) fs) (no_functions (saying true specs) known list parts after x)

pub items_named : (listed : List (List ℕ)) (known : FileKnown) (items : List Item) (parts : Parts) (after : FileKnown) → ElabItems listed known items parts after
    → map (λ (f : TFunc). f.name) parts.functions ≡ all_names (map defined_in items)
items_named _ _ _ _ _ (no_items listed known) = refl
items_named _ _ _ _ _ (more_items listed known i items a b middle after x xs) =
    all_named a.functions b.functions (defined_in i) (all_names (map defined_in items)) (item_named listed known i a middle x) (items_named listed middle items b after xs)

-- THE NAMES OF A FILE, where there are so many objects and functions of these names, which are settled as C says
abbrev pub FileName : (List ℕ → Option Callee) → List (List ℕ) → ℕ → List ℕ → Meaning → Type 0
FileName C listed total x (meaning.Variable n of fixed) = ⊥
FileName C listed total x (meaning.Object n of fixed) = n < total
FileName C listed total x (meaning.Function s) = (is_some (meaning_in library x) ≡ false) × (s.number ≡ place_in listed x) × (C x ≡ Some (shape s))
FileName C listed total x (meaning.Library f) = Unit {0}

-- what a function may name, by its variables and its result
abbrev pub limits_with : ℕ → List Callee → TFunc → Limits
limits_with total callees f = record { variables = length f.variables; objects = total; callees = callees; gives = has_values f.result }

-- A FUNCTION is good
pub record FunctionGood (total : ℕ) (callees : List Callee) (f : TFunc) : Type 0 where
  pub params : f.params ≤ length f.variables
  pub body : body_fits (limits_with total callees f) f.body ≡ true
  pub registers : registers_of f ≤ 2 * f.nodes
  pub instructions : instructions_of f ≤ 512 * f.nodes

module _ (C : List ℕ → Option Callee) (listed : List (List ℕ)) (total : ℕ) (callees : List Callee)
    (there : (x : List ℕ) → is_name listed x ≡ true → slice_get callees (place_in listed x) ≡ C x) (limits : Limits) (many : total ≤ limits.objects) (same : callees ≡ limits.callees) where
  -- so they fit in each function
  name_fits : (x : List ℕ) (m : Meaning) → FileName C listed total x m → NameFits limits listed x m
  name_fits x (meaning.Variable n of fixed) h = absurd h
  name_fits x (meaning.Object n of fixed) h = let below : n < total = h in omega (arith, below, many)
  name_fits x (meaning.Function s) h = (
    h.0,
    λ named. record {
      f = shape s;
      there = subst (λ (cs : List Callee). slice_get cs s.number ≡ Some (shape s)) same (subst (λ (n : ℕ). slice_get callees n ≡ Some (shape s)) (sym h.1) (there x named ∙ h.2));
      params = refl;
      gives = refl;
    },
  )
  name_fits x (meaning.Library f) h = tt

  scope_fits : (scope : Scope) → ScopeEach (FileName C listed total) scope → ScopeEach (NameFits limits listed) scope
  scope_fits [] h = tt
  scope_fits (entry ∷ scope) h = (name_fits entry.0 entry.1 h.0, scope_fits scope h.1)

  file_fits : (names : Names) → NamesEach (FileName C listed total) names → NamesEach (NameFits limits listed) names
  file_fits [] h = tt
  file_fits (scope ∷ names) h = (scope_fits scope h.0, file_fits names h.1)

body_names_fit : (limits : Limits) (listed : List (List ℕ)) (names : Names) (head : Head) (inner : Names) → NamesEach (NameFits limits listed) (names_behind_head listed names head)
    → NamesEach (NameFits limits listed) inner → NamesEach (NameFits limits listed) (body_names listed names head inner)
body_names_fit limits listed names head [] file h = file
body_names_fit limits listed names head (scope ∷ inner) file h = (h.0, file)

-- the names of a scope fit in each function
abbrev FitAll : ℕ → List Callee → List (List ℕ) → Names → Type 0
FitAll total callees listed names = (limits : Limits) → total ≤ limits.objects → callees ≡ limits.callees → NamesEach (NameFits limits listed) names

-- A FUNCTION
function_good : (total : ℕ) (callees : List Callee) (listed : List (List ℕ)) (again : Bool) (names : Names) (p : Place) (head : Head) (body : List Stmt) (close : Place) (f : TFunc)
    → ElabFunction listed again names p head body close f → FitAll total callees listed names → FitAll total callees listed (names_behind_head listed names head)
    → AllOf (IsDefined listed) (all_calls (map stmt_calls body)) → FunctionGood total callees f
function_good total callees _ _ _ _ _ _ _ _ (definition listed again names p head body close types inside of trees after given declares stmts) outer behind calls =
    let f : TFunc = function_tree p head body close of (length types) after trees in
    let limits : Limits = limits_with total callees f in
    let known : Known = known_to_body listed names head inside in
    let vars : length (variables_from 0 after.taken after.variables) ≡ length after.variables = variables_length 0 after.taken after.variables in
    let lengths = params_length true (within_function names) (params_of head.params) types inside given in
    let many : length types ≡ length (params_of head.params) = lengths.0 in
    let inner : length inside.variables ≡ 0 + length (params_of head.params) = lengths.1 in
    let counted : length (params_of head.params) ≤ params_count head.params = params_counted head.params in
    let comes : Comes limits listed known after (sum (map stmt_count body)) (body_cost trees) (body_fits limits trees) = stmts_come limits listed (within of) known body trees after stmts calls refl in
    let grows : length inside.variables ≤ length after.variables = comes.grows in
    let inside_fit : NamesEach (NameFits limits listed) inside.names =
    params_fit limits listed true (within_function names) (params_of head.params) types inside given (omega (arith, grows, vars)) (tt, outer limits (omega arith) refl) in
    let held : Held limits listed (length inside.variables) after (sum (map stmt_count body)) (body_cost trees) (body_fits limits trees) =
    comes.holds (omega (arith, vars)) (body_names_fit limits listed names head inside.names (behind limits (omega arith) refl) inside_fit) in
    let r : length after.variables + (body_cost trees).registers ≤ length inside.variables + 2 * sum (map stmt_count body) = held.pays.registers in
    let i : (body_cost trees).instructions ≤ 64 * sum (map stmt_count body) = held.pays.instructions in
    record {
      params = omega (arith, many, inner, grows, vars);
      body = held.fit;
      registers = max_above (length (variables_from 0 after.taken after.variables)) 1 (body_cost trees).registers (2 * (1 + params_count head.params + sum (map stmt_count body)))
          (omega (arith, r, inner, counted, vars, grows)) (omega (arith, r, inner, counted, vars));
      instructions = omega (arith, i, many, counted);
    }

-- A NAME THAT MAY BE DECLARED is none of the library
abbrev IsOfLibrary : List ℕ → Meaning → Type 0
IsOfLibrary x (meaning.Variable n of fixed) = ⊥
IsOfLibrary x (meaning.Object n of fixed) = ⊥
IsOfLibrary x (meaning.Function s) = ⊥
IsOfLibrary x (meaning.Library f) = Unit {0}

library_has_none : (x : List ℕ) (s : Signature) → meaning_in library x ≡ Some (meaning.Function s) → ⊥
library_has_none x s is = found_in IsOfLibrary library x (meaning.Function s) (tt, (tt, (tt, (tt, tt)))) is

second_none : (a b : Option Meaning) → or_meaning a b ≡ None → is_some b ≡ false
second_none None None is = refl
second_none None (Some m) is = absurd cc
second_none (Some m) b is = absurd cc

none_here : (names : Names) (x : List ℕ) → meaning_here names x ≡ None → is_some (meaning_in library x) ≡ false
none_here [] x is = ap is_some is
none_here (scope ∷ names) x is = second_none (meaning_in scope x) (meaning_in library x) is

module _ (P : List ℕ → Meaning → Type 0) (apart : (x : List ℕ) (s : Signature) → P x (meaning.Function s) → is_some (meaning_in library x) ≡ false) where
  of_scope : (scope : Scope) (x : List ℕ) (s : Signature) (o : Option Meaning) → meaning_in scope x ≡ o → ScopeEach P scope
      → or_meaning o (meaning_in library x) ≡ Some (meaning.Function s) → is_some (meaning_in library x) ≡ false
  of_scope scope x s None at h is = absurd (library_has_none x s is)
  of_scope scope x s (Some m) at h is = apart x s (found_in P scope x (meaning.Function s) h (at ∙ is))

  function_here : (names : Names) (x : List ℕ) (s : Signature) → NamesEach P names → meaning_here names x ≡ Some (meaning.Function s) → is_some (meaning_in library x) ≡ false
  function_here [] x s h is = absurd (library_has_none x s is)
  function_here (scope ∷ names) x s h is = of_scope scope x s (meaning_in scope x) refl h.0 is

  pub not_library : (names : Names) (x : List ℕ) (f : Signature) (again : Bool) (o : Option Meaning) → meaning_here names x ≡ o → NamesEach P names → MayDeclare f again o
      → is_some (meaning_in library x) ≡ false
  not_library names x _ _ _ is fit (first_declared f again) = none_here names x is
  not_library names x _ _ _ is fit (declared_alike f g same) = function_here names x g fit is

-- ALL ITEMS
objects_good : (C : List ℕ → Option Callee) (listed : List (List ℕ)) (all : ℕ) (s : Saying) (known : FileKnown) (ds : List Declarator) (parts : Parts) (after : FileKnown)
    → ElabObjects s known ds parts after → known.objects + length parts.objects ≤ all → NamesEach (FileName C listed all) known.names
    → NamesEach (FileName C listed all) after.names × (after.objects ≡ known.objects + length parts.objects)
objects_good C listed all _ _ _ _ _ (no_objects s known) few fit = (fit, omega arith)
objects_good C listed all _ _ _ _ _ (more_objects s known d ds o rest after x xs) few fit =
    let below : known.objects < all = omega (arith, few) in
    let r = objects_good C listed all s (with_object known o) ds rest after xs (omega (arith, few)) (entered_each (FileName C listed all) o.name (meaning.Object known.objects o.of o.fixed) known.names below fit) in
    let count : after.objects ≡ known.objects + 1 + length rest.objects = r.1 in
    (r.0, omega (arith, count))

-- what is good of the functions of a part, and what is known behind it
abbrev ItemGood : (List ℕ → Option Callee) → List (List ℕ) → ℕ → List Callee → FileKnown → Parts → FileKnown → Type 0
ItemGood C listed all callees known parts after =
    AllOf (FunctionGood all callees) parts.functions × NamesEach (FileName C listed all) after.names × (after.objects ≡ known.objects + length parts.objects)

head_fits : (C : List ℕ → Option Callee) (listed : List (List ℕ)) (all : ℕ) (names : Names) (head : Head) (again : Bool) (items : List Item)
    → MayDeclare (signature listed names head) again (meaning_here names head.name) → ((x : List ℕ) → settled (names_behind_head listed names head) items x ≡ C x)
    → NamesEach (FileName C listed all) names → NamesEach (FileName C listed all) (names_behind_head listed names head)
head_fits C listed all names head again items may is fit =
    entered_each (FileName C listed all) head.name (meaning.Function (signature listed names head)) names
    (not_library (FileName C listed all) (λ x s h. h.0) names head.name (signature listed names head) again (meaning_here names head.name) refl fit may, refl, sym (is head.name) ∙ settled_here listed names head items) fit

item_good : (C : List ℕ → Option Callee) (all : ℕ) (callees : List Callee) (listed : List (List ℕ)) (known : FileKnown) (i : Item) (parts : Parts) (after : FileKnown) (items : List Item)
    → ElabItem listed known i parts after → ((x : List ℕ) → is_name listed x ≡ true → slice_get callees (place_in listed x) ≡ C x) → ((x : List ℕ) → settled after.names items x ≡ C x)
    → known.objects + length parts.objects ≤ all → NamesEach (FileName C listed all) known.names → AllOf (IsDefined listed) (item_calls i) → ItemGood C listed all callees known parts after
item_good C all callees _ _ _ _ _ items (function listed known p head body close f x) there is few fit calls =
    let again : Bool = is_name known.functions head.name in
    let behind : NamesEach (FileName C listed all) (names_behind_head listed known.names head) = head_fits C listed all known.names head again items (function_may listed again known.names p head body close f x) is fit in (
      (
        function_good all callees listed again known.names p head body close f x
            (λ limits many same. file_fits C listed all callees there limits many same known.names fit)
            (λ limits many same. file_fits C listed all callees there limits many same (names_behind_head listed known.names head) behind)
            (split.behind (IsDefined listed) (params_calls head.params) (all_calls (map stmt_calls body)) calls),
        tt,
      ),
      behind,
      omega arith,
    )
item_good C all callees _ _ _ _ _ items (prototype_alone listed known p head x) there is few fit calls =
    (tt, head_fits C listed all known.names head false items (prototype_may listed known.names head x) is fit, omega arith)
item_good C all callees _ _ _ _ _ items (objects listed known p specs list parts after x) there is few fit calls =
    let r = objects_good C listed all (saying true specs) known list parts after x few fit in
    (subst (AllOf (FunctionGood all callees)) (sym (no_functions (saying true specs) known list parts after x)) tt, r.0, r.1)

pub items_good : (C : List ℕ → Option Callee) (all : ℕ) (callees : List Callee) (listed : List (List ℕ)) (known : FileKnown) (items : List Item) (parts : Parts) (after : FileKnown)
    → ElabItems listed known items parts after → ((x : List ℕ) → is_name listed x ≡ true → slice_get callees (place_in listed x) ≡ C x) → ((x : List ℕ) → settled known.names items x ≡ C x)
    → known.objects + length parts.objects ≤ all → NamesEach (FileName C listed all) known.names → AllOf (IsDefined listed) (all_calls (map item_calls items)) → AllOf (FunctionGood all callees) parts.functions
items_good C all callees _ _ _ _ _ (no_items listed known) there is few fit calls = tt
items_good C all callees _ _ _ _ _ (more_items listed known i items a b middle after x xs) there is few fit calls =
    let c = split.two (IsDefined listed) (item_calls i ++ all_calls (map item_calls items)) (item_calls i) (all_calls (map item_calls items)) refl calls in
    let total : length (a.objects ++ b.objects) ≡ length a.objects + length b.objects = length-append a.objects b.objects in
    let next : (y : List ℕ) → settled middle.names items y ≡ C y = λ y. item_settled listed known i a middle x items y ∙ is y in
    let first = item_good C all callees listed known i a middle items x there next (omega (arith, few, total)) fit c.0 in
    let count : middle.objects ≡ known.objects + length a.objects = first.2 in
    split.joined (FunctionGood all callees) a.functions b.functions first.0
    (items_good C all callees listed middle items b after xs there next (omega (arith, few, total, count)) first.1 c.1)
