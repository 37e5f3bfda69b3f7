-- Judging functions and the relation of their typed trees agree.
use Rattle.std.proofs.Common.{◌≡◌, refl, sym, ◌∙◌, ap, subst, ℕ, Bool, true, false, ◌&&◌, if◌then◌else◌, List, [], ◌∷◌, length, Option, Some, None}
use Rattle.k_num.specs.declared.place.Place.{Place}
use Rattle.k_tree.specs.declared.tree.declaration.Param.{Param}
use Rattle.k_tree.specs.declared.tree.statement.Stmt.{Stmt}
use Rattle.k_tree.specs.declared.tree.unit.Head.{Head}
use Rattle.k_types_meaning.specs.declared.fault.TypeFault.{TypeFault}
use Rattle.k_types_meaning.specs.declared.fault.TypeFault.TheVariants as fault
use Rattle.k_types_meaning.specs.declared.names.Meaning.{Meaning}
use Rattle.k_types_meaning.specs.declared.names.Meaning.TheVariants as meaning
use Rattle.k_types_meaning.specs.declared.names.Signature.{Signature}
use Rattle.k_types_meaning.specs.declared.tree.unit.TFunc.{TFunc}
use Rattle.k_types_meaning.specs.declared.types.CType.{CType}
use Rattle.k_types_meaning.specs.Declarations.{type_or_int}
use Rattle.k_types_meaning.specs.Dimensions.{dimensions, param_sizes}
use Rattle.k_types_meaning.specs.Functions.{same_signature, type_of_param, option_twice, name_or_nothing, sized_param, param_made, behind_param, param_judged, params_in_order, params_of, within_function, head_params, result_type, signature, function_fault, function_made, meaning_here, prototype_judged, function_tree, in_function, function_body, body_judged, defined_with, function_judged}
use Rattle.k_types_meaning.specs.Made.{Made, Fine, then_made, refused}
use Rattle.k_types_meaning.specs.Names.{Names}
use Rattle.k_types_meaning.specs.Statements.{Known, judged_before, judge_body}
use Rattle.k_types_meaning.proofs.Elaborates.{not_made, both_fine, one_fine, fine_is}
use Rattle.k_types_meaning.specs.ElaboratedFunctions.{ElabParam, ElabParams, MayDeclare, ElabPrototype, ElabFunction, param, no_params, more_params, first_declared, declared_alike, prototype, definition, param_has_type, param_named, within, known_to_body}
use Rattle.k_types_meaning.specs.ElaboratedStatements.{ElabStmts}
use Rattle.k_types_meaning.proofs.BodiesElaborate.{body_sound, body_complete}
use Rattle.k_types_meaning.proofs.Faultless.{comes, judged}

-- a parameter whose sizes mean something, by what is asked of it
abbrev param_by : Place → List ℕ → Bool → Bool → Bool → CType → Option (List ℕ) → Made CType
param_by p x twice typed named t sizes =
    if twice then refused (fault.Twice x p)
    else if typed && named then sized_param p t sizes
    else refused (fault.Kinds p)

-- a parameter that is made meets what is asked of it
param_fine : (p : Place) (x : List ℕ) (twice typed named : Bool) (t : CType) (sizes : Option (List ℕ)) (of : CType)
    → param_by p x twice typed named t sizes ≡ Fine of
    → (twice ≡ false) × (typed ≡ true) × (named ≡ true) × (dims : List ℕ) × (sizes ≡ Some dims) × (t ≡ of)
param_fine p x true typed named t sizes of is = absurd (not_made (fault.Twice x p) [] of is)
param_fine p x false false true t sizes of is = absurd (not_made (fault.Kinds p) [] of is)
param_fine p x false false false t sizes of is = absurd (not_made (fault.Kinds p) [] of is)
param_fine p x false true false t sizes of is = absurd (not_made (fault.Kinds p) [] of is)
param_fine p x false true true t None of is = absurd (not_made (fault.BadSize p) [] of is)
param_fine p x false true true t (Some dims) of is = (refl, refl, refl, dims, refl, fine_is t of is)

-- a parameter that is judged without a fault declares a variable
param_sound : (defines : Bool) (known : Known) (p : Param) (of : CType) → (param_judged defines known p).made ≡ Fine of → ElabParam defines known.names p of
unfolding param_judged
param_sound defines known p of is =
    let parts = one_fine (dimensions known.names p.dims) (param_made defines known.names p) of is in
    let made = param_fine p.place (name_or_nothing p.name) (option_twice known.names p.name) (param_has_type p) (param_named defines p)
    (type_of_param known.names p) (param_sizes (parts.0).sizes) of parts.2 in
    subst (ElabParam defines known.names p) made.5
    (param defines known.names p parts.0 made.3 made.0 parts.1 made.4 made.1 made.2)

-- what a parameter declares is what judging makes
param_complete : (defines : Bool) (names : Names) (p : Param) (of : CType) → ElabParam defines names p of
    → then_made (dimensions names p.dims) (param_made defines names p) ≡ Fine of
param_complete _ _ _ _ (param defines names p sizes dims free sized right typed named) =
    ap (λ m. then_made m (param_made defines names p)) sized
    ∙ (λ i. param_by p.place (name_or_nothing p.name) (free i) (typed i) (named i) (type_of_param names p) (right i))

-- what a parameter comes to
param_comes : (defines : Bool) (known : Known) (p : Param) (of : CType) → ElabParam defines known.names p of
    → param_judged defines known p ≡ comes of (behind_param known p)
unfolding param_judged
param_comes defines known p of x = ap (λ m. judged m (behind_param known p)) (param_complete defines known.names p of x)

-- parameters that are judged without a fault declare variables
params_sound : (defines : Bool) (known : Known) (ps : List Param) (ofs : List CType) → (params_in_order defines known ps).made ≡ Fine ofs
    → ElabParams defines known ps ofs (params_in_order defines known ps).after
params_sound defines known [] ofs is = subst (λ t. ElabParams defines known [] t known) (fine_is [] ofs is) (no_params defines known)
params_sound defines known (p ∷ ps) ofs is =
    let one = param_judged defines known p in
    let rest = params_in_order defines one.after ps in
    let parts = both_fine one.made rest.made (λ x xs. Fine (x ∷ xs)) ofs is in
    let made = param_sound defines known p parts.0 parts.2 in
    subst (λ t. ElabParams defines known (p ∷ ps) t rest.after) (fine_is (parts.0 ∷ parts.1) ofs parts.4)
    (more_params defines known p ps parts.0 parts.1 rest.after made
    (subst (λ k. ElabParams defines k ps parts.1 rest.after) (ap (λ j. j.after) (param_comes defines known p parts.0 made))
    (params_sound defines one.after ps parts.1 parts.3)))

-- what parameters declare is what judging makes
params_complete : (defines : Bool) (known : Known) (ps : List Param) (ofs : List CType) (after : Known) → ElabParams defines known ps ofs after
    → params_in_order defines known ps ≡ comes ofs after
params_complete _ _ _ _ _ (no_params defines known) = refl
params_complete _ _ _ _ _ (more_params defines known p ps of ofs after one others) =
    ap (λ j. judged_before j (params_in_order defines j.after ps)) (param_comes defines known p of one)
    ∙ ap (λ j. judged_before (comes of (behind_param known p)) j) (params_complete defines (behind_param known p) ps ofs after others)

-- a function that is declared anew or alike
alike_fine : {A : Type 0} (again same : Bool) (f g : TypeFault) (made v : A)
    → (if again then refused f else if same then Fine made else refused g) ≡ Fine v → (again ≡ false) × (same ≡ true) × (made ≡ v)
alike_fine true same f g made v is = absurd (not_made f [] v is)
alike_fine false true f g made v is = (refl, refl, fine_is made v is)
alike_fine false false f g made v is = absurd (not_made g [] v is)

-- one of two faults is a fault
either_fault : {A : Type 0} (b : Bool) (f g : TypeFault) (v : A) → (if b then refused f else refused g) ≡ Fine v → ⊥
either_fault true f g v is = not_made f [] v is
either_fault false f g v is = not_made g [] v is

-- a function that is judged without a fault may be declared
may_fine : (p : Place) (x : List ℕ) (f : Signature) (again : Bool) (m : Option Meaning) (g : Signature) → function_fault p x f again m ≡ Fine g
    → MayDeclare f again m × (f ≡ g)
may_fine p x f again None g is = (first_declared f again, fine_is f g is)
may_fine p x f again (Some (meaning.Variable n of fixed)) g is = absurd (not_made (fault.Twice x p) [] g is)
may_fine p x f again (Some (meaning.Object n of fixed)) g is = absurd (not_made (fault.Twice x p) [] g is)
may_fine p x f again (Some (meaning.Library function)) g is = absurd (not_made (fault.Twice x p) [] g is)
may_fine p x f again (Some (meaning.Function h)) g is =
    let made = alike_fine again (same_signature f h) (fault.Twice x p) (fault.Kinds p) f g is in
    (subst (λ b. MayDeclare f b (Some (meaning.Function h))) (sym made.0) (declared_alike f h made.1), made.2)

-- a function that is made has a result and may be declared
function_fine : (p : Place) (x : List ℕ) (f : Signature) (again : Bool) (of : Option CType) (m : Option Meaning) (g : Signature)
    → function_made p x f again of m ≡ Fine g → (t : CType) × (of ≡ Some t) × MayDeclare f again m × (f ≡ g)
function_fine p x f again None None g is = absurd (either_fault again (fault.Twice x p) (fault.Kinds p) g is)
function_fine p x f again None (Some (meaning.Variable n of fixed)) g is = absurd (either_fault again (fault.Twice x p) (fault.Kinds p) g is)
function_fine p x f again None (Some (meaning.Object n of fixed)) g is = absurd (not_made (fault.Twice x p) [] g is)
function_fine p x f again None (Some (meaning.Library function)) g is = absurd (not_made (fault.Twice x p) [] g is)
function_fine p x f again None (Some (meaning.Function h)) g is = absurd (either_fault again (fault.Twice x p) (fault.Kinds p) g is)
function_fine p x f again (Some t) m g is =
    let may = may_fine p x f again m g is in
    (t, refl, may.0, may.1)

-- a function that may be declared is judged without a fault
may_complete : (f : Signature) (again : Bool) (m : Option Meaning) → MayDeclare f again m → (p : Place) (x : List ℕ) → function_fault p x f again m ≡ Fine f
may_complete _ _ _ (first_declared f again) p x = refl
may_complete _ _ _ (declared_alike f g same) p x = ap (λ b. if b then Fine f else refused (fault.Kinds p)) same

-- a head that declares a function is judged without a fault
function_complete : (p : Place) (x : List ℕ) (f : Signature) (again : Bool) (of : Option CType) (t : CType) (m : Option Meaning) → of ≡ Some t → MayDeclare f again m
    → function_made p x f again of m ≡ Fine f
function_complete p x f again of t m is may = ap (λ o. function_made p x f again o m) is ∙ may_complete f again m may p x

-- a prototype that is judged without a fault is right
pub prototype_sound : (defined : List (List ℕ)) (names : Names) (p : Place) (head : Head) (f : Signature) → prototype_judged defined names p head ≡ Fine f
    → ElabPrototype defined names head
unfolding prototype_judged
prototype_sound defined names p head f is =
    let types = head_params false names head in
    let parts = one_fine types.made
    (λ list. function_made p head.name (signature defined names head) false (result_type head) (meaning_here names head.name)) f is in
    let made = function_fine p head.name (signature defined names head) false (result_type head) (meaning_here names head.name) f parts.2 in
    prototype defined names head parts.0 types.after made.0
    (params_sound false (within_function names) (params_of head.params) parts.0 parts.1) (made.1, made.2)

-- a prototype that is right is judged without a fault
pub prototype_complete : (defined : List (List ℕ)) (names : Names) (head : Head) → ElabPrototype defined names head → (p : Place)
    → prototype_judged defined names p head ≡ Fine (signature defined names head)
unfolding prototype_judged
prototype_complete _ _ _ (prototype defined names head types inside of params may) p =
    ap (λ j. then_made j.made
    (λ list. function_made p head.name (signature defined names head) false (result_type head) (meaning_here names head.name)))
    (params_complete false (within_function names) (params_of head.params) types inside params)
    ∙ function_complete p head.name (signature defined names head) false (result_type head) of (meaning_here names head.name) may.0 may.1

-- what lies around the block of a function with this result
around_is : (head : Head) (of : CType) → result_type head ≡ Some of → in_function head ≡ within of
around_is head of is = ap (λ o. within (type_or_int o)) is

-- a definition that is judged without a fault means the function that judging makes
pub function_sound : (defined : List (List ℕ)) (again : Bool) (names : Names) (p : Place) (head : Head) (body : List Stmt) (close : Place) (f : TFunc)
    → function_judged defined again names p head body close ≡ Fine f → ElabFunction defined again names p head body close f
unfolding function_judged
function_sound defined again names p head body close f is =
    let types = head_params true names head in
    let inside = known_to_body defined names head types.after in
    let statements = function_body defined names head types.after body in
    let declared = function_made p head.name (signature defined names head) again (result_type head) (meaning_here names head.name) in
    let parts = both_fine types.made statements.made (λ list trees. then_made declared
    (λ g. Fine (function_tree p head body close g.result (length list) statements.after trees))) f is in
    let made = one_fine declared (λ g. Fine (function_tree p head body close g.result (length parts.0) statements.after parts.1)) f parts.4 in
    let may = function_fine p head.name (signature defined names head) again (result_type head) (meaning_here names head.name) made.0 made.1 in
    subst (ElabFunction defined again names p head body close)
    (ap (λ r. function_tree p head body close r (length parts.0) statements.after parts.1) (sym (ap type_or_int may.1) ∙ ap (λ g. g.result) may.3)
    ∙ fine_is (function_tree p head body close (made.0).result (length parts.0) statements.after parts.1) f made.2)
    (definition defined again names p head body close parts.0 types.after may.0 parts.1 statements.after
    (params_sound true (within_function names) (params_of head.params) parts.0 parts.2) (may.1, may.2)
    (subst (λ a. ElabStmts a inside body parts.1 statements.after) (around_is head may.0 may.1) (body_sound (in_function head) inside body parts.1 parts.3)))

-- what a definition means is what judging makes
pub definition_complete : (defined : List (List ℕ)) (again : Bool) (names : Names) (p : Place) (head : Head) (body : List Stmt) (close : Place) (f : TFunc)
    → ElabFunction defined again names p head body close f → function_judged defined again names p head body close ≡ Fine f
unfolding function_judged
definition_complete _ _ _ _ _ _ _ _ (definition defined again names p head body close types inside of trees after params may statements) =
    let within_it = known_to_body defined names head inside in
    ap (λ j. defined_with defined again names p head body close j) (params_complete true (within_function names) (params_of head.params) types inside params)
    ∙ ap (λ j. body_judged defined again names p head body close (comes types inside) j)
    (ap (λ a. judge_body a within_it body) (around_is head of may.0) ∙ body_complete (within of) within_it body trees after statements)
    ∙ ap (λ m. then_made m (λ g. Fine (function_tree p head body close g.result (length types) after trees)))
    (function_complete p head.name (signature defined names head) again (result_type head) of (meaning_here names head.name) may.0 may.1)
    ∙ ap (λ r. Fine (function_tree p head body close r (length types) after trees)) (ap type_or_int may.0)
