-- Believed with the theorem on the top call.
-- *Typing* of functions (C17 6.7.6.3, 6.9.1).
use Rattle.std.specs.Prelude.{ℕ, ◌+◌, nat_eq, Bool, true, false, ◌&&◌, ◌||◌, not, if◌then◌else◌, List, [], ◌∷◌, ◌++◌, map, length, is_some, Option, Some, None}
use Rattle.k_num.specs.declared.place.Place.{Place}
use Rattle.k_tree.specs.Count.{item_count}
use Rattle.k_tree.specs.declared.tokens.word.Word.{Word}
use Rattle.k_tree.specs.declared.tree.declaration.Param.{Param}
use Rattle.k_tree.specs.declared.tree.declaration.Params.{Params}
use Rattle.k_tree.specs.declared.tree.declaration.Params.TheVariants as params
use Rattle.k_tree.specs.declared.tree.statement.Stmt.{Stmt}
use Rattle.k_tree.specs.declared.tree.unit.Head.{Head}
use Rattle.k_tree.specs.declared.tree.unit.Item.TheVariants as item
use Rattle.k_types_meaning.specs.declared.fault.TypeFault.TheVariants as fault
use Rattle.k_types_meaning.specs.declared.names.Meaning.{Meaning}
use Rattle.k_types_meaning.specs.declared.names.Meaning.TheVariants as meaning
use Rattle.k_types_meaning.specs.declared.names.Signature.{Signature}
use Rattle.k_types_meaning.specs.declared.types.Base.{Base}
use Rattle.k_types_meaning.specs.declared.types.Base.TheVariants as base
use Rattle.k_types_meaning.specs.declared.types.CType.{CType}
use Rattle.k_types_meaning.specs.declared.types.CType.TheVariants as ctype
use Rattle.k_types_meaning.specs.declared.tree.statement.TStmt.{TStmt}
use Rattle.k_types_meaning.specs.declared.tree.unit.TFunc.{TFunc}
use Rattle.k_types_meaning.specs.declared.tree.unit.TVariable.{TVariable}
use Rattle.k_types_meaning.specs.Declarations.{object_type, object_fixed, type_or_int, is_twice, entered}
use Rattle.k_types_meaning.specs.Dimensions.{Sizes, dimensions, param_sizes}
use Rattle.k_types_meaning.specs.Made.{Made, Fine, Faulty, both, then_made, refused}
use Rattle.k_types_meaning.specs.Names.{Names, meaning_in, or_meaning, library, place_in}
use Rattle.k_types_meaning.specs.Specifiers.{base_of, says_const, says_static, starred_option}
use Rattle.k_types_meaning.specs.Statements.{Variable, Known, Around, Judged, judged_before, judge_body}
use Rattle.k_types_meaning.specs.Types.{told, count_of, same_kind, equal_element}

-- two types are equal (C17 6.2.7)
abbrev pub same_type : CType → CType → Bool
same_type ctype.Void ctype.Void = true
same_type (ctype.Number j) (ctype.Number k) = same_kind j k
same_type (ctype.Pointer a) (ctype.Pointer b) = equal_element a b
same_type (ctype.Array m a) (ctype.Array n b) = nat_eq m n && equal_element a b
same_type _ _ = false

-- two lists of types are equal
abbrev pub same_types : List CType → List CType → Bool
same_types [] [] = true
same_types [] (b ∷ bs) = false
same_types (a ∷ as_) [] = false
same_types (a ∷ as_) (b ∷ bs) = same_type a b && same_types as_ bs

-- two functions have equal types (C17 6.7.6.3p15)
abbrev pub same_signature : Signature → Signature → Bool
same_signature f g = same_type f.result g.result && same_types f.params g.params

-- a list has none
abbrev pub has_none : {A : Type 0} → List A → Bool
has_none [] = true
has_none (x ∷ xs) = false

-- C17 6.7.6.3p7: the type of a parameter that is declared as an array: a pointer to its element
abbrev pub array_param : Bool → Option Base → List Bool → List ℕ → Option CType
array_param fixed None stars dims = None
array_param fixed (Some base.Void) stars dims = None
array_param fixed (Some (base.Of kind)) [] dims = Some (ctype.Pointer (record { kind = kind; dims = dims; fixed = fixed }))
array_param fixed (Some (base.Of kind)) (star ∷ stars) dims = None

-- the type of a parameter with sizes or without, by the sizes behind the first
abbrev pub param_type : Bool → Option Base → Param → List ℕ → Option CType
param_type fixed b p dims = if has_none p.dims then object_type fixed b p.stars [] else array_param fixed b p.stars dims

-- what the specifiers of a parameter or of a variable name: no type where they say static
abbrev pub local_base : List Word → Option Base
local_base specs = if says_static specs then None else base_of specs

-- the parameter is const itself
abbrev pub param_fixed : Param → Bool
param_fixed p = has_none p.dims && object_fixed (says_const p.specs) p.stars

-- the sizes behind the first of a parameter, as far as they are known
abbrev pub param_dims : Made Sizes → Option (List ℕ)
param_dims (Fine found) = param_sizes found.sizes
param_dims (Faulty f fs) = None

-- the sizes, or none
abbrev pub sizes_or_none : Option (List ℕ) → List ℕ
sizes_or_none None = []
sizes_or_none (Some dims) = dims

-- the type of a parameter, an int where it has none, since it is refused in any case
abbrev pub type_of_param : Names → Param → CType
type_of_param names p =
    type_or_int (param_type (says_const p.specs) (local_base p.specs) p (sizes_or_none (param_dims (dimensions names p.dims))))

-- a name that may be left out stands in its scope already, or is that of a library function
abbrev pub option_twice : Names → Option (List ℕ) → Bool
option_twice names None = false
option_twice names (Some x) = is_twice names x

-- a name that may be left out; nothing in its place
abbrev pub name_or_nothing : Option (List ℕ) → List ℕ
name_or_nothing None = []
name_or_nothing (Some x) = x

-- a parameter that is const or not, as far as its sizes: they are right
abbrev pub sized_param : Place → CType → Option (List ℕ) → Made CType
sized_param place of None = refused (fault.BadSize place)
sized_param place of (Some dims) = Fine of

-- a parameter of which the sizes are judged: its name is not there twice, it has a type and in a definition a name, and its sizes
-- are right
abbrev pub param_made : Bool → Names → Param → Sizes → Made CType
param_made defines names p found =
    if option_twice names p.name then refused (fault.Twice (name_or_nothing p.name) p.place)
    else if is_some (param_type (says_const p.specs) (local_base p.specs) p []) && (not defines || is_some p.name) then
    sized_param p.place (type_of_param names p) (param_sizes found.sizes)
    else refused (fault.Kinds p.place)

-- a name that may be left out enters the innermost scope
abbrev pub entered_option : Option (List ℕ) → Meaning → Names → Names
entered_option None m names = names
entered_option (Some x) m names = entered x m names

-- the variables that `&` is applied to in dimensions that were judged
abbrev pub sizes_taken : Made Sizes → List ℕ
sizes_taken (Fine found) = found.taken
sizes_taken (Faulty f fs) = []

-- what is known behind a parameter: it is the next variable
abbrev pub behind_param : Known → Param → Known
behind_param known p = record {
  names = entered_option p.name (meaning.Variable (length known.variables) (type_of_param known.names p) (param_fixed p)) known.names;
  variables = known.variables ++ record { place = p.place; of = type_of_param known.names p } ∷ [];
  taken = known.taken ++ sizes_taken (dimensions known.names p.dims);
}

-- C17 6.7.6.3: a parameter of a prototype or of a definition, where this is known
unfoldable pub param_judged : Bool → Known → Param → Judged CType
param_judged defines known p = record {
  made = then_made (dimensions known.names p.dims) (param_made defines known.names p);
  after = behind_param known p;
}

-- parameters one after the other
abbrev pub params_in_order : Bool → Known → List Param → Judged (List CType)
params_in_order defines known [] = record { made = Fine []; after = known }
params_in_order defines known (p ∷ ps) =
    judged_before (param_judged defines known p) (params_in_order defines (param_judged defines known p).after ps)

-- the parameters of a head
abbrev pub params_of : Params → List Param
params_of params.Empty = []
params_of params.Void = []
params_of (params.List list) = list

-- nothing is known but these names, and a scope is open for parameters
abbrev pub within_function : Names → Known
within_function names = record { names = [] ∷ names; variables = []; taken = [] }

-- C17 6.7.6.3: the parameters of a head, where these names are known
abbrev pub head_params : Bool → Names → Head → Judged (List CType)
head_params defines names head = params_in_order defines (within_function names) (params_of head.params)

-- the type of a function's result, if it is one
abbrev pub result_type : Head → Option CType
result_type head = starred_option (says_const head.specs) (base_of head.specs) head.stars

-- the type of a variable
abbrev pub variable_types : List Variable → List CType
variable_types variables = map (λ (v : Variable). v.of) variables

-- what a head declares its name as; the functions that the source defines have these names
abbrev pub signature : List (List ℕ) → Names → Head → Signature
signature defined names head = record {
  result = type_or_int (result_type head);
  params = variable_types (head_params false names head).after.variables;
  number = place_in defined head.name;
}

-- the names that are known from behind the head of a function on
abbrev pub names_behind_head : List (List ℕ) → Names → Head → Names
names_behind_head defined names head = entered head.name (meaning.Function (signature defined names head)) names

-- a function of this type may be declared where the name means this at file scope: nothing, or a function of an equal type; the last
-- is whether it is defined already and is defined again
abbrev pub function_fault : Place → List ℕ → Signature → Bool → Option Meaning → Made Signature
function_fault p x f again None = Fine f
function_fault p x f again (Some (meaning.Variable n of fixed)) = refused (fault.Twice x p)
function_fault p x f again (Some (meaning.Object n of fixed)) = refused (fault.Twice x p)
function_fault p x f again (Some (meaning.Library function)) = refused (fault.Twice x p)
function_fault p x f again (Some (meaning.Function g)) =
    if again then refused (fault.Twice x p)
    else if same_signature f g then Fine f
    else refused (fault.Kinds p)

-- C17 6.7p3, 6.9p3: a function that is declared at file scope: its name is free, and it has a result type
abbrev pub function_made : Place → List ℕ → Signature → Bool → Option CType → Option Meaning → Made Signature
function_made p x f again None (Some (meaning.Object n of fixed)) = refused (fault.Twice x p)
function_made p x f again None (Some (meaning.Library function)) = refused (fault.Twice x p)
function_made p x f again None m = if again then refused (fault.Twice x p) else refused (fault.Kinds p)
function_made p x f again (Some of) m = function_fault p x f again m

-- what a name means at file scope or as that of a library function
abbrev pub meaning_here : Names → List ℕ → Option Meaning
meaning_here [] x = meaning_in library x
meaning_here (scope ∷ names) x = or_meaning (meaning_in scope x) (meaning_in library x)

-- C17 6.7.6.3: a prototype: its parameters, then its name and type
unfoldable pub prototype_judged : List (List ℕ) → Names → Place → Head → Made Signature
prototype_judged defined names p head =
    then_made (head_params false names head).made
    (λ types. function_made p head.name (signature defined names head) false (result_type head) (meaning_here names head.name))

-- how many elements the object of a variable has: none where it is a register, which a pointer is, and a number to which `&` is not
-- applied
abbrev pub object_elements : CType → Bool → ℕ
object_elements ctype.Void taken = 0
object_elements (ctype.Number kind) taken = if taken then 1 else 0
object_elements (ctype.Pointer e) taken = 0
object_elements (ctype.Array count e) taken = count_of (ctype.Array count e)

-- a number is among these
abbrev pub has_number : List ℕ → ℕ → Bool
has_number [] n = false
has_number (m ∷ ms) n = if nat_eq m n then true else has_number ms n

-- variables from this number on, of which `&` is applied to these
abbrev pub variables_from : ℕ → List ℕ → List Variable → List TVariable
variables_from n taken [] = []
variables_from n taken (v ∷ vs) =
    record { place = v.place; of = told v.of; elements = object_elements v.of (has_number taken n) } ∷ variables_from (n + 1) taken vs

-- a function's definition that was judged; its loops are counted later
abbrev pub function_tree : Place → Head → List Stmt → Place → CType → ℕ → Known → List TStmt → TFunc
function_tree p head body close result count known statements = record {
  name = head.name;
  place = head.name_place;
  close = close;
  nodes = item_count (item.Function p head body close);
  loops = 0;
  result = told result;
  params = count;
  variables = variables_from 0 known.taken known.variables;
  body = statements;
}

-- what lies around the block of a function
abbrev pub in_function : Head → Around
in_function head = record { in_loop = false; in_switch = false; result = type_or_int (result_type head) }

-- the scope of the parameters, above the file scope behind the head
abbrev pub body_names : List (List ℕ) → Names → Head → Names → Names
body_names defined names head [] = names_behind_head defined names head
body_names defined names head (scope ∷ within) = scope ∷ names_behind_head defined names head

-- the block of a function, where its parameters and its own name are known
abbrev pub function_body : List (List ℕ) → Names → Head → Known → List Stmt → Judged (List TStmt)
function_body defined names head known body = judge_body (in_function head) (record known { names = body_names defined names head known.names }) body

-- a definition whose block is judged
abbrev pub body_judged : List (List ℕ) → Bool → Names → Place → Head → List Stmt → Place → Judged (List CType) → Judged (List TStmt) → Made TFunc
body_judged defined again names p head body close types statements =
    both types.made statements.made (λ list trees.
    then_made (function_made p head.name (signature defined names head) again (result_type head) (meaning_here names head.name))
    (λ f. Fine (function_tree p head body close f.result (length list) statements.after trees)))

-- a definition whose parameters are judged
abbrev pub defined_with : List (List ℕ) → Bool → Names → Place → Head → List Stmt → Place → Judged (List CType) → Made TFunc
defined_with defined again names p head body close types =
    body_judged defined again names p head body close types (function_body defined names head types.after body)

-- C17 6.9.1: a definition: its parameters, its block, then its name and type
unfoldable pub function_judged : List (List ℕ) → Bool → Names → Place → Head → List Stmt → Place → Made TFunc
function_judged defined again names p head body close =
    defined_with defined again names p head body close (head_params true names head)
