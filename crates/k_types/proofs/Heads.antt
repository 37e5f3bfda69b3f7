-- What is known behind the parameters of a head.
use Rattle.std.proofs.Common.{ℕ, ◌+◌, ◌≡◌, refl, sym, ap, ◌∙◌, subst, arith, Bool, true, false, List, [], ◌∷◌, ◌++◌, length, append_assoc, append-nil, length-append, Option, Some, None, Ok}
use Rattle.k_tree.specs.declared.tree.declaration.Param.{Param}
use Rattle.k_tree.specs.declared.tree.unit.Head.{Head}
use Rattle.k_types_meaning.specs.declared.names.Meaning.{Meaning}
use Rattle.k_types_meaning.specs.declared.names.Meaning.TheVariants as meaning
use Rattle.k_types_meaning.specs.declared.names.Signature.{Signature}
use Rattle.k_types_meaning.specs.declared.types.CType.{CType}
use Rattle.k_types_meaning.specs.Declarations.{entered, type_or_int}
use Rattle.k_types_meaning.specs.Functions.{behind_param, body_names, entered_option, head_params, meaning_here, names_behind_head, param_fixed, param_judged, params_in_order, params_of, result_type, signature, type_of_param, variable_types, within_function}
use Rattle.k_types_meaning.specs.Names.{Names, Scope, library, meaning_in, meaning_of, or_meaning, place_in}
use Rattle.k_types_meaning.specs.Statements.{Judged, Known, Variable}
use Rattle.k_types_meaning.specs.declared.fault.TypeFault.{TypeFault}
use Rattle.k_types_rules.specs.Views.{Refuses}
use Rattle.k_types_names.specs.Scoping.{outside}
use Rattle.k_types.specs.Functions.{entered_function, variables_named}
use Rattle.k_types.specs.Heads.{HasHead, IsFile}
use Rattle.k_types.specs.Parameters.{GoesAll}

-- what is known behind parameters does not depend on what they are for
after_same : (d e : Bool) (known : Known) (ps : List Param) → (params_in_order d known ps).after ≡ (params_in_order e known ps).after
unfolding param_judged
after_same d e known [] = refl
after_same d e known (p ∷ ps) = after_same d e (behind_param known p) ps

pub head_after : (d e : Bool) (names : Names) (head : Head) → (head_params d names head).after ≡ (head_params e names head).after
head_after d e names head = after_same d e (within_function names) (params_of head.params)

-- parameters are declared in the innermost scope
pub outside_entered : (x : List ℕ) (m : Meaning) (names : Names) → outside (entered x m names) ≡ outside names
outside_entered x m [] = refl
outside_entered x m (scope ∷ names) = refl

outside_option : (x : Option (List ℕ)) (m : Meaning) (names : Names) → outside (entered_option x m names) ≡ outside names
outside_option None m names = refl
outside_option (Some x) m names = outside_entered x m names

outside_params : (d : Bool) (known : Known) (ps : List Param) → outside (params_in_order d known ps).after.names ≡ outside known.names
unfolding param_judged
outside_params d known [] = refl
outside_params d known (p ∷ ps) =
    outside_params d (behind_param known p) ps
    ∙ outside_option p.name (meaning.Variable (length known.variables) (type_of_param known.names p) (param_fixed p)) known.names

pub head_outside : (d : Bool) (names : Names) (head : Head) → outside (head_params d names head).after.names ≡ names
head_outside d names head = outside_params d (within_function names) (params_of head.params)

-- the variables that parameters are
new_variables : Known → List Param → List Variable
new_variables known [] = []
new_variables known (p ∷ ps) = record { place = p.place; of = type_of_param known.names p } ∷ new_variables (behind_param known p) ps

variables_are : (d : Bool) (known : Known) (ps : List Param) → (params_in_order d known ps).after.variables ≡ known.variables ++ new_variables known ps
unfolding param_judged new_variables
variables_are d known [] = sym (append-nil known.variables)
variables_are d known (p ∷ ps) =
    variables_are d (behind_param known p) ps
    ∙ append_assoc known.variables (record { place = p.place; of = type_of_param known.names p } ∷ []) (new_variables (behind_param known p) ps)

-- the innermost scope, above others than it lies in
abbrev above : Names → Names → Names
above other [] = other
above other (scope ∷ within) = scope ∷ other

body_names_are : (defined : List (List ℕ)) (names : Names) (head : Head) (inner : Names) → body_names defined names head inner ≡ above (names_behind_head defined names head) inner
body_names_are defined names head [] = refl
body_names_are defined names head (scope ∷ within) = refl

-- a scope with a name that may be left out
abbrev scope_with : Option (List ℕ) → Meaning → Scope → Scope
scope_with None m scope = scope
scope_with (Some x) m scope = (x, m) ∷ scope

entered_is : (x : Option (List ℕ)) (m : Meaning) (scope : Scope) (within : Names) → entered_option x m (scope ∷ within) ≡ scope_with x m scope ∷ within
entered_is None m scope within = refl
entered_is (Some x) m scope within = refl

-- the names of parameters, above other scopes
names_are : (d : Bool) (n : ℕ) (other : Names) (ps : List Param) (known : Known) (scope : Scope) (within : Names) → length known.variables ≡ n → known.names ≡ scope ∷ within
    → above other (params_in_order d known ps).after.names ≡ variables_named n ps (new_variables known ps) (scope ∷ other)
unfolding param_judged new_variables
names_are d n other [] known scope within counted is = ap (above other) is
names_are d n other (p ∷ ps) known scope within counted is =
    let m : Meaning = meaning.Variable (length known.variables) (type_of_param known.names p) (param_fixed p) in
    let v : Variable = record { place = p.place; of = type_of_param known.names p } in
    names_are d (n + 1) other ps (behind_param known p) (scope_with p.name m scope) within
    (length-append known.variables (v ∷ []) ∙ ap (λ k. k + 1) counted)
    (ap (entered_option p.name m) is ∙ entered_is p.name m scope within)
    ∙ ap (λ k. variables_named (n + 1) ps (new_variables (behind_param known p) ps) (scope_with p.name (meaning.Variable k v.of (param_fixed p)) scope ∷ other)) counted
    ∙ ap (variables_named (n + 1) ps (new_variables (behind_param known p) ps)) (sym (entered_is p.name (meaning.Variable n v.of (param_fixed p)) scope other))

-- what is known in the block of a function
pub entered_body : (defined : List (List ℕ)) (names : Names) (head : Head) (f : Signature) (known : Known) → f ≡ signature defined names head
    → known ≡ record (head_params true names head).after { names = names }
    → entered_function known head f ≡ record (head_params true names head).after { names = body_names defined names head (head_params true names head).after.names }
entered_body defined names head f known signed is =
    let after = (head_params true names head).after in
    let ps = params_of head.params in
    let behind = names_behind_head defined names head in
    (λ i. entered_function (is i) head (signed i))
    ∙ (λ i. record after {
      names =
          (ap (λ vs. variables_named 0 ps vs ([] ∷ behind)) (variables_are true (within_function names) ps)
          ∙ (sym (names_are true 0 behind ps (within_function names) [] names refl refl) ∙ sym (body_names_are defined names head after.names))) i;
    })

-- a head whose parameters were judged
pub head_gives : (defines : Bool) (defined : List (List ℕ)) (names : Names) (head : Head) (f : Signature) (begun newer : Known) (ps : List Param)
    → begun ≡ within_function names → ps ≡ params_of head.params → GoesAll (Ok tt) newer (length ps) (params_in_order defines begun ps)
    → f ≡ record { result = type_or_int (result_type head); params = variable_types newer.variables; number = place_in defined head.name }
    → HasHead f defines defined names head newer
head_gives defines defined names head f begun newer ps begins same (types, made, counted, after) is =
    let judged : params_in_order defines begun ps ≡ head_params defines names head = λ i. params_in_order defines (begins i) (same i) in
    let behind : newer ≡ (head_params defines names head).after = after ∙ ap (λ (j : Judged (List CType)). j.after) judged in
    record {
      types = types;
      made = sym (ap (λ (j : Judged (List CType)). j.made) judged) ∙ made;
      counted = counted ∙ ap length same;
      after = behind;
      signed =
          is
          ∙ ap (λ (k : Known). record { result = type_or_int (result_type head); params = variable_types k.variables; number = place_in defined head.name })
          (behind ∙ head_after defines false names head);
    }

-- a head whose parameters have a fault
pub head_refuses : (defines : Bool) (names : Names) (head : Head) (e : TypeFault) (begun : Known) (ps : List Param) → begun ≡ within_function names → ps ≡ params_of head.params
    → Refuses e (params_in_order defines begun ps).made → Refuses e (head_params defines names head).made
head_refuses defines names head e begun ps begins same refuses =
    subst (λ (j : Judged (List CType)). Refuses e j.made) (λ i. params_in_order defines (begins i) (same i)) refuses

-- parameters that are declared again stay in the innermost scope
pub outside_named : (n : ℕ) (ps : List Param) (vs : List Variable) (names : Names) → outside (variables_named n ps vs names) ≡ outside names
outside_named n [] vs names = refl
outside_named n (p ∷ ps) [] names = refl
outside_named n (p ∷ ps) (v ∷ vs) names =
    outside_named (n + 1) ps vs (entered_option p.name (meaning.Variable n v.of (param_fixed p)) names)
    ∙ outside_option p.name (meaning.Variable n v.of (param_fixed p)) names

or_none : (m : Option Meaning) → or_meaning m None ≡ m
or_none None = refl
or_none (Some m) = refl

-- at file scope a name means what it means there or in the library
pub here_is : (names : Names) (x : List ℕ) → IsFile names → meaning_of names x ≡ meaning_here names x
here_is names x (scope, is) =
    ap (λ ns. meaning_of ns x) is
    ∙ (ap (or_meaning (meaning_in scope x)) (or_none (meaning_in library x)) ∙ ap (λ ns. meaning_here ns x) (sym is))

-- a name that is declared at file scope leaves it
pub file_entered : (names : Names) (x : List ℕ) (m : Meaning) → IsFile names → IsFile (entered x m names)
file_entered names x m (scope, is) = ((x, m) ∷ scope, ap (entered x m) is)
