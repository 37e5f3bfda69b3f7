-- For contracts between crates: nobody has to believe it.
-- Functions as they are judged.
use Rattle.std.specs.Prelude.{◌≡◌, ℕ, ◌+◌, List, [], ◌∷◌, Result, Ok, Err}
use Rattle.k_tree.specs.declared.tree.declaration.Param.{Param}
use Rattle.k_tree.specs.declared.tree.unit.Head.{Head}
use Rattle.k_types_meaning.specs.declared.fault.TypeFault.{TypeFault}
use Rattle.k_types_meaning.specs.declared.names.Meaning.TheVariants as meaning
use Rattle.k_types_meaning.specs.declared.names.Signature.{Signature}
use Rattle.k_types_meaning.specs.declared.tree.unit.TFunc.{TFunc}
use Rattle.k_types_meaning.specs.Declarations.{entered}
use Rattle.k_types_meaning.specs.Functions.{entered_option, param_fixed, params_of}
use Rattle.k_types_meaning.specs.Made.{Made, Fine}
use Rattle.k_types_meaning.specs.Names.{Names}
use Rattle.k_types_meaning.specs.Statements.{Known, Variable}
use Rattle.k_types_rules.specs.Views.{Refuses}

-- parameters are declared as variables from this number on, which have these types
abbrev pub variables_named : ℕ → List Param → List Variable → Names → Names
variables_named n [] vs names = names
variables_named n (p ∷ ps) [] names = names
variables_named n (p ∷ ps) (v ∷ vs) names =
    variables_named (n + 1) ps vs (entered_option p.name (meaning.Variable n v.of (param_fixed p)) names)

-- what is known in the block of a function: its own name at file scope, and its parameters above it
abbrev pub entered_function : Known → Head → Signature → Known
entered_function known head f =
    record known { names = variables_named 0 (params_of head.params) known.variables ([] ∷ entered head.name (meaning.Function f) known.names) }

-- a prototype has no fault, and these names are known behind it; or it has a fault first
abbrev pub Declares : Result (Unit {0}) TypeFault → Names → Made Signature → Names → Type 0
Declares (Ok done) names m behind = (f : Signature) × (m ≡ Fine f) × (names ≡ behind)
Declares (Err e) names m behind = Refuses e m

-- a definition has this tree, and these names are known behind it; or it has a fault first
abbrev pub GivesFunction : Result TFunc TypeFault → Names → Made TFunc → Names → Type 0
GivesFunction (Ok f) names m behind = (m ≡ Fine f) × (names ≡ behind)
GivesFunction (Err e) names m behind = Refuses e m
