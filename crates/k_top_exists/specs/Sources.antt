-- Believed with a public law.
-- That each source has a tree of syntax or a refusal, and each source without a fault a typed tree.
use Rattle.std.specs.Prelude.{ℕ, ◌≡◌, ◌≢◌, List, [], Result, Ok, Err}
use Rattle.k_tree.specs.declared.tokens.Token.{Token}
use Rattle.k_tree.specs.declared.tree.unit.Unit as source
use Rattle.k_lex.specs.Tokens.{tokens}
use Rattle.k_parse.specs.Parse.{IsParse}
use Rattle.k_parse.specs.declared.fault.ParseFault.{ParseFault}
use Rattle.k_parse.specs.declared.fault.ParseFault.TheVariants as fault
use Rattle.k_types_meaning.specs.Bare.{IsTyped}
use Rattle.k_types_meaning.specs.Units.{faults}
use Rattle.k_types_meaning.specs.declared.tree.unit.TUnit.{TUnit}

-- The tokens of a source are read to a tree, or to a refusal, which is not want of memory.
abbrev pub ListsAreRead : Type 0
ListsAreRead =
    (bytes : List ℕ) (list : List Token) → tokens bytes ≡ Ok list
    → (found : Result source.Unit ParseFault) × IsParse list found × (found ≢ Err fault.Memory)

-- A source without a fault has a typed tree, whatever its size and nesting.
abbrev pub FaultlessSourcesAreTyped : Type 0
FaultlessSourcesAreTyped = (unit : source.Unit) → faults unit ≡ [] → (typed : TUnit) × IsTyped unit typed
