-- For contracts between crates: nobody has to believe it.
-- The arguments of a call, of which some are done.
use Rattle.std.specs.Prelude.{◌≡◌, ℕ, ◌<◌, true, List, [], ◌∷◌, ◌++◌, Option, Some, None, Result, Ok, Err, length}
use Rattle.k_num.specs.declared.memory.NoMemory.{NoMemory}
use Rattle.k_lex_expansion.specs.declared.tokens.Listed.{Listed}
use Rattle.k_lex_expansion.specs.declared.macros.Macro.{Macro}
use Rattle.k_lex_expansion.specs.declared.macros.Chain.{Chain}
use Rattle.k_lex_expansion.specs.declared.arguments.Argument.{Argument}
use Rattle.k_lex_expansion.specs.Replacing.{asks}
use Rattle.k_lex_expansion.specs.Expansion.{Expansions, AreExpanded}

-- arguments before others
abbrev pub with_arguments : List Argument → Expansions → Expansions
with_arguments before (Ok others) = Ok (before ++ others.0, others.1)
with_arguments before (Err failure) = Err failure

-- these arguments and the expansions of those that wait are all
pub record Arguments (macros : List Macro) (limit : ℕ) (body : List Chain) (complete : List Argument) (waiting : List (List Listed)) (made : ℕ) (all : Expansions) : Type 0 where
  pub args : Expansions
  pub expanded : AreExpanded macros limit body (length complete) waiting made args
  pub is : all ≡ with_arguments complete args

-- what all arguments are in the second case they are in the first
abbrev pub Passes : List Chain → List Argument → List (List Listed) → List Argument → List (List Listed) → Type 0
Passes body old waits new left =
    (macros : List Macro) (limit made : ℕ) (all : Expansions) → Arguments macros limit body new left made all → Arguments macros limit body old waits made all

-- an argument that the body asks for comes next
pub record AsksFor (body : List Chain) (ts : List Listed) (old : List Argument) (waits : List (List Listed)) (new : List Argument) (left : List (List Listed)) : Type 0 where
  pub passes : Passes body old waits new (ts ∷ left)
  pub asked : asks (length new) body ≡ true
  pub fewer : length left < length waits

-- arguments that are not asked for were passed over
abbrev pub Skips : Result (Option (List Listed)) NoMemory → List Chain → List Argument → List (List Listed) → List Argument → List (List Listed) → Type 0
Skips (Ok (Some ts)) body old waits new left = AsksFor body ts old waits new left
Skips (Ok None) body old waits new left = Passes body old waits new []
Skips (Err _) body old waits new left = Unit {0}
