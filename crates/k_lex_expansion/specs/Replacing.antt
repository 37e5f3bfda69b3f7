-- Believed with a public law.
-- What a macro's body becomes, where its arguments are known (C17 6.10.3.1 to 6.10.3.3).
use Rattle.std.specs.Prelude.{ℕ, zero, suc, Bool, false, ◌||◌, ◌==◌, List, [], ◌∷◌, Option, Some, None, map}
use Rattle.k_lex_expansion.specs.declared.tokens.Listed.{Listed}
use Rattle.k_lex_expansion.specs.declared.macros.Operand.{Operand}
use Rattle.k_lex_expansion.specs.declared.macros.Operand.TheVariants as o
use Rattle.k_lex_expansion.specs.declared.macros.Chain.{Chain}
use Rattle.k_lex_expansion.specs.declared.arguments.Argument.{Argument}
use Rattle.k_lex_expansion.specs.Listing.{fresh, in_place}
use Rattle.k_lex_expansion.specs.Texts.{string_of}
use Rattle.k_lex_expansion.specs.Pasting.{glued}

-- no argument
abbrev pub no_argument : Argument
no_argument = record { written = []; expanded = [] }

-- the argument of this number
abbrev pub argument_at : List Argument → ℕ → Argument
argument_at [] n = no_argument
argument_at (a ∷ args) zero = a
argument_at (a ∷ args) (suc n) = argument_at args n

-- what stands beside `##`: a parameter is its argument as it is written, and `#` before it makes a string
abbrev pub beside : List Argument → Operand → List Listed
beside args (o.Token spelling) = fresh spelling ∷ []
beside args (o.Parameter n) = (argument_at args n).written
beside args (o.Text n) = fresh (string_of (argument_at args n).written) ∷ []

-- what stands without `##`: a parameter is its argument's expansion
abbrev pub alone : List Argument → Operand → List Listed
alone args (o.Token spelling) = fresh spelling ∷ []
alone args (o.Parameter n) = (argument_at args n).expanded
alone args (o.Text n) = fresh (string_of (argument_at args n).written) ∷ []

-- a chain of operands, if each `##` makes a token
abbrev pub chained : List Argument → Operand → List Operand → Option (List Listed)
chained args first [] = Some (alone args first)
chained args first (x ∷ more) = glued (Some (beside args first)) (map (beside args) (x ∷ more))

-- a chain before what is behind it
abbrev pub before : Bool → Option (List Listed) → Option (List Listed) → Option (List Listed)
before spaced None rest = None
before spaced (Some ts) None = None
before spaced (Some ts) (Some rest) = Some (in_place spaced ts rest)

-- chains with their parameters replaced before what is behind them, if each `##` makes a token
abbrev pub replaced_before : List Argument → List Chain → Option (List Listed) → Option (List Listed)
replaced_before args [] behind = behind
replaced_before args (c ∷ chains) behind = before c.spaced (chained args c.first c.more) (replaced_before args chains behind)

-- the body with its parameters replaced
abbrev pub replaced : List Argument → List Chain → Option (List Listed)
replaced args body = replaced_before args body (Some [])

-- the operand is the parameter of this number
abbrev pub is_parameter : ℕ → Operand → Bool
is_parameter n (o.Parameter k) = k == n
is_parameter n _ = false

-- the parameter stands there without `##`
abbrev pub is_alone : ℕ → Operand → List Operand → Bool
is_alone n first [] = is_parameter n first
is_alone n first (x ∷ more) = false

-- the parameter of this number stands in the body neither beside `##` nor behind `#`, so that its argument has to be expanded
abbrev pub asks : ℕ → List Chain → Bool
asks n [] = false
asks n (c ∷ chains) = is_alone n c.first c.more || asks n chains
