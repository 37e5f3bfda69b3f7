-- For contracts between crates: nobody has to believe it.
-- How the code joins strings.
use Rattle.std.specs.Prelude.{List, [], ◌∷◌, Option, Some, None}
use Rattle.k_tree.specs.declared.tokens.Token.{Token}
use Rattle.k_tree.specs.declared.tokens.TokenKind.TheVariants as t
use Rattle.k_lex_joining.specs.declared.joining.Held.{Held}

-- the string that the next token may go on with, as a list of one token or none
abbrev pub held_tokens : Option Held → List Token
held_tokens None = []
held_tokens (Some h) = record { what = t.Str h.bytes; place = h.place } ∷ []
