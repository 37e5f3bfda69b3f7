-- Believed with a public law.
-- The end of a source's tokens (C17 5.1.1.2p1, phase 6).
use Rattle.std.specs.Prelude.{ℕ, List, [], ◌∷◌, ◌++◌}
use Rattle.k_tree.specs.declared.tokens.Token.{Token}
use Rattle.k_tree.specs.declared.tokens.TokenKind.TheVariants as t
use Rattle.k_lex_pieces.specs.Bytes.{behind}
use Rattle.k_lex.specs.Tokens.{first_place, joined}

-- the tokens that were read from a source, with their neighbouring strings joined, and behind them the end, which stands behind the last byte
abbrev pub ended : List Token → List ℕ → List Token
ended tokens source = joined tokens ++ record { what = t.End; place = behind first_place source } ∷ []
