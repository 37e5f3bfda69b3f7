-- Believed with a public law.
-- Token lists that end once.
use Rattle.std.specs.Prelude.{◌≡◌, ◌≢◌, List, [], ◌∷◌}
use Rattle.k_tree.specs.declared.tokens.Token.{Token}
use Rattle.k_tree.specs.declared.tokens.TokenKind.TheVariants as token

-- the last token is the end, and no other token is
abbrev pub EndsOnce : List Token → Type 0
EndsOnce [] = ⊥
EndsOnce (t ∷ []) = t.what ≡ token.End
EndsOnce (t ∷ (u ∷ ts)) = (t.what ≢ token.End) × EndsOnce (u ∷ ts)
