-- Believed with the theorem on the top call.
-- The punctuators (C17 6.4.6) that the language has.
use Rattle.std.specs.Prelude.{ℕ, List, [], ◌∷◌, Option, codes}
use Rattle.k_lex_pieces.specs.Bytes.{look_up}
use Rattle.k_tree.specs.declared.tokens.mark.Mark.{Mark}
use Rattle.k_tree.specs.declared.tokens.mark.Mark.TheVariants as m

-- the punctuators, each with its spelling
abbrev pub marks : List (List ℕ × Mark)
marks =
    (codes "[", m.LeftBracket) ∷
    (codes "]", m.RightBracket) ∷
    (codes "(", m.LeftParen) ∷
    (codes ")", m.RightParen) ∷
    (codes "{", m.LeftBrace) ∷
    (codes "}", m.RightBrace) ∷
    (codes "++", m.PlusPlus) ∷
    (codes "--", m.MinusMinus) ∷
    (codes "&", m.Ampersand) ∷
    (codes "*", m.Star) ∷
    (codes "+", m.Plus) ∷
    (codes "-", m.Minus) ∷
    (codes "~", m.Tilde) ∷
    (codes "!", m.Exclaim) ∷
    (codes "/", m.Slash) ∷
    (codes "%", m.Percent) ∷
    (codes "<<", m.ShiftLeft) ∷
    (codes ">>", m.ShiftRight) ∷
    (codes "<", m.Less) ∷
    (codes ">", m.Greater) ∷
    (codes "<=", m.LessEqual) ∷
    (codes ">=", m.GreaterEqual) ∷
    (codes "==", m.EqualEqual) ∷
    (codes "!=", m.ExclaimEqual) ∷
    (codes "^", m.Caret) ∷
    (codes "|", m.Bar) ∷
    (codes "&&", m.AmpersandAmpersand) ∷
    (codes "||", m.BarBar) ∷
    (codes "?", m.Question) ∷
    (codes ":", m.Colon) ∷
    (codes ";", m.Semicolon) ∷
    (codes "=", m.Equal) ∷
    (codes "*=", m.StarEqual) ∷
    (codes "/=", m.SlashEqual) ∷
    (codes "%=", m.PercentEqual) ∷
    (codes "+=", m.PlusEqual) ∷
    (codes "-=", m.MinusEqual) ∷
    (codes "<<=", m.ShiftLeftEqual) ∷
    (codes ">>=", m.ShiftRightEqual) ∷
    (codes "&=", m.AmpersandEqual) ∷
    (codes "^=", m.CaretEqual) ∷
    (codes "|=", m.BarEqual) ∷
    (codes ",", m.Comma) ∷
    []

-- the punctuator of this spelling
abbrev pub mark_of : List ℕ → Option Mark
mark_of s = look_up marks s
