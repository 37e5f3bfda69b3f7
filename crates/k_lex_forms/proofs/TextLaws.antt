-- A line of text that has tokens.
use Rattle.std.proofs.Common.{◌≡◌, false, eqb, List, [], ◌∷◌, length, refl}
use Rattle.k_lex_lines.specs.declared.lines.Placed.{Placed}
use Rattle.k_lex_lines.specs.declared.lines.Line.TheVariants as l
use Rattle.k_lex_forms.specs.Sources.{text_of}

pub some_text : (ts : List Placed) → eqb (length ts) 0 ≡ false → text_of ts ≡ l.Text ts ∷ []
some_text [] some = absurd (cc)
some_text (t ∷ ts) some = refl
