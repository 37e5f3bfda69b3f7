-- Believed with a public law.
-- What the lines of some sources are.
use Rattle.std.specs.Prelude.{◌≡◌, ℕ, Bool, true, false, List, [], ◌∷◌, None, Some, codes}
use Rattle.k_num.specs.declared.place.Place.{Place}
use Rattle.k_lex_pieces.specs.declared.fault.Refusal.{Refusal}
use Rattle.k_lex_pieces.specs.declared.fault.Refusal.TheVariants as r
use Rattle.k_lex_expansion.specs.declared.macros.Operand.TheVariants as o
use Rattle.k_lex_lines.specs.declared.lines.Placed.{Placed}
use Rattle.k_lex_lines.specs.declared.lines.Fault.{Fault}
use Rattle.k_lex_lines.specs.declared.lines.Wrong.TheVariants as wrong
use Rattle.k_lex_lines.specs.declared.lines.Test.TheVariants as t
use Rattle.k_lex_lines.specs.declared.lines.Branch.TheVariants as b
use Rattle.k_lex_lines.specs.declared.lines.Directive.TheVariants as d
use Rattle.k_lex_lines.specs.declared.lines.Line.TheVariants as l
use Rattle.k_lex_forms.specs.Sources.{lines}

-- a line and a column
abbrev pub at : ℕ → ℕ → Place
at line column = record { line = line; column = column }

-- a token at its place
abbrev pub token_at : Place → Bool → List ℕ → Placed
token_at place spaced spelling = record { token = record { spelling = spelling; spaced = spaced }; place = place }

-- a fault of a token or of a directive's form
abbrev pub fault_at : Refusal → Place → Fault
fault_at what place = record { what = wrong.Lexical what; place = place }

-- a quote that nothing closes breaks its line only where it is read, and the next line is a directive (6.10.1p6)
abbrev pub OpenQuoteBreaksItsLine : Type 0
OpenQuoteBreaksItsLine = lines [] (codes "#ifdef A\nit's\n#endif") ≡
    l.Branch (at 1 1) None (b.Starts (t.AsksName true (codes "A")))
    ∷ l.Text (token_at (at 2 1) true (codes "it") ∷ [])
    ∷ l.Broken false (fault_at r.OpenLiteral (at 2 3))
    ∷ l.Branch (at 3 1) None b.Endif ∷ []

-- a macro with a parameter (6.10.3p10)
abbrev pub MacroHasParameter : Type 0
MacroHasParameter = lines [] (codes "#define F(x) -x") ≡
    l.Directive (at 1 1) None (d.Define (at 1 9) (record {
      name = codes "F";
      parameters = Some (codes "x" ∷ []);
      body = record { spaced = true; first = o.Token (codes "-"); more = [] } ∷ record { spaced = false; first = o.Parameter 0; more = [] } ∷ [];
    })) ∷ []

-- a comment that nothing closes is refused, whether the directive is read or not
abbrev pub OpenCommentIsRefused : Type 0
OpenCommentIsRefused = lines [] (codes "#error /*") ≡ l.Directive (at 1 1) None d.Error ∷ l.Broken true (fault_at r.OpenComment (at 1 8)) ∷ []

-- a directive of another name has not its form
abbrev pub OtherNameIsUnformed : Type 0
OtherNameIsUnformed = lines [] (codes "#line 1") ≡ l.Directive (at 1 1) (Some (fault_at r.BadDirective (at 1 1))) d.Nothing ∷ []
