-- For contracts between crates: nobody has to believe it.
-- How the code keeps the macros of headers.
use Rattle.std.specs.Prelude.{ℕ, List, map}
use Rattle.std.specs.Borrow.{Bor}
use Rattle.k_tree.specs.declared.tokens.TokenKind.{TokenKind}
use Rattle.k_tree.specs.declared.tokens.TokenKind.TheVariants as t
use Rattle.k_lex_macros.specs.declared.headers.Plain.{Plain}
use Rattle.k_lex_macros.specs.declared.headers.Part.{Part}
use Rattle.k_lex_macros.specs.declared.headers.Fixed.{Fixed}
use Rattle.k_lex_macros.specs.declared.headers.Fixed.TheVariants as f
use Rattle.k_lex_macros.specs.declared.macros.Lexeme.{Lexeme}
use Rattle.k_lex_macros.specs.Macros.{Macro, lexeme}

-- the macro that an entry of the code stands for
abbrev pub plain : Plain → Macro
plain p = (p.name, p.body)

-- what a part of a macro is, as a token
abbrev pub kind_of : Fixed → TokenKind
kind_of (f.Word w) = t.Word w
kind_of (f.Mark m) = t.Mark m
kind_of (f.Number k v) = t.Number k v

-- a part of a macro, as a token of its body
abbrev pub lexeme_of : Part → Lexeme
lexeme_of p = lexeme (kind_of p.what) p.size

-- a row of a table, as the macro that it gives
abbrev pub macro_of : Bor (List ℕ) × Bor (List Part) → Macro
macro_of row = (row.0.now, map lexeme_of row.1.now)
