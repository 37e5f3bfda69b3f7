-- Believed with the theorem on the top call.
-- The keywords (C17 6.4.1).
use Rattle.std.specs.Prelude.{ℕ, List, [], ◌∷◌, Option, codes}
use Rattle.std.specs.Borrow.{Bor}
use Rattle.k_lex_pieces.specs.Bytes.{look_up}
use Rattle.k_tree.specs.declared.tokens.word.Word.{Word}
use Rattle.k_tree.specs.declared.tokens.word.Word.TheVariants as w

-- the keywords, each with its spelling
abbrev pub words : List (List ℕ × Word)
words =
    (codes "auto", w.Auto) ∷
    (codes "break", w.Break) ∷
    (codes "case", w.Case) ∷
    (codes "char", w.Char) ∷
    (codes "const", w.Const) ∷
    (codes "continue", w.Continue) ∷
    (codes "default", w.Default) ∷
    (codes "do", w.Do) ∷
    (codes "double", w.Double) ∷
    (codes "else", w.Else) ∷
    (codes "enum", w.Enum) ∷
    (codes "extern", w.Extern) ∷
    (codes "float", w.Float) ∷
    (codes "for", w.For) ∷
    (codes "goto", w.Goto) ∷
    (codes "if", w.If) ∷
    (codes "inline", w.Inline) ∷
    (codes "int", w.Int) ∷
    (codes "long", w.Long) ∷
    (codes "register", w.Register) ∷
    (codes "restrict", w.Restrict) ∷
    (codes "return", w.Return) ∷
    (codes "short", w.Short) ∷
    (codes "signed", w.Signed) ∷
    (codes "sizeof", w.Sizeof) ∷
    (codes "static", w.Static) ∷
    (codes "struct", w.Struct) ∷
    (codes "switch", w.Switch) ∷
    (codes "typedef", w.Typedef) ∷
    (codes "union", w.Union) ∷
    (codes "unsigned", w.Unsigned) ∷
    (codes "void", w.Void) ∷
    (codes "volatile", w.Volatile) ∷
    (codes "while", w.While) ∷
    (codes "_Alignas", w.Alignas) ∷
    (codes "_Alignof", w.Alignof) ∷
    (codes "_Atomic", w.Atomic) ∷
    (codes "_Bool", w.Bool) ∷
    (codes "_Complex", w.Complex) ∷
    (codes "_Generic", w.Generic) ∷
    (codes "_Imaginary", w.Imaginary) ∷
    (codes "_Noreturn", w.Noreturn) ∷
    (codes "_Static_assert", w.StaticAssert) ∷
    (codes "_Thread_local", w.ThreadLocal) ∷
    []

-- the keyword of this spelling
abbrev pub word_of : List ℕ → Option Word
word_of s = look_up words s

-- a row of the code's table
abbrev pub row : Bor (List ℕ) × Word → List ℕ × Word
row r = (r.0.now, r.1)
