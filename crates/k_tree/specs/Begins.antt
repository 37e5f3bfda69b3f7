-- Believed with a public law.
-- The tokens that can begin an expression, a statement and a part of a block.
use Rattle.std.specs.Prelude.{Bool, true, false, ◌||◌, IsTrue, List, [], ◌∷◌}
use Rattle.k_tree.specs.declared.tokens.TokenKind.{TokenKind}
use Rattle.k_tree.specs.declared.tokens.TokenKind.TheVariants as token
use Rattle.k_tree.specs.declared.tokens.mark.Mark.{Mark}
use Rattle.k_tree.specs.declared.tokens.mark.Mark.TheVariants as mark
use Rattle.k_tree.specs.declared.tokens.word.Word.{Word}
use Rattle.k_tree.specs.declared.tokens.word.Word.TheVariants as word
use Rattle.k_tree.specs.Ranked.{is_spec, is_step, is_unary}

-- C17 6.5.1: `(`, which begins an expression in parentheses or a cast
abbrev pub is_open_paren : Mark → Bool
is_open_paren mark.LeftParen = true
is_open_paren _ = false

-- C17 6.5.3.4: the keyword `sizeof`, the only one that begins an expression
abbrev pub is_sizeof : Word → Bool
is_sizeof word.Sizeof = true
is_sizeof _ = false

-- C17 6.5: a name, a constant, a string, `(`, an operator before an operand, or `sizeof`
abbrev pub begins_expr : TokenKind → Bool
begins_expr (token.Name name) = true
begins_expr (token.Word w) = is_sizeof w
begins_expr (token.Number kind value) = true
begins_expr (token.Char value) = true
begins_expr (token.Str bytes) = true
begins_expr (token.Mark m) = is_open_paren m || (is_step m || is_unary m)
begins_expr token.End = false

-- C17 6.8: the keywords that begin a statement
abbrev pub is_stmt_word : Word → Bool
is_stmt_word word.If = true
is_stmt_word word.While = true
is_stmt_word word.Do = true
is_stmt_word word.For = true
is_stmt_word word.Switch = true
is_stmt_word word.Break = true
is_stmt_word word.Continue = true
is_stmt_word word.Return = true
is_stmt_word _ = false

-- C17 6.8.2, 6.8.3: `{` and `;`, the marks that begin a block and the empty statement
abbrev pub is_stmt_mark : Mark → Bool
is_stmt_mark mark.Semicolon = true
is_stmt_mark mark.LeftBrace = true
is_stmt_mark _ = false

-- C17 6.8: what begins an expression, `;`, `{`, or a keyword of a statement
abbrev pub begins_stmt : TokenKind → Bool
begins_stmt (token.Name name) = true
begins_stmt (token.Word w) = is_sizeof w || is_stmt_word w
begins_stmt (token.Number kind value) = true
begins_stmt (token.Char value) = true
begins_stmt (token.Str bytes) = true
begins_stmt (token.Mark m) = (is_open_paren m || (is_step m || is_unary m)) || is_stmt_mark m
begins_stmt token.End = false

-- C17 6.7: a declaration begins with a specifier
abbrev pub begins_declaration : TokenKind → Bool
begins_declaration (token.Word w) = is_spec w
begins_declaration _ = false

-- there is a first token, and it passes the test
abbrev pub Begins : (TokenKind → Bool) → List TokenKind → Type 0
Begins test [] = ⊥
Begins test (t ∷ tokens) = IsTrue (test t)
