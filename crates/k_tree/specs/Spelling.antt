-- Believed with the theorem on the top call.
-- Spelling: the tokens that a tree stands for, construct by construct (C17 6.5 to 6.9).
use Rattle.std.specs.Prelude.{ℕ, Bool, true, false, List, [], ◌∷◌, ◌++◌, map, Option, Some, None}
use Rattle.k_tree.specs.declared.tokens.TokenKind.{TokenKind}
use Rattle.k_tree.specs.declared.tokens.TokenKind.TheVariants as token
use Rattle.k_tree.specs.declared.tokens.mark.Mark.{Mark}
use Rattle.k_tree.specs.declared.tokens.mark.Mark.TheVariants as mark
use Rattle.k_tree.specs.declared.tokens.word.Word.{Word}
use Rattle.k_tree.specs.declared.tokens.word.Word.TheVariants as word
use Rattle.k_tree.specs.declared.tree.expression.Expr.{Expr, fold-Expr}
use Rattle.k_tree.specs.declared.tree.expression.Expr.TheOpen.{Expr-F}
use Rattle.k_tree.specs.declared.tree.declaration.Init.{Init, fold-Init}
use Rattle.k_tree.specs.declared.tree.declaration.Init.TheOpen.{Init-F}
use Rattle.k_tree.specs.declared.tree.declaration.Declarator.{Declarator}
use Rattle.k_tree.specs.declared.tree.declaration.Param.{Param}
use Rattle.k_tree.specs.declared.tree.declaration.Params.{Params}
use Rattle.k_tree.specs.declared.tree.declaration.Params.TheVariants as params
use Rattle.k_tree.specs.declared.tree.statement.First.{First}
use Rattle.k_tree.specs.declared.tree.statement.First.TheVariants as first
use Rattle.k_tree.specs.declared.tree.statement.Stmt.{Stmt, fold-Stmt}
use Rattle.k_tree.specs.declared.tree.statement.Part.TheOpen.{Part-F, Stmt-F}
use Rattle.k_tree.specs.declared.tree.statement.Part.{Part, fold-Part}
use Rattle.k_tree.specs.declared.tree.unit.Head.{Head}
use Rattle.k_tree.specs.declared.tree.unit.Item.{Item}
use Rattle.k_tree.specs.declared.tree.unit.Item.TheVariants as item
use Rattle.k_tree.specs.declared.tree.unit.Unit as source

-- tokens, in order
abbrev pub Spelled : Type 0
Spelled = List TokenKind

-- C17 6.4.6: a mark, as the one token
abbrev pub the_mark : Mark → Spelled
the_mark m = token.Mark m ∷ []

-- C17 6.4.1: a keyword, as the one token
abbrev pub the_word : Word → Spelled
the_word w = token.Word w ∷ []

-- C17 6.4.2: a name, as the one token
abbrev pub the_name : List ℕ → Spelled
the_name name = token.Name name ∷ []

-- C17 6.4.5: a string, as the one token
abbrev pub the_string : List ℕ → Spelled
the_string bytes = token.Str bytes ∷ []

-- pieces one behind another
abbrev pub in_row : List Spelled → Spelled
in_row [] = []
in_row (piece ∷ pieces) = piece ++ in_row pieces

-- pieces, each behind a comma
abbrev pub behind_commas : List Spelled → Spelled
behind_commas [] = []
behind_commas (piece ∷ pieces) = the_mark mark.Comma ++ (piece ++ behind_commas pieces)

-- pieces with commas between them
abbrev pub with_commas : List Spelled → Spelled
with_commas [] = []
with_commas (piece ∷ pieces) = piece ++ behind_commas pieces

-- a piece in parentheses
abbrev pub in_parens : Spelled → Spelled
in_parens piece = the_mark mark.LeftParen ++ (piece ++ the_mark mark.RightParen)

-- C17 6.7.2, 6.7.3: specifiers are keywords
abbrev pub spell_specs : List Word → Spelled
spell_specs specs = map token.Word specs

-- C17 6.7.6.1: a star, with `const` behind it or not
abbrev pub spell_star : Bool → Spelled
spell_star false = the_mark mark.Star
spell_star true = the_mark mark.Star ++ the_word word.Const

-- C17 6.7.6.1: the stars of a pointer
abbrev pub spell_stars : List Bool → Spelled
spell_stars stars = in_row (map spell_star stars)

-- C17 6.7.7: the name of a type
abbrev pub spell_type : List Word → List Bool → Spelled
spell_type specs stars = spell_specs specs ++ spell_stars stars

-- C17 6.5: an expression, whose parts are spelled
abbrev pub spell_expr_step : Expr-F Spelled → Spelled
spell_expr_step (Expr-F.Name place name) = the_name name
spell_expr_step (Expr-F.Number place kind value) = token.Number kind value ∷ []
spell_expr_step (Expr-F.Char place value) = token.Char value ∷ []
spell_expr_step (Expr-F.Str place bytes) = the_string bytes
spell_expr_step (Expr-F.Paren place inner) = in_parens inner
spell_expr_step (Expr-F.Index place base index) = base ++ (the_mark mark.LeftBracket ++ (index ++ the_mark mark.RightBracket))
spell_expr_step (Expr-F.Call place name args) = the_name name ++ in_parens (with_commas args)
spell_expr_step (Expr-F.Post place op operand) = operand ++ the_mark op
spell_expr_step (Expr-F.Pre place op operand) = the_mark op ++ operand
spell_expr_step (Expr-F.Unary place op operand) = the_mark op ++ operand
spell_expr_step (Expr-F.SizeofExpr place operand) = the_word word.Sizeof ++ operand
spell_expr_step (Expr-F.SizeofType place specs stars) = the_word word.Sizeof ++ in_parens (spell_type specs stars)
spell_expr_step (Expr-F.Cast place specs stars operand) = in_parens (spell_type specs stars) ++ operand
spell_expr_step (Expr-F.Binary place op left right) = left ++ (the_mark op ++ right)
spell_expr_step (Expr-F.Cond place test chosen other) =
    test ++ (the_mark mark.Question ++ (chosen ++ (the_mark mark.Colon ++ other)))
spell_expr_step (Expr-F.Assign place op left right) = left ++ (the_mark op ++ right)
spell_expr_step (Expr-F.Comma place left right) = left ++ (the_mark mark.Comma ++ right)

-- C17 6.5: an expression
abbrev pub spell_expr : Expr → Spelled
spell_expr = fold-Expr Spelled spell_expr_step

-- an expression that may be left out
abbrev pub spell_option : Option Expr → Spelled
spell_option None = []
spell_option (Some value) = spell_expr value

-- C17 6.7.6.2: a dimension, with or without its size
abbrev pub spell_dim : Option Expr → Spelled
spell_dim size = the_mark mark.LeftBracket ++ (spell_option size ++ the_mark mark.RightBracket)

-- C17 6.7.6.2: dimensions, one behind another
abbrev pub spell_dims : List (Option Expr) → Spelled
spell_dims dims = in_row (map spell_dim dims)

-- C17 6.7.9: the comma behind the last item of a list, or nothing
abbrev pub spell_last_comma : Bool → Spelled
spell_last_comma false = []
spell_last_comma true = the_mark mark.Comma

-- a piece in braces
abbrev pub in_braces : Spelled → Spelled
in_braces piece = the_mark mark.LeftBrace ++ (piece ++ the_mark mark.RightBrace)

-- C17 6.7.9: an initialiser, whose items are spelled
abbrev pub spell_init_step : Init-F Spelled → Spelled
spell_init_step (Init-F.One place value) = spell_expr value
spell_init_step (Init-F.List place items comma) = in_braces (with_commas items ++ spell_last_comma comma)

-- C17 6.7.9: an initialiser
abbrev pub spell_init : Init → Spelled
spell_init = fold-Init Spelled spell_init_step

-- C17 6.7: the initialiser of a declarator, if it has one
abbrev pub spell_initialised : Option Init → Spelled
spell_initialised None = []
spell_initialised (Some init) = the_mark mark.Equal ++ spell_init init

-- C17 6.7.6: a declarator with its initialiser
abbrev pub spell_declarator : Declarator → Spelled
spell_declarator d = spell_stars d.stars ++ (the_name d.name ++ (spell_dims d.dims ++ spell_initialised d.init))

-- C17 6.7: a declaration
abbrev pub spell_declaration : List Word → List Declarator → Spelled
spell_declaration specs list = spell_specs specs ++ (with_commas (map spell_declarator list) ++ the_mark mark.Semicolon)

-- a name that may be left out
abbrev pub spell_optional_name : Option (List ℕ) → Spelled
spell_optional_name None = []
spell_optional_name (Some name) = the_name name

-- C17 6.7.6.3: a parameter
abbrev pub spell_param : Param → Spelled
spell_param p = spell_specs p.specs ++ (spell_stars p.stars ++ (spell_optional_name p.name ++ spell_dims p.dims))

-- C17 6.7.6.3: what stands between the parentheses of a head
abbrev pub spell_params : Params → Spelled
spell_params params.Empty = []
spell_params params.Void = the_word word.Void
spell_params (params.List list) = with_commas (map spell_param list)

-- C17 6.7.6.3, 6.9.1: the head of a function
abbrev pub spell_head : Head → Spelled
spell_head h = spell_specs h.specs ++ (spell_stars h.stars ++ (the_name h.name ++ in_parens (spell_params h.params)))

-- C17 6.8.5.3: the first part of a `for`, with the semicolon behind it
abbrev pub spell_first : First → Spelled
spell_first first.Nothing = the_mark mark.Semicolon
spell_first (first.Value value) = spell_expr value ++ the_mark mark.Semicolon
spell_first (first.Declare specs list) = spell_declaration specs list

-- C17 6.8.5.3: the three parts of a `for`, in parentheses
abbrev pub spell_for : First → Option Expr → Option Expr → Spelled
spell_for start test step =
    in_parens (spell_first start ++ (spell_option test ++ (the_mark mark.Semicolon ++ spell_option step)))

-- C17 6.8.4.1: the `else` of an `if`, where there is one
abbrev pub spell_else : Option Spelled → Spelled
spell_else None = []
spell_else (Some other) = the_word word.Else ++ other

-- C17 6.8.5.2: a `do` loop, whose body is spelled
abbrev pub spell_do : Spelled → Expr → Spelled
spell_do body test =
    the_word word.Do ++ (body ++ (the_word word.While ++ (in_parens (spell_expr test) ++ the_mark mark.Semicolon)))

-- C17 6.8: a statement, whose statements are spelled
abbrev pub spell_stmt_step : Stmt-F Spelled Spelled → Spelled
spell_stmt_step (Stmt-F.Expr place value) = spell_expr value ++ the_mark mark.Semicolon
spell_stmt_step (Stmt-F.Empty place) = the_mark mark.Semicolon
spell_stmt_step (Stmt-F.Block place parts) = in_braces (in_row parts)
spell_stmt_step (Stmt-F.If place test chosen other) =
    the_word word.If ++ (in_parens (spell_expr test) ++ (chosen ++ spell_else other))
spell_stmt_step (Stmt-F.While place test body) = the_word word.While ++ (in_parens (spell_expr test) ++ body)
spell_stmt_step (Stmt-F.DoWhile place body test) =
    spell_do body test
spell_stmt_step (Stmt-F.For place start test step body) =
    the_word word.For ++ (spell_for start test step ++ body)
spell_stmt_step (Stmt-F.Switch place on parts) =
    the_word word.Switch ++ (in_parens (spell_expr on) ++ in_braces (in_row parts))
spell_stmt_step (Stmt-F.Break place) = the_word word.Break ++ the_mark mark.Semicolon
spell_stmt_step (Stmt-F.Continue place) = the_word word.Continue ++ the_mark mark.Semicolon
spell_stmt_step (Stmt-F.Return place value) = the_word word.Return ++ (spell_option value ++ the_mark mark.Semicolon)
spell_stmt_step (Stmt-F.Declare place specs list) = spell_declaration specs list

-- C17 6.8.1, 6.8.4.2: a part of a `switch`: a label, or a statement that is spelled
abbrev pub spell_part_step : Part-F Spelled Spelled → Spelled
spell_part_step (Part-F.Case place value) = the_word word.Case ++ (spell_expr value ++ the_mark mark.Colon)
spell_part_step (Part-F.Default place) = the_word word.Default ++ the_mark mark.Colon
spell_part_step (Part-F.Does place body) = body

-- C17 6.8: a statement
abbrev pub spell_stmt : Stmt → Spelled
spell_stmt = fold-Stmt Spelled Spelled spell_part_step spell_stmt_step

-- C17 6.8.4.2: a part of a `switch`
abbrev pub spell_part : Part → Spelled
spell_part = fold-Part Spelled Spelled spell_part_step spell_stmt_step

-- C17 6.8.4.2: the parts of a `switch` in a row
abbrev pub spell_switched : List Part → Spelled
spell_switched parts = in_row (map spell_part parts)

-- C17 6.8.2: statements in a row
abbrev pub spell_stmts : List Stmt → Spelled
spell_stmts parts = in_row (map spell_stmt parts)

-- C17 6.9: an item
abbrev pub spell_item : Item → Spelled
spell_item (item.Function place head body close) = spell_head head ++ in_braces (spell_stmts body)
spell_item (item.Prototype place head) = spell_head head ++ the_mark mark.Semicolon
spell_item (item.Objects place specs list) = spell_declaration specs list

-- C17 6.9: a source, with its end
abbrev pub spelling : source.Unit → Spelled
spelling unit = in_row (map spell_item unit.items) ++ (token.End ∷ [])
