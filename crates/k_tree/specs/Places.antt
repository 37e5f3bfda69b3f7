-- Believed with the theorem on the top call.
-- Places: at which token of its spelling each node of a tree stands (C17 6.5 to 6.9 for the spelling).
use Rattle.std.specs.Prelude.{◌≡◌, List, [], ◌∷◌, ◌++◌, map, Option, Some, None, All}
use Rattle.k_num.specs.declared.place.Place.{Place}
use Rattle.k_tree.specs.declared.tokens.TokenKind.{TokenKind}
use Rattle.k_tree.specs.declared.tokens.TokenKind.TheVariants as token
use Rattle.k_tree.specs.declared.tokens.Token.{Token}
use Rattle.k_tree.specs.declared.tokens.mark.Mark.TheVariants as mark
use Rattle.k_tree.specs.declared.tokens.word.Word.{Word}
use Rattle.k_tree.specs.declared.tokens.word.Word.TheVariants as word
use Rattle.k_tree.specs.declared.tree.expression.Expr.{Expr, fold-Expr}
use Rattle.k_tree.specs.declared.tree.expression.Expr.TheOpen.{Expr-F}
use Rattle.k_tree.specs.declared.tree.declaration.Init.{Init, fold-Init}
use Rattle.k_tree.specs.declared.tree.declaration.Init.TheOpen.{Init-F}
use Rattle.k_tree.specs.declared.tree.declaration.Declarator.{Declarator}
use Rattle.k_tree.specs.declared.tree.declaration.Param.{Param}
use Rattle.k_tree.specs.declared.tree.declaration.Params.{Params}
use Rattle.k_tree.specs.declared.tree.declaration.Params.TheVariants as params
use Rattle.k_tree.specs.declared.tree.statement.First.{First}
use Rattle.k_tree.specs.declared.tree.statement.First.TheVariants as first
use Rattle.k_tree.specs.declared.tree.statement.Stmt.{Stmt, fold-Stmt}
use Rattle.k_tree.specs.declared.tree.statement.Part.TheOpen.{Part-F, Stmt-F}
use Rattle.k_tree.specs.declared.tree.statement.Part.{Part, fold-Part}
use Rattle.k_tree.specs.declared.tree.unit.Head.{Head}
use Rattle.k_tree.specs.declared.tree.unit.Item.{Item}
use Rattle.k_tree.specs.declared.tree.unit.Item.TheVariants as item
use Rattle.k_tree.specs.declared.tree.unit.Unit as source
use Rattle.k_tree.specs.Spelling.{Spelled, the_mark, the_word, the_name, the_string, spell_specs, spell_stars, spell_type, in_parens, spell_last_comma, spell_optional_name}

-- a token of a spelling, and the places of the nodes that stand at it
pub record Piece : Type 0 where
  pub what : TokenKind
  pub places : List Place

-- the tokens of a spelling in order, with the places at each
abbrev pub Pieces : Type 0
Pieces = List Piece

-- tokens at which no node stands
abbrev pub plain : Spelled → Pieces
plain tokens = map (λ t. record { what = t; places = [] }) tokens

-- a node stands at the first token of these
abbrev pub at : Place → Pieces → Pieces
at place [] = []
at place (piece ∷ pieces) = record { what = piece.what; places = place ∷ piece.places } ∷ pieces

-- pieces one behind another
abbrev pub lay_row : List Pieces → Pieces
lay_row [] = []
lay_row (piece ∷ pieces) = piece ++ lay_row pieces

-- pieces, each behind a comma
abbrev pub lay_behind_commas : List Pieces → Pieces
lay_behind_commas [] = []
lay_behind_commas (piece ∷ pieces) = plain (the_mark mark.Comma) ++ (piece ++ lay_behind_commas pieces)

-- pieces with commas between them
abbrev pub lay_with_commas : List Pieces → Pieces
lay_with_commas [] = []
lay_with_commas (piece ∷ pieces) = piece ++ lay_behind_commas pieces

-- pieces in parentheses
abbrev pub lay_in_parens : Pieces → Pieces
lay_in_parens piece = plain (the_mark mark.LeftParen) ++ (piece ++ plain (the_mark mark.RightParen))

-- pieces in braces
abbrev pub lay_in_braces : Pieces → Pieces
lay_in_braces piece = plain (the_mark mark.LeftBrace) ++ (piece ++ plain (the_mark mark.RightBrace))

-- C17 6.5: an index stands at its `[`, a call at its name, an operator behind an operand at itself, all else at its first token
abbrev pub lay_expr_step : Expr-F Pieces → Pieces
lay_expr_step (Expr-F.Name place name) = at place (plain (the_name name))
lay_expr_step (Expr-F.Number place kind value) = at place (plain (token.Number kind value ∷ []))
lay_expr_step (Expr-F.Char place value) = at place (plain (token.Char value ∷ []))
lay_expr_step (Expr-F.Str place bytes) = at place (plain (the_string bytes))
lay_expr_step (Expr-F.Paren place inner) = at place (lay_in_parens inner)
lay_expr_step (Expr-F.Index place base index) =
    base ++ (at place (plain (the_mark mark.LeftBracket)) ++ (index ++ plain (the_mark mark.RightBracket)))
lay_expr_step (Expr-F.Call place name args) = at place (plain (the_name name)) ++ lay_in_parens (lay_with_commas args)
lay_expr_step (Expr-F.Post place op operand) = operand ++ at place (plain (the_mark op))
lay_expr_step (Expr-F.Pre place op operand) = at place (plain (the_mark op)) ++ operand
lay_expr_step (Expr-F.Unary place op operand) = at place (plain (the_mark op)) ++ operand
lay_expr_step (Expr-F.SizeofExpr place operand) = at place (plain (the_word word.Sizeof)) ++ operand
lay_expr_step (Expr-F.SizeofType place specs stars) =
    at place (plain (the_word word.Sizeof)) ++ plain (in_parens (spell_type specs stars))
lay_expr_step (Expr-F.Cast place specs stars operand) = at place (plain (in_parens (spell_type specs stars))) ++ operand
lay_expr_step (Expr-F.Binary place op left right) = left ++ (at place (plain (the_mark op)) ++ right)
lay_expr_step (Expr-F.Cond place test chosen other) =
    test ++ (at place (plain (the_mark mark.Question)) ++ (chosen ++ (plain (the_mark mark.Colon) ++ other)))
lay_expr_step (Expr-F.Assign place op left right) = left ++ (at place (plain (the_mark op)) ++ right)
lay_expr_step (Expr-F.Comma place left right) = left ++ (at place (plain (the_mark mark.Comma)) ++ right)

-- C17 6.5: the tokens of an expression, with the places of the expressions in it
abbrev pub lay_expr : Expr → Pieces
lay_expr = fold-Expr Pieces lay_expr_step

-- the pieces of an expression that may be left out
abbrev pub lay_option : Option Expr → Pieces
lay_option None = []
lay_option (Some value) = lay_expr value

-- C17 6.7.6.2: the pieces of a dimension, with or without its size
abbrev pub lay_dim : Option Expr → Pieces
lay_dim size = plain (the_mark mark.LeftBracket) ++ (lay_option size ++ plain (the_mark mark.RightBracket))

-- C17 6.7.6.2: the pieces of dimensions
abbrev pub lay_dims : List (Option Expr) → Pieces
lay_dims dims = lay_row (map lay_dim dims)

-- C17 6.7.9: an initialiser stands at its first token
abbrev pub lay_init_step : Init-F Pieces → Pieces
lay_init_step (Init-F.One place value) = at place (lay_expr value)
lay_init_step (Init-F.List place items comma) = at place (lay_in_braces (lay_with_commas items ++ plain (spell_last_comma comma)))

-- C17 6.7.9: the tokens of an initialiser, with the places of the nodes in it
abbrev pub lay_init : Init → Pieces
lay_init = fold-Init Pieces lay_init_step

-- C17 6.7: the pieces of the initialiser of a declarator, with the `=` before it, if it has one
abbrev pub lay_initialised : Option Init → Pieces
lay_initialised None = []
lay_initialised (Some init) = plain (the_mark mark.Equal) ++ lay_init init

-- C17 6.7.6: a declarator stands at its name
abbrev pub lay_declarator : Declarator → Pieces
lay_declarator d = plain (spell_stars d.stars) ++ (at d.place (plain (the_name d.name)) ++ (lay_dims d.dims ++ lay_initialised d.init))

-- C17 6.7: the pieces of a declaration, whose declarators have their places
abbrev pub lay_declaration : List Word → List Declarator → Pieces
lay_declaration specs list =
    plain (spell_specs specs) ++ (lay_with_commas (map lay_declarator list) ++ plain (the_mark mark.Semicolon))

-- C17 6.7.6.3: a parameter stands at its first token
abbrev pub lay_param : Param → Pieces
lay_param p =
    at p.place (plain (spell_specs p.specs) ++ (plain (spell_stars p.stars) ++ (plain (spell_optional_name p.name) ++ lay_dims p.dims)))

-- C17 6.7.6.3: the pieces between the parentheses of a head
abbrev pub lay_params : Params → Pieces
lay_params params.Empty = []
lay_params params.Void = plain (the_word word.Void)
lay_params (params.List list) = lay_with_commas (map lay_param list)

-- C17 6.7.6.3, 6.9.1: a head keeps the place of its name
abbrev pub lay_head : Head → Pieces
lay_head h =
    plain (spell_specs h.specs)
    ++ (plain (spell_stars h.stars) ++ (at h.name_place (plain (the_name h.name)) ++ lay_in_parens (lay_params h.params)))

-- C17 6.8.5.3: the pieces of the first part of a `for`, with the semicolon behind it
abbrev pub lay_first : First → Pieces
lay_first first.Nothing = plain (the_mark mark.Semicolon)
lay_first (first.Value value) = lay_expr value ++ plain (the_mark mark.Semicolon)
lay_first (first.Declare specs list) = lay_declaration specs list

-- C17 6.8.5.3: the pieces of the three parts of a `for`, in parentheses
abbrev pub lay_for : First → Option Expr → Option Expr → Pieces
lay_for start test step =
    lay_in_parens (lay_first start ++ (lay_option test ++ (plain (the_mark mark.Semicolon) ++ lay_option step)))

-- C17 6.8.4.1: the pieces of the `else` of an `if`, where there is one
abbrev pub lay_else : Option Pieces → Pieces
lay_else None = []
lay_else (Some other) = plain (the_word word.Else) ++ other

-- C17 6.8: a statement stands at its first token
abbrev pub lay_stmt_step : Stmt-F Pieces Pieces → Pieces
lay_stmt_step (Stmt-F.Expr place value) = at place (lay_expr value ++ plain (the_mark mark.Semicolon))
lay_stmt_step (Stmt-F.Empty place) = at place (plain (the_mark mark.Semicolon))
lay_stmt_step (Stmt-F.Block place parts) = at place (lay_in_braces (lay_row parts))
lay_stmt_step (Stmt-F.If place test chosen other) =
    at place (plain (the_word word.If)) ++ (lay_in_parens (lay_expr test) ++ (chosen ++ lay_else other))
lay_stmt_step (Stmt-F.While place test body) =
    at place (plain (the_word word.While)) ++ (lay_in_parens (lay_expr test) ++ body)
lay_stmt_step (Stmt-F.DoWhile place body test) =
    at place (plain (the_word word.Do))
    ++ (body ++ (plain (the_word word.While) ++ (lay_in_parens (lay_expr test) ++ plain (the_mark mark.Semicolon))))
lay_stmt_step (Stmt-F.For place start test step body) =
    at place (plain (the_word word.For)) ++ (lay_for start test step ++ body)
lay_stmt_step (Stmt-F.Switch place on parts) =
    at place (plain (the_word word.Switch)) ++ (lay_in_parens (lay_expr on) ++ lay_in_braces (lay_row parts))
lay_stmt_step (Stmt-F.Break place) = at place (plain (the_word word.Break)) ++ plain (the_mark mark.Semicolon)
lay_stmt_step (Stmt-F.Continue place) = at place (plain (the_word word.Continue)) ++ plain (the_mark mark.Semicolon)
lay_stmt_step (Stmt-F.Return place value) =
    at place (plain (the_word word.Return)) ++ (lay_option value ++ plain (the_mark mark.Semicolon))
lay_stmt_step (Stmt-F.Declare place specs list) = at place (lay_declaration specs list)

-- C17 6.8.1, 6.8.4.2: a part of a `switch` stands at its first token
abbrev pub lay_part_step : Part-F Pieces Pieces → Pieces
lay_part_step (Part-F.Case place value) =
    at place (plain (the_word word.Case)) ++ (lay_expr value ++ plain (the_mark mark.Colon))
lay_part_step (Part-F.Default place) = at place (plain (the_word word.Default)) ++ plain (the_mark mark.Colon)
lay_part_step (Part-F.Does place body) = at place body

-- C17 6.8: the tokens of a statement, with the places of the nodes in it
abbrev pub lay_stmt : Stmt → Pieces
lay_stmt = fold-Stmt Pieces Pieces lay_part_step lay_stmt_step

-- C17 6.8.4.2: the tokens of a part of a `switch`, with the places of the nodes in it
abbrev pub lay_part : Part → Pieces
lay_part = fold-Part Pieces Pieces lay_part_step lay_stmt_step

-- C17 6.8.4.2: the pieces of the parts of a `switch`
abbrev pub lay_switched : List Part → Pieces
lay_switched parts = lay_row (map lay_part parts)

-- C17 6.8.2: the pieces of the statements and declarations of a block
abbrev pub lay_stmts : List Stmt → Pieces
lay_stmts parts = lay_row (map lay_stmt parts)

-- C17 6.8: the place that a statement keeps
abbrev pub stmt_place_step : Stmt-F (Unit {0}) Place → Place
stmt_place_step (Stmt-F.Expr place value) = place
stmt_place_step (Stmt-F.Empty place) = place
stmt_place_step (Stmt-F.Block place parts) = place
stmt_place_step (Stmt-F.If place test chosen other) = place
stmt_place_step (Stmt-F.While place test body) = place
stmt_place_step (Stmt-F.DoWhile place body test) = place
stmt_place_step (Stmt-F.For place start test step body) = place
stmt_place_step (Stmt-F.Switch place on parts) = place
stmt_place_step (Stmt-F.Break place) = place
stmt_place_step (Stmt-F.Continue place) = place
stmt_place_step (Stmt-F.Return place value) = place
stmt_place_step (Stmt-F.Declare place specs list) = place

-- C17 6.8.4.2: nothing is asked of a part of a `switch`
abbrev pub part_place_step : Part-F (Unit {0}) Place → Unit {0}
part_place_step _ = tt

-- C17 6.8: the place of a statement, where its first token stands
abbrev pub stmt_place : Stmt → Place
stmt_place = fold-Stmt (Unit {0}) Place part_place_step stmt_place_step

-- C17 6.9: an item stands at its first token, and a function keeps the place of its closing brace
abbrev pub lay_item : Item → Pieces
lay_item (item.Function place head body close) =
    at place (lay_head head)
    ++ (plain (the_mark mark.LeftBrace) ++ (lay_stmts body ++ at close (plain (the_mark mark.RightBrace))))
lay_item (item.Prototype place head) = at place (lay_head head) ++ plain (the_mark mark.Semicolon)
lay_item (item.Objects place specs list) = at place (lay_declaration specs list)

-- C17 6.9: a source keeps the place of its end
abbrev pub lay_unit : source.Unit → Pieces
lay_unit unit = lay_row (map lay_item unit.items) ++ at unit.end (plain (token.End ∷ []))

-- the tokens are the pieces in order, and every node has the place of the token at which it stands
abbrev pub Stand : Pieces → List Token → Type 0
Stand [] [] = Unit {0}
Stand (piece ∷ pieces) (t ∷ tokens) = (t.what ≡ piece.what) × All (λ place. place ≡ t.place) piece.places × Stand pieces tokens
Stand [] (t ∷ tokens) = ⊥
Stand (piece ∷ pieces) [] = ⊥

-- C17 6.9: these tokens are the source's, and every node of it has the place of its token
abbrev pub Placed : source.Unit → List Token → Type 0
Placed unit tokens = Stand (lay_unit unit) tokens

-- the tokens of pieces, without places
abbrev pub kinds_of : Pieces → Spelled
kinds_of pieces = map (λ piece. piece.what) pieces
