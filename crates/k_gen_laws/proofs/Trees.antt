-- The trees of made programs, by their loops and lines: they are ranked, they stand at their tokens, and they are small.
use Rattle.std.proofs.Common.{◌≡◌, ℕ, zero, suc, ◌+◌, List, [], ◌∷◌, ◌++◌, Option, Some, None, length, refl}
use Rattle.std.specs.Prelude.{codes, replicate}
use Rattle.std.proofs.lemmas.List.Elements.{All-replicate}
use Rattle.k_num.specs.declared.place.Place.{Place}
use Rattle.k_num.specs.declared.numbers.Kind.TheVariants.{I32}
use Rattle.k_tree.specs.declared.tokens.Token.{Token}
use Rattle.k_tree.specs.declared.tokens.TokenKind.{TokenKind}
use Rattle.k_tree.specs.declared.tokens.TokenKind.TheVariants as t
use Rattle.k_tree.specs.declared.tokens.mark.Mark.{Mark}
use Rattle.k_tree.specs.declared.tokens.mark.Mark.TheVariants as mark
use Rattle.k_tree.specs.declared.tokens.word.Word.{Word}
use Rattle.k_tree.specs.declared.tokens.word.Word.TheVariants as word
use Rattle.k_tree.specs.declared.tree.expression.Expr.{Expr}
use Rattle.k_tree.specs.declared.tree.expression.Expr.TheVariants as expr
use Rattle.k_tree.specs.declared.tree.declaration.Declarator.{Declarator}
use Rattle.k_tree.specs.declared.tree.declaration.Init.{Init}
use Rattle.k_tree.specs.declared.tree.declaration.Init.TheVariants as init
use Rattle.k_tree.specs.declared.tree.declaration.Params.TheVariants as params
use Rattle.k_tree.specs.declared.tree.statement.First.TheVariants as first
use Rattle.k_tree.specs.declared.tree.statement.Stmt.{Stmt}
use Rattle.k_tree.specs.declared.tree.statement.Stmt.TheVariants as stmt
use Rattle.k_tree.specs.declared.tree.unit.Head.{Head}
use Rattle.k_tree.specs.declared.tree.unit.Item.{Item}
use Rattle.k_tree.specs.declared.tree.unit.Item.TheVariants as item
use Rattle.k_tree.specs.declared.tree.unit.Unit as source
use Rattle.k_tree.specs.Places.{Pieces, Stand, lay_item, lay_stmt}
use Rattle.k_tree.proofs.Folds.{folds}

-- a place
abbrev pub at : ℕ → ℕ → Place
at line column = record { line = line; column = column }

-- ---- trees

-- a variable, or the array
abbrev pub var : List ℕ → ℕ → ℕ → Expr
var x line column = expr.Name (at line column) x

-- an int
abbrev pub lit : ℕ → ℕ → ℕ → Expr
lit n line column = expr.Number (at line column) I32 n

-- an element of the array, at an expression
abbrev pub element : ℕ → ℕ → Expr → Expr
element line column index = expr.Index (at line (column + 1)) (var (codes "a") line column) index

-- the element of number i
abbrev pub cell : ℕ → ℕ → Expr
cell line column = element line column (var (codes "i") line (column + 2))

-- a loop of a variable from a number up to a bound, which is written in so many bytes, with its body
abbrev pub loop : ℕ → ℕ → List ℕ → ℕ → ℕ → ℕ → Stmt → Stmt
loop line column x start bound width body =
    stmt.For (at line column)
    (first.Value (expr.Assign (at line (column + 5)) mark.Equal (var x line (column + 4)) (lit start line (column + 6))))
    (Some (expr.Binary (at line (column + 9)) mark.Less (var x line (column + 8)) (lit bound line (column + 10))))
    (Some (expr.Post (at line (column + 12 + width)) mark.PlusPlus (var x line (column + 11 + width))))
    body

-- `a[i]=` a value in the remainder by a number
abbrev pub store : ℕ → ℕ → Expr → ℕ → ℕ → Stmt
store line at_percent value bound column =
    stmt.Expr (at line 19) (expr.Assign (at line 23) mark.Equal (cell line 19)
    (expr.Binary (at line at_percent) mark.Percent value (lit bound line column)))

-- `a[i]*D+i`
abbrev pub product : ℕ → ℕ → Expr
product line d =
    expr.Binary (at line 31) mark.Plus (expr.Binary (at line 29) mark.Star (cell line 25) (lit d line 30)) (var (codes "i") line 32)

-- `a[i-1]+a[i]+D`
abbrev pub neighbours : ℕ → ℕ → Expr
neighbours line d =
    expr.Binary (at line 36) mark.Plus
    (expr.Binary (at line 31) mark.Plus
    (element line 25 (expr.Binary (at line 28) mark.Minus (var (codes "i") line 27) (lit 1 line 29)))
    (cell line 32))
    (lit d line 37)

-- `s+=a[i]&D;`
abbrev pub add_bits : ℕ → ℕ → Stmt
add_bits line d =
    stmt.Expr (at line 36) (expr.Assign (at line 37) mark.PlusEqual (var (codes "s") line 36)
    (expr.Binary (at line 43) mark.Ampersand (cell line 39) (lit d line 44)))

-- the loop of a form with a number, on a line
abbrev pub loop_of : ℕ → ℕ → ℕ → Stmt
loop_of zero d line = loop line 1 (codes "i") 0 64 2 (store line 34 (expr.Paren (at line 24) (product line d)) 1000 35)
loop_of (suc zero) d line = loop line 1 (codes "i") 1 64 2 (store line 39 (expr.Paren (at line 24) (neighbours line d)) 1000 40)
loop_of (suc (suc form)) d line = loop line 1 (codes "j") 0 8 1 (loop line 18 (codes "i") 0 64 2 (add_bits line d))

-- the loop that fills the array
abbrev pub filling : Stmt
filling = loop 6 1 (codes "i") 0 64 2 (store 6 25 (var (codes "i") 6 24) 10 26)

-- the loops of these forms and numbers, from a line on
abbrev pub loops_from : ℕ → List (ℕ × ℕ) → List Stmt
loops_from line [] = []
loops_from line (x ∷ xs) = loop_of x.0 x.1 line ∷ loops_from (line + 1) xs

-- a declarator without sizes
abbrev pub simple_declarator : List ℕ → ℕ → Option Init → Declarator
simple_declarator x column start = record { place = at 5 column; stars = []; name = x; dims = []; init = start }

abbrev pub declaring : Stmt
declaring =
    stmt.Declare (at 5 1) (word.Int ∷ [])
    (simple_declarator (codes "i") 5 None ∷ simple_declarator (codes "j") 7 None ∷ simple_declarator (codes "s") 9 (Some (init.One (at 5 11) (lit 0 5 11))) ∷ [])

abbrev pub printing : ℕ → Stmt
printing line = stmt.Expr (at line 1) (expr.Call (at line 1) (codes "printf") (expr.Str (at line 8) (37 ∷ 100 ∷ 10 ∷ []) ∷ var (codes "s") line 15 ∷ []))

abbrev pub returning : ℕ → Stmt
returning line = stmt.Return (at line 1) (Some (lit 0 line 8))

-- the statements of main, where the loops end before a line
abbrev pub body_of : List Stmt → ℕ → List Stmt
body_of loops line = declaring ∷ filling ∷ (loops ++ printing line ∷ returning (line + 1) ∷ [])

abbrev pub array_item : Item
array_item =
    item.Objects (at 2 1) (word.Int ∷ [])
    (record { place = at 2 5; stars = []; name = codes "a"; dims = Some (lit 64 2 7) ∷ []; init = None } ∷ [])

abbrev pub main_head : Head
main_head = record { specs = word.Int ∷ []; stars = []; name = codes "main"; name_place = at 3 5; params = params.Void }

-- the tree of a program of these loops
abbrev pub unit_of : List (ℕ × ℕ) → source.Unit
unit_of xs =
    let line = 7 + length xs in
    record {
      items = array_item ∷ item.Function (at 3 1) main_head (body_of (loops_from 7 xs) line) (at (line + 1 + 1) 1) ∷ [];
      end = at (line + 1 + 1 + 1) 1;
    }

-- ---- tokens

-- a token of a line: what it is, its column, and how many nodes stand at it
pub record Row : Type 0 where
  pub what : TokenKind
  pub column : ℕ
  pub count : ℕ

abbrev pub row : TokenKind → ℕ → ℕ → Row
row what column count = record { what = what; column = column; count = count }

abbrev pub mark_row : Mark → ℕ → ℕ → Row
mark_row m column count = row (t.Mark m) column count

abbrev pub name_row : List ℕ → ℕ → ℕ → Row
name_row x column count = row (t.Name x) column count

abbrev pub word_row : Word → ℕ → ℕ → Row
word_row w column count = row (t.Word w) column count

abbrev pub number_row : ℕ → ℕ → Row
number_row n column = row (t.Number I32 n) column 1

-- the tokens of rows on a line
abbrev pub tokens_of : ℕ → List Row → List Token
tokens_of line [] = []
tokens_of line (x ∷ xs) = record { what = x.what; place = at line x.column } ∷ tokens_of line xs

-- their pieces
abbrev pub pieces_of : ℕ → List Row → Pieces
pieces_of line [] = []
pieces_of line (x ∷ xs) = record { what = x.what; places = replicate x.count (at line x.column) } ∷ pieces_of line xs

-- rows stand at their tokens
pub rows_stand : (line : ℕ) (xs : List Row) → Stand (pieces_of line xs) (tokens_of line xs)
rows_stand line [] = tt
rows_stand line (x ∷ xs) = (refl, All-replicate (λ (place : Place). place ≡ at line x.column) x.count (at line x.column) refl, rows_stand line xs)

-- what stands one behind the other
pub stand_append : (ps qs : Pieces) (ts us : List Token) → Stand ps ts → Stand qs us → Stand (ps ++ qs) (ts ++ us)
stand_append [] qs [] us a b = b
stand_append [] qs (t ∷ ts) us a b = absurd a
stand_append (p ∷ ps) qs [] us a b = absurd a
stand_append (p ∷ ps) qs (t ∷ ts) us (what, places, rest) b = (what, places, stand_append ps qs ts us rest b)

-- the tokens of the head of a loop
abbrev pub loop_rows : ℕ → List ℕ → ℕ → ℕ → ℕ → List Row
loop_rows column x start bound width =
    word_row word.For column 1 ∷ mark_row mark.LeftParen (column + 3) 0 ∷ name_row x (column + 4) 1 ∷ mark_row mark.Equal (column + 5) 1
    ∷ number_row start (column + 6) ∷ mark_row mark.Semicolon (column + 7) 0 ∷ name_row x (column + 8) 1 ∷ mark_row mark.Less (column + 9) 1
    ∷ number_row bound (column + 10) ∷ mark_row mark.Semicolon (column + 10 + width) 0 ∷ name_row x (column + 11 + width) 1
    ∷ mark_row mark.PlusPlus (column + 12 + width) 1 ∷ mark_row mark.RightParen (column + 14 + width) 0 ∷ []

-- those of an element, at the start of a statement or not
abbrev pub cell_rows : ℕ → ℕ → List Row
cell_rows column count =
    name_row (codes "a") column count ∷ mark_row mark.LeftBracket (column + 1) 1 ∷ name_row (codes "i") (column + 2) 1
    ∷ mark_row mark.RightBracket (column + 3) 0 ∷ []

abbrev pub product_rows : ℕ → List Row
product_rows d =
    cell_rows 25 1 ++ (mark_row mark.Star 29 1 ∷ number_row d 30 ∷ mark_row mark.Plus 31 1 ∷ name_row (codes "i") 32 1 ∷ [])

abbrev pub neighbours_rows : ℕ → List Row
neighbours_rows d =
    name_row (codes "a") 25 1 ∷ mark_row mark.LeftBracket 26 1 ∷ name_row (codes "i") 27 1 ∷ mark_row mark.Minus 28 1 ∷ number_row 1 29
    ∷ mark_row mark.RightBracket 30 0 ∷ mark_row mark.Plus 31 1 ∷ (cell_rows 32 1 ++ (mark_row mark.Plus 36 1 ∷ number_row d 37 ∷ []))

-- those of a value in parentheses, up to its closing one, and of what is stored
abbrev pub store_rows : List Row → ℕ → ℕ → ℕ → List Row
store_rows value at_percent bound width =
    cell_rows 19 2 ++ (mark_row mark.Equal 23 1 ∷ (value ++ (mark_row mark.Percent at_percent 1 ∷ number_row bound (at_percent + 1)
    ∷ mark_row mark.Semicolon (at_percent + 1 + width) 0 ∷ [])))

abbrev pub paren_rows : List Row → ℕ → List Row
paren_rows value close = mark_row mark.LeftParen 24 1 ∷ (value ++ (mark_row mark.RightParen close 0 ∷ []))

-- the tokens of a loop
abbrev pub rows_of : ℕ → ℕ → List Row
rows_of zero d = loop_rows 1 (codes "i") 0 64 2 ++ store_rows (paren_rows (product_rows d) 33) 34 1000 4
rows_of (suc zero) d = loop_rows 1 (codes "i") 1 64 2 ++ store_rows (paren_rows (neighbours_rows d) 38) 39 1000 4
rows_of (suc (suc form)) d =
    loop_rows 1 (codes "j") 0 8 1
    ++ (loop_rows 18 (codes "i") 0 64 2 ++ (name_row (codes "s") 36 2 ∷ mark_row mark.PlusEqual 37 1
    ∷ (cell_rows 39 1 ++ (mark_row mark.Ampersand 43 1 ∷ number_row d 44 ∷ mark_row mark.Semicolon 45 0 ∷ []))))

abbrev pub filling_rows : List Row
filling_rows = loop_rows 1 (codes "i") 0 64 2 ++ store_rows (name_row (codes "i") 24 1 ∷ []) 25 10 2

abbrev pub array_rows : List Row
array_rows =
    word_row word.Int 1 1 ∷ name_row (codes "a") 5 1 ∷ mark_row mark.LeftBracket 6 0 ∷ number_row 64 7 ∷ mark_row mark.RightBracket 9 0
    ∷ mark_row mark.Semicolon 10 0 ∷ []

abbrev pub head_rows : List Row
head_rows =
    word_row word.Int 1 1 ∷ name_row (codes "main") 5 1 ∷ mark_row mark.LeftParen 9 0 ∷ word_row word.Void 10 0 ∷ mark_row mark.RightParen 14 0 ∷ []

abbrev pub open_rows : List Row
open_rows = mark_row mark.LeftBrace 1 0 ∷ []

abbrev pub declaring_rows : List Row
declaring_rows =
    word_row word.Int 1 1 ∷ name_row (codes "i") 5 1 ∷ mark_row mark.Comma 6 0 ∷ name_row (codes "j") 7 1 ∷ mark_row mark.Comma 8 0
    ∷ name_row (codes "s") 9 1 ∷ mark_row mark.Equal 10 0 ∷ row (t.Number I32 0) 11 2 ∷ mark_row mark.Semicolon 12 0 ∷ []

abbrev pub printing_rows : List Row
printing_rows =
    name_row (codes "printf") 1 2 ∷ mark_row mark.LeftParen 7 0 ∷ row (t.Str (37 ∷ 100 ∷ 10 ∷ [])) 8 1 ∷ mark_row mark.Comma 14 0
    ∷ name_row (codes "s") 15 1 ∷ mark_row mark.RightParen 16 0 ∷ mark_row mark.Semicolon 17 0 ∷ []

abbrev pub returning_rows : List Row
returning_rows = word_row word.Return 1 1 ∷ number_row 0 8 ∷ mark_row mark.Semicolon 9 0 ∷ []

abbrev pub close_rows : List Row
close_rows = mark_row mark.RightBrace 1 1 ∷ []

-- the tokens of loops from a line on
abbrev pub loop_tokens : ℕ → List (ℕ × ℕ) → List Token
loop_tokens line [] = []
loop_tokens line (x ∷ xs) = tokens_of line (rows_of x.0 x.1) ++ loop_tokens (line + 1) xs

-- the tokens before the loops and behind them, where these end before a line
abbrev pub head_tokens : List Token
head_tokens =
    tokens_of 2 array_rows ++ (tokens_of 3 head_rows ++ (tokens_of 4 open_rows ++ (tokens_of 5 declaring_rows ++ tokens_of 6 filling_rows)))

abbrev pub tail_tokens : ℕ → List Token
tail_tokens line = tokens_of line printing_rows ++ (tokens_of (line + 1) returning_rows ++ tokens_of (line + 1 + 1) close_rows)

abbrev pub end_tokens : ℕ → List Token
end_tokens line = record { what = t.End; place = at (line + 1 + 1 + 1) 1 } ∷ []

-- ---- each statement stands at its tokens

pub loop_laid : (form d line : ℕ) → lay_stmt (loop_of form d line) ≡ pieces_of line (rows_of form d)
loop_laid zero d line = simp folds
loop_laid (suc zero) d line = simp folds
loop_laid (suc (suc form)) d line = simp folds

pub filling_laid : lay_stmt filling ≡ pieces_of 6 filling_rows
filling_laid = simp folds

pub declaring_laid : lay_stmt declaring ≡ pieces_of 5 declaring_rows
declaring_laid = simp folds

pub printing_laid : (line : ℕ) → lay_stmt (printing line) ≡ pieces_of line printing_rows
printing_laid line = simp folds

pub returning_laid : (line : ℕ) → lay_stmt (returning line) ≡ pieces_of line returning_rows
returning_laid line = simp folds

pub array_laid : lay_item array_item ≡ pieces_of 2 array_rows
array_laid = simp folds
