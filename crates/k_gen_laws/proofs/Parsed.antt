-- The trees of made programs are ranked, stand at their tokens, nest little and have few nodes.
use Rattle.std.proofs.Common.{◌≡◌, ◌≢◌, ℕ, zero, suc, ◌+◌, ◌*◌, ◌≤◌, List, [], ◌∷◌, ◌++◌, Some, None, length, refl, sym, ap, subst, ◌∙◌, arith, append_assoc}
use Rattle.std.specs.Prelude.{All, IsTrue, Ok, codes, map, max, sum}
use Rattle.std.proofs.lemmas.List.{append-nil}
use Rattle.std.proofs.lemmas.List.Elements.{All-cons, All-nil}
use Rattle.std.proofs.lemmas.List.Sums.{sum_by-cons}
use Rattle.k_num.specs.declared.numbers.Kind.TheVariants.{I32}
use Rattle.k_num.specs.declared.place.Place.{Place}
use Rattle.k_tree.specs.declared.tokens.Token.{Token}
use Rattle.k_tree.specs.declared.tokens.TokenKind.TheVariants as t
use Rattle.k_tree.specs.declared.tokens.mark.Mark.TheVariants as mark
use Rattle.k_tree.specs.declared.tokens.word.Word.{Word}
use Rattle.k_tree.specs.declared.tokens.word.Word.TheVariants as word
use Rattle.k_tree.specs.declared.tree.expression.Expr.{Expr}
use Rattle.k_tree.specs.declared.tree.expression.Expr.TheVariants as expr
use Rattle.k_tree.specs.declared.tree.declaration.Declarator.{Declarator}
use Rattle.k_tree.specs.declared.tree.declaration.Init.{Init}
use Rattle.k_tree.specs.declared.tree.declaration.Init.TheVariants as init
use Rattle.k_tree.specs.declared.tree.statement.First.TheVariants as first
use Rattle.k_tree.specs.declared.tree.statement.Stmt.{Stmt}
use Rattle.k_tree.specs.declared.tree.unit.Item.{Item}
use Rattle.k_tree.specs.declared.tree.unit.Item.TheVariants as item
use Rattle.k_tree.specs.Count.{item_count, stmt_count, unit_count}
use Rattle.k_tree.specs.Nesting.{deepest, item_depth, nesting, stmt_depth}
use Rattle.k_tree.specs.Places.{Pieces, Placed, Stand, lay_item, lay_row, lay_stmt}
use Rattle.k_tree.specs.Ranked.{IfGiven, Ranked, RankedDeclarator, RankedItem, RankedParts, RankedStmt, RankedUnit, Specs, assignment, binary, call, declaration, for_loop, index, is_spec, more_args, name, no_args, no_parts, number, one, paren, postfix, return_value, statement, string, value}
use Rattle.k_tree.proofs.Folds.{folds}
use Rattle.k_parse.specs.Parse.{IsParse}
use Rattle.k_gen_laws.proofs.Reading.{list_of}
use Rattle.k_gen_laws.proofs.Trees.{Row, add_bits, array_item, array_laid, array_rows, at, body_of, cell, close_rows, declaring, declaring_laid, declaring_rows, element, end_tokens, filling, filling_laid, filling_rows, head_rows, lit, loop, loop_laid, loop_of, loop_tokens, loops_from, main_head, neighbours, open_rows, pieces_of, printing, printing_laid, printing_rows, product, returning, returning_laid, returning_rows, rows_of, rows_stand, simple_declarator, stand_append, store, tokens_of, unit_of, var}

-- ---- ranked

ranked_var : (k : ℕ) (x : List ℕ) (line column : ℕ) → k ≤ 16 → Ranked k (var x line column)
ranked_var k x line column le = name k (at line column) x le

ranked_lit : (k n line column : ℕ) → k ≤ 16 → Ranked k (lit n line column)
ranked_lit k n line column le = number k (at line column) I32 n le

ranked_element : (k line column : ℕ) (e : Expr) → k ≤ 15 → Ranked 0 e → Ranked k (element line column e)
ranked_element k line column e le is =
    index k (at line (column + 1)) (var (codes "a") line column) e le (ranked_var 15 (codes "a") line column (omega arith)) is

ranked_cell : (k line column : ℕ) → k ≤ 15 → Ranked k (cell line column)
ranked_cell k line column le = ranked_element k line column (var (codes "i") line (column + 2)) le (ranked_var 0 (codes "i") line (column + 2) (omega arith))

ranked_loop : (line column : ℕ) (x : List ℕ) (start bound width : ℕ) (body : Stmt) → RankedStmt body → RankedStmt (loop line column x start bound width body)
ranked_loop line column x start bound width body is =
    for_loop (at line column)
    (first.Value (expr.Assign (at line (column + 5)) mark.Equal (var x line (column + 4)) (lit start line (column + 6))))
    (Some (expr.Binary (at line (column + 9)) mark.Less (var x line (column + 8)) (lit bound line (column + 10))))
    (Some (expr.Post (at line (column + 12 + width)) mark.PlusPlus (var x line (column + 11 + width))))
    body
    (assignment 0 (at line (column + 5)) mark.Equal (var x line (column + 4)) (lit start line (column + 6)) (omega arith) refl
    (ranked_var 14 x line (column + 4) (omega arith)) (ranked_lit 1 start line (column + 6) (omega arith)))
    (binary 0 (at line (column + 9)) mark.Less 9 (var x line (column + 8)) (lit bound line (column + 10)) (omega arith) refl
    (ranked_var 9 x line (column + 8) (omega arith)) (ranked_lit 10 bound line (column + 10) (omega arith)))
    (postfix 0 (at line (column + 12 + width)) mark.PlusPlus (var x line (column + 11 + width)) (omega arith) refl
    (ranked_var 15 x line (column + 11 + width) (omega arith)))
    is

ranked_store : (line at_percent : ℕ) (e : Expr) (bound column : ℕ) → Ranked 12 e → RankedStmt (store line at_percent e bound column)
ranked_store line at_percent e bound column is =
    let remainder : Expr = expr.Binary (at line at_percent) mark.Percent e (lit bound line column) in
    value (at line 19) (expr.Assign (at line 23) mark.Equal (cell line 19) remainder)
    (assignment 0 (at line 23) mark.Equal (cell line 19) remainder (omega arith) refl (ranked_cell 14 line 19 (omega arith))
    (binary 1 (at line at_percent) mark.Percent 12 e (lit bound line column) (omega arith) refl is (ranked_lit 13 bound line column (omega arith))))

ranked_paren : (k : ℕ) (p : Place) (e : Expr) → k ≤ 16 → Ranked 0 e → Ranked k (expr.Paren p e)
ranked_paren k p e le is = paren k p e le is

ranked_product : (line d : ℕ) → Ranked 0 (product line d)
ranked_product line d =
    let times : Expr = expr.Binary (at line 29) mark.Star (cell line 25) (lit d line 30) in
    binary 0 (at line 31) mark.Plus 11 times (var (codes "i") line 32) (omega arith) refl
    (binary 11 (at line 29) mark.Star 12 (cell line 25) (lit d line 30) (omega arith) refl (ranked_cell 12 line 25 (omega arith)) (ranked_lit 13 d line 30 (omega arith)))
    (ranked_var 12 (codes "i") line 32 (omega arith))

ranked_neighbours : (line d : ℕ) → Ranked 0 (neighbours line d)
ranked_neighbours line d =
    let before : Expr = expr.Binary (at line 28) mark.Minus (var (codes "i") line 27) (lit 1 line 29) in
    let both : Expr = expr.Binary (at line 31) mark.Plus (element line 25 before) (cell line 32) in
    binary 0 (at line 36) mark.Plus 11 both (lit d line 37) (omega arith) refl
    (binary 11 (at line 31) mark.Plus 11 (element line 25 before) (cell line 32) (omega arith) refl
    (ranked_element 11 line 25 before (omega arith)
    (binary 0 (at line 28) mark.Minus 11 (var (codes "i") line 27) (lit 1 line 29) (omega arith) refl
    (ranked_var 11 (codes "i") line 27 (omega arith)) (ranked_lit 12 1 line 29 (omega arith))))
    (ranked_cell 12 line 32 (omega arith)))
    (ranked_lit 12 d line 37 (omega arith))

ranked_bits : (line d : ℕ) → RankedStmt (add_bits line d)
ranked_bits line d =
    let bits : Expr = expr.Binary (at line 43) mark.Ampersand (cell line 39) (lit d line 44) in
    value (at line 36) (expr.Assign (at line 37) mark.PlusEqual (var (codes "s") line 36) bits)
    (assignment 0 (at line 37) mark.PlusEqual (var (codes "s") line 36) bits (omega arith) refl (ranked_var 14 (codes "s") line 36 (omega arith))
    (binary 1 (at line 43) mark.Ampersand 7 (cell line 39) (lit d line 44) (omega arith) refl (ranked_cell 7 line 39 (omega arith)) (ranked_lit 8 d line 44 (omega arith))))

ranked_of : (form d line : ℕ) → RankedStmt (loop_of form d line)
ranked_of zero d line =
    ranked_loop line 1 (codes "i") 0 64 2 (store line 34 (expr.Paren (at line 24) (product line d)) 1000 35)
    (ranked_store line 34 (expr.Paren (at line 24) (product line d)) 1000 35 (ranked_paren 12 (at line 24) (product line d) (omega arith) (ranked_product line d)))
ranked_of (suc zero) d line =
    ranked_loop line 1 (codes "i") 1 64 2 (store line 39 (expr.Paren (at line 24) (neighbours line d)) 1000 40)
    (ranked_store line 39 (expr.Paren (at line 24) (neighbours line d)) 1000 40 (ranked_paren 12 (at line 24) (neighbours line d) (omega arith) (ranked_neighbours line d)))
ranked_of (suc (suc form)) d line =
    ranked_loop line 1 (codes "j") 0 8 1 (loop line 18 (codes "i") 0 64 2 (add_bits line d))
    (ranked_loop line 18 (codes "i") 0 64 2 (add_bits line d) (ranked_bits line d))

ranked_loops : (line : ℕ) (xs : List (ℕ × ℕ)) (rest : List Stmt) → RankedParts rest → RankedParts (loops_from line xs ++ rest)
ranked_loops line [] rest is = is
ranked_loops line (x ∷ xs) rest is =
    statement (loop_of x.0 x.1 line) (loops_from (line + 1) xs ++ rest) (ranked_of x.0 x.1 line) (ranked_loops (line + 1) xs rest is)

ranked_filling : RankedStmt filling
ranked_filling =
    ranked_loop 6 1 (codes "i") 0 64 2 (store 6 25 (var (codes "i") 6 24) 10 26)
    (ranked_store 6 25 (var (codes "i") 6 24) 10 26 (ranked_var 12 (codes "i") 6 24 (omega arith)))

ranked_printing : (line : ℕ) → RankedStmt (printing line)
ranked_printing line =
    let text : Expr = expr.Str (at line 8) (37 ∷ 100 ∷ 10 ∷ []) in
    let s : Expr = var (codes "s") line 15 in
    value (at line 1) (expr.Call (at line 1) (codes "printf") (text ∷ s ∷ []))
    (call 0 (at line 1) (codes "printf") (text ∷ s ∷ []) (omega arith)
    (more_args text (s ∷ []) (string 1 (at line 8) (37 ∷ 100 ∷ 10 ∷ []) (omega arith))
    (more_args s [] (ranked_var 1 (codes "s") line 15 (omega arith)) no_args)))

ranked_returning : (line : ℕ) → RankedStmt (returning line)
ranked_returning line = return_value (at line 1) (Some (lit 0 line 8)) (ranked_lit 0 0 line 8 (omega arith))

some_word : (w : Word) (ws : List Word) → w ∷ ws ≢ []
some_word w ws e = cc

some_declarator : (d : Declarator) (ds : List Declarator) → d ∷ ds ≢ []
some_declarator d ds e = cc

int_specs : Specs (word.Int ∷ [])
int_specs = (some_word word.Int [], All-cons (λ (w : Word). IsTrue (is_spec w)) word.Int [] refl (All-nil (λ (w : Word). IsTrue (is_spec w))))

no_dims : All (IfGiven (Ranked 2)) []
no_dims = All-nil (IfGiven (Ranked 2))

abbrev zero_of_s : Init
zero_of_s = init.One (at 5 11) (lit 0 5 11)

abbrev i : Declarator
i = simple_declarator (codes "i") 5 None

abbrev j : Declarator
j = simple_declarator (codes "j") 7 None

abbrev s : Declarator
s = simple_declarator (codes "s") 9 (Some zero_of_s)

three_ranked : All RankedDeclarator (i ∷ j ∷ s ∷ [])
three_ranked =
    All-cons RankedDeclarator i (j ∷ s ∷ []) (no_dims, tt)
    (All-cons RankedDeclarator j (s ∷ []) (no_dims, tt)
    (All-cons RankedDeclarator s [] (no_dims, one (at 5 11) (lit 0 5 11) (ranked_lit 1 0 5 11 (omega arith))) (All-nil RankedDeclarator)))

ranked_body : (xs : List (ℕ × ℕ)) (line : ℕ) → RankedParts (body_of (loops_from 7 xs) line)
ranked_body xs line =
    let behind : List Stmt = loops_from 7 xs ++ printing line ∷ returning (line + 1) ∷ [] in
    declaration (at 5 1) (word.Int ∷ []) (i ∷ j ∷ s ∷ []) (filling ∷ behind) (int_specs, some_declarator i (j ∷ s ∷ []), three_ranked)
    (statement filling behind ranked_filling
    (ranked_loops 7 xs (printing line ∷ returning (line + 1) ∷ [])
    (statement (printing line) (returning (line + 1) ∷ []) (ranked_printing line)
    (statement (returning (line + 1)) [] (ranked_returning (line + 1)) no_parts))))

abbrev pub a : Declarator
a = record { place = at 2 5; stars = []; name = codes "a"; dims = Some (lit 64 2 7) ∷ []; init = None }

ranked_array : RankedItem array_item
ranked_array =
    let sizes : All (IfGiven (Ranked 2)) (Some (lit 64 2 7) ∷ []) = All-cons (IfGiven (Ranked 2)) (Some (lit 64 2 7)) [] (ranked_lit 2 64 2 7 (omega arith)) no_dims in
    (int_specs, some_declarator a [], All-cons RankedDeclarator a [] (sizes, tt) (All-nil RankedDeclarator))

module _ (xs : List (ℕ × ℕ)) where
  abbrev line : ℕ
  line = 7 + length xs

  abbrev main : Item
  main = item.Function (at 3 1) main_head (body_of (loops_from 7 xs) line) (at (line + 1 + 1) 1)

  ranked_unit : RankedUnit (unit_of xs)
  ranked_unit =
      All-cons RankedItem array_item (main ∷ []) ranked_array
      (All-cons RankedItem main [] ((int_specs, tt), ranked_body xs line) (All-nil RankedItem))

-- ---- at its tokens

stand_at : (l : ℕ) (rows : List Row) (ps : Pieces) → ps ≡ pieces_of l rows → Stand ps (tokens_of l rows)
stand_at l rows ps e = subst (λ (qs : Pieces). Stand qs (tokens_of l rows)) (sym e) (rows_stand l rows)

loops_stand : (l : ℕ) (xs : List (ℕ × ℕ)) (ps : Pieces) (ts : List Token) (rest : List Stmt) → lay_row (map lay_stmt rest) ≡ ps → Stand ps ts
    → Stand (lay_row (map lay_stmt (loops_from l xs ++ rest))) (loop_tokens l xs ++ ts)
loops_stand l [] ps ts rest e is = subst (λ (qs : Pieces). Stand qs ts) (sym e) is
loops_stand l (x ∷ xs) ps ts rest e is =
    subst (λ (us : List Token). Stand (lay_row (map lay_stmt (loop_of x.0 x.1 l ∷ (loops_from (l + 1) xs ++ rest)))) us)
    (sym (append_assoc (tokens_of l (rows_of x.0 x.1)) (loop_tokens (l + 1) xs) ts))
    (stand_append (lay_stmt (loop_of x.0 x.1 l)) (lay_row (map lay_stmt (loops_from (l + 1) xs ++ rest))) (tokens_of l (rows_of x.0 x.1)) (loop_tokens (l + 1) xs ++ ts)
    (stand_at l (rows_of x.0 x.1) (lay_stmt (loop_of x.0 x.1 l)) (loop_laid x.0 x.1 l))
    (loops_stand (l + 1) xs ps ts rest e is))

module _ (xs : List (ℕ × ℕ)) where
  -- the statements of main behind the loops, and its closing brace
  abbrev ends : List Stmt
  ends = printing (line xs) ∷ returning (line xs + 1) ∷ []

  abbrev ends_pieces : Pieces
  ends_pieces = pieces_of (line xs) printing_rows ++ (pieces_of (line xs + 1) returning_rows ++ [])

  ends_laid : lay_row (map lay_stmt ends) ≡ ends_pieces
  ends_laid = λ i. printing_laid (line xs) i ++ (returning_laid (line xs + 1) i ++ [])

  abbrev ends_tokens : List Token
  ends_tokens = tokens_of (line xs) printing_rows ++ (tokens_of (line xs + 1) returning_rows ++ [])

  ends_stand : Stand ends_pieces ends_tokens
  ends_stand =
      stand_append (pieces_of (line xs) printing_rows) (pieces_of (line xs + 1) returning_rows ++ []) (tokens_of (line xs) printing_rows)
      (tokens_of (line xs + 1) returning_rows ++ []) (rows_stand (line xs) printing_rows)
      (stand_append (pieces_of (line xs + 1) returning_rows) [] (tokens_of (line xs + 1) returning_rows) [] (rows_stand (line xs + 1) returning_rows) tt)

  abbrev rest_of_body : List Stmt
  rest_of_body = loops_from 7 xs ++ ends

  rest_stands : Stand (lay_row (map lay_stmt rest_of_body)) (loop_tokens 7 xs ++ ends_tokens)
  rest_stands = loops_stand 7 xs ends_pieces ends_tokens ends ends_laid ends_stand

  abbrev body_tokens : List Token
  body_tokens = tokens_of 5 declaring_rows ++ (tokens_of 6 filling_rows ++ (loop_tokens 7 xs ++ ends_tokens))

  body_stands : Stand (lay_row (map lay_stmt (body_of (loops_from 7 xs) (line xs)))) body_tokens
  body_stands =
      stand_append (lay_stmt declaring) (lay_row (map lay_stmt (filling ∷ rest_of_body))) (tokens_of 5 declaring_rows)
      (tokens_of 6 filling_rows ++ (loop_tokens 7 xs ++ ends_tokens)) (stand_at 5 declaring_rows (lay_stmt declaring) declaring_laid)
      (stand_append (lay_stmt filling) (lay_row (map lay_stmt rest_of_body)) (tokens_of 6 filling_rows) (loop_tokens 7 xs ++ ends_tokens)
      (stand_at 6 filling_rows (lay_stmt filling) filling_laid) rest_stands)

  abbrev close : List Token
  close = tokens_of (line xs + 1 + 1) close_rows

  abbrev main_tokens : List Token
  main_tokens = tokens_of 3 head_rows ++ (tokens_of 4 open_rows ++ (body_tokens ++ close))

  abbrev close_pieces : Pieces
  close_pieces = pieces_of (line xs + 1 + 1) close_rows

  main_stands : Stand (lay_item (main xs)) main_tokens
  main_stands =
      stand_append (pieces_of 3 head_rows) (pieces_of 4 open_rows ++ (lay_row (map lay_stmt (body_of (loops_from 7 xs) (line xs))) ++ close_pieces))
      (tokens_of 3 head_rows) (tokens_of 4 open_rows ++ (body_tokens ++ close)) (rows_stand 3 head_rows)
      (stand_append (pieces_of 4 open_rows) (lay_row (map lay_stmt (body_of (loops_from 7 xs) (line xs))) ++ close_pieces) (tokens_of 4 open_rows) (body_tokens ++ close)
      (rows_stand 4 open_rows)
      (stand_append (lay_row (map lay_stmt (body_of (loops_from 7 xs) (line xs)))) close_pieces body_tokens close body_stands (rows_stand (line xs + 1 + 1) close_rows)))

  abbrev end_pieces : Pieces
  end_pieces = record { what = t.End; places = at (line xs + 1 + 1 + 1) 1 ∷ [] } ∷ []

  end_stands : Stand end_pieces (end_tokens (line xs))
  end_stands =
      (refl, All-cons (λ (place : Place). place ≡ at (line xs + 1 + 1 + 1) 1) (at (line xs + 1 + 1 + 1) 1) [] refl (All-nil (λ (place : Place). place ≡ at (line xs + 1 + 1 + 1) 1)), tt)

  abbrev unit_tokens : List Token
  unit_tokens = (tokens_of 2 array_rows ++ (main_tokens ++ [])) ++ end_tokens (line xs)

  unit_stands : Placed (unit_of xs) unit_tokens
  unit_stands =
      stand_append (lay_row (map lay_item (unit_of xs).items)) end_pieces (tokens_of 2 array_rows ++ (main_tokens ++ [])) (end_tokens (line xs))
      (stand_append (lay_item array_item) (lay_item (main xs) ++ []) (tokens_of 2 array_rows) (main_tokens ++ [])
      (stand_at 2 array_rows (lay_item array_item) array_laid)
      (stand_append (lay_item (main xs)) [] main_tokens [] main_stands tt)) end_stands

  abbrev of_array : List Token
  of_array = tokens_of 2 array_rows

  abbrev of_head : List Token
  of_head = tokens_of 3 head_rows

  abbrev of_brace : List Token
  of_brace = tokens_of 4 open_rows

  abbrev of_declaring : List Token
  of_declaring = tokens_of 5 declaring_rows

  abbrev of_filling : List Token
  of_filling = tokens_of 6 filling_rows

  abbrev of_loops : List Token
  of_loops = loop_tokens 7 xs

  abbrev of_printing : List Token
  of_printing = tokens_of (line xs) printing_rows

  abbrev of_returning : List Token
  of_returning = tokens_of (line xs + 1) returning_rows

  abbrev of_end : List Token
  of_end = end_tokens (line xs)

  behind_loops : (of_loops ++ (of_printing ++ (of_returning ++ []))) ++ close ≡ of_loops ++ (of_printing ++ (of_returning ++ close))
  behind_loops = append_assoc of_loops (of_printing ++ (of_returning ++ [])) close

  -- THE TREE stands at the tokens of the program
  same_tokens : unit_tokens ≡ list_of xs
  same_tokens =
      ap (λ (ts : List Token). (of_array ++ ts) ++ of_end) (append-nil main_tokens)
      ∙ ap (λ (ts : List Token). (of_array ++ (of_head ++ (of_brace ++ (of_declaring ++ (of_filling ++ ts))))) ++ of_end) behind_loops
      ∙ ap (λ (ts : List Token). of_array ++ (of_head ++ (of_brace ++ (of_declaring ++ (of_filling ++ ts))))) (append_assoc of_loops (of_printing ++ (of_returning ++ close)) of_end)

  placed : Placed (unit_of xs) (list_of xs)
  placed = subst (λ (ts : List Token). Placed (unit_of xs) ts) same_tokens unit_stands

-- ---- small

loop_nests : (form d l : ℕ) → stmt_depth (loop_of form d l) ≤ 10
loop_nests zero d l =
    let e : stmt_depth (loop_of zero d l) ≡ 9 = simp folds in omega (arith, e)
loop_nests (suc zero) d l =
    let e : stmt_depth (loop_of (suc zero) d l) ≡ 10 = simp folds in omega (arith, e)
loop_nests (suc (suc form)) d l =
    let e : stmt_depth (loop_of (suc (suc form)) d l) ≡ 7 = simp folds in omega (arith, e)

loop_counts : (form d l : ℕ) → stmt_count (loop_of form d l) ≤ 28
loop_counts zero d l =
    let e : stmt_count (loop_of zero d l) ≡ 24 = simp folds in omega (arith, e)
loop_counts (suc zero) d l =
    let e : stmt_count (loop_of (suc zero) d l) ≡ 28 = simp folds in omega (arith, e)
loop_counts (suc (suc form)) d l =
    let e : stmt_count (loop_of (suc (suc form)) d l) ≡ 26 = simp folds in omega (arith, e)

max_within : (m n bound : ℕ) → m ≤ bound → n ≤ bound → max m n ≤ bound
max_within m n bound a b = omega (arith, a, b)

loops_nest : (l : ℕ) (xs : List (ℕ × ℕ)) (rest : List Stmt) → deepest (map stmt_depth rest) ≤ 10 → deepest (map stmt_depth (loops_from l xs ++ rest)) ≤ 10
loops_nest l [] rest is = is
loops_nest l (x ∷ xs) rest is =
    max_within (stmt_depth (loop_of x.0 x.1 l)) (deepest (map stmt_depth (loops_from (l + 1) xs ++ rest))) 10 (loop_nests x.0 x.1 l) (loops_nest (l + 1) xs rest is)

-- a sum, by its first number
sum_cons : (n : ℕ) (ns : List ℕ) → sum (n ∷ ns) ≡ n + sum ns
sum_cons n ns = sum_by-cons (λ x. x) n ns

more_counts : (total one_count others behind n : ℕ) → total ≡ one_count + others → one_count ≤ 28 → others ≤ 28 * n + behind → total ≤ 28 * suc n + behind
more_counts total one_count others behind n is few rest = omega (arith, is, few, rest)

loops_count : (l : ℕ) (xs : List (ℕ × ℕ)) (rest : List Stmt) → sum (map stmt_count (loops_from l xs ++ rest)) ≤ 28 * length xs + sum (map stmt_count rest)
loops_count l [] rest = omega arith
loops_count l (x ∷ xs) rest =
    more_counts (sum (map stmt_count (loops_from l (x ∷ xs) ++ rest))) (stmt_count (loop_of x.0 x.1 l)) (sum (map stmt_count (loops_from (l + 1) xs ++ rest)))
    (sum (map stmt_count rest)) (length xs)
    (sum_cons (stmt_count (loop_of x.0 x.1 l)) (map stmt_count (loops_from (l + 1) xs ++ rest)))
    (loop_counts x.0 x.1 l) (loops_count (l + 1) xs rest)

-- a whole of these parts is within the limit
within_limit : (whole objects function block statements first_count rest second loops n ends : ℕ) → whole ≡ objects + function → function ≡ block + 0 → block ≡ 1 + 0 + statements
    → statements ≡ first_count + rest → rest ≡ second + loops → loops ≤ 28 * n + ends → n ≤ 2000 → objects ≡ 3 → first_count ≡ 6 → second ≡ 17 → ends ≡ 6 → whole ≤ 262144
within_limit whole objects function block statements first_count rest second loops n ends p1 p2 p3 p4 p5 p6 p7 p8 p9 p10 p11 =
    omega (arith, p1, p2, p3, p4, p5, p6, p7, p8, p9, p10, p11)

module _ (xs : List (ℕ × ℕ)) (few : length xs ≤ 2000) where
  ends_nest : deepest (map stmt_depth (ends xs)) ≡ 3
  ends_nest = simp folds

  ends_count : sum (map stmt_count (ends xs)) ≡ 6
  ends_count = simp folds

  declaring_nests : stmt_depth declaring ≡ 3
  declaring_nests = simp folds

  filling_nests : stmt_depth filling ≡ 5
  filling_nests = simp folds

  declaring_counts : stmt_count declaring ≡ 6
  declaring_counts = simp folds

  filling_counts : stmt_count filling ≡ 17
  filling_counts = simp folds

  array_nests : item_depth array_item ≡ 1
  array_nests = simp folds

  array_counts : item_count array_item ≡ 3
  array_counts = simp folds

  nests : nesting (unit_of xs) ≤ 200
  nests =
      let inner : deepest (map stmt_depth (rest_of_body xs)) ≤ 10 = loops_nest 7 xs (ends xs) (omega (arith, ends_nest)) in
      omega (arith, inner, array_nests, declaring_nests, filling_nests)

  abbrev body : List Stmt
  body = body_of (loops_from 7 xs) (line xs)

  counts : unit_count (unit_of xs) ≤ 262144
  counts =
      within_limit (unit_count (unit_of xs)) (item_count array_item) (sum (item_count (main xs) ∷ [])) (item_count (main xs)) (sum (map stmt_count body))
      (stmt_count declaring) (sum (map stmt_count (filling ∷ rest_of_body xs))) (stmt_count filling) (sum (map stmt_count (rest_of_body xs))) (length xs)
      (sum (map stmt_count (ends xs)))
      (sum_cons (item_count array_item) (item_count (main xs) ∷ [])) (sum_cons (item_count (main xs)) []) refl
      (sum_cons (stmt_count declaring) (map stmt_count (filling ∷ rest_of_body xs))) (sum_cons (stmt_count filling) (map stmt_count (rest_of_body xs)))
      (loops_count 7 xs (ends xs)) few array_counts declaring_counts filling_counts ends_count

  -- THE TREE of a made program is what its tokens are read to
  pub source_read : IsParse (list_of xs) (Ok (unit_of xs))
  source_read = (record { ranked = ranked_unit xs; placed = placed xs; nests = nests }, counts)
