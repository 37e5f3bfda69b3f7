-- With what the spelling of each construct begins; so none is empty.
use Rattle.std.proofs.Common.{ℕ, ◌≢◌, Bool, true, false, ◌||◌, IsTrue, IsFalse, List, [], ◌∷◌, ◌++◌, sym, subst, refl}
use Rattle.std.proofs.lemmas.List.Elements.{All-head}
use Rattle.k_tree.specs.declared.tokens.TokenKind.{TokenKind}
use Rattle.k_tree.specs.declared.tokens.TokenKind.TheVariants as token
use Rattle.k_tree.specs.declared.tokens.mark.Mark.{Mark}
use Rattle.k_tree.specs.declared.tokens.mark.Mark.TheVariants as mark
use Rattle.k_tree.specs.declared.tokens.word.Word.{Word}
use Rattle.k_tree.specs.declared.tokens.word.Word.TheVariants as word
use Rattle.k_tree.specs.declared.tree.expression.Expr.{Expr}
use Rattle.k_tree.specs.declared.tree.statement.Stmt.{Stmt}
use Rattle.k_tree.specs.declared.tree.declaration.Declarator.{Declarator}
use Rattle.k_tree.specs.Begins.{Begins, begins_expr, begins_stmt, begins_declaration, is_open_paren, is_sizeof, is_stmt_word}
use Rattle.k_tree.proofs.Folds.{expr_Assign, expr_Binary, expr_Call, expr_Cast, expr_Char, expr_Comma, expr_Cond, expr_Index, expr_Name, expr_Number, expr_Paren, expr_Post, expr_Pre, expr_SizeofExpr, expr_SizeofType, expr_Str, expr_Unary, stmt_Expr, stmt_Empty, stmt_Block, if_alone as if_alone_folds, if_else as if_else_folds, stmt_While, stmt_DoWhile, stmt_For, stmt_Switch, stmt_Break, stmt_Continue, stmt_Return}
use Rattle.k_tree.specs.Spelling.{Spelled, spell_expr, spell_expr_step, spell_stmt, spell_stmt_step, spell_part_step, spell_declaration, the_mark}
use Rattle.k_tree.specs.Ranked.{Ranked, is_spec, is_step, is_unary, comma, assignment, conditional, binary, cast, unary, prefix, sizeof_expr, sizeof_type, index, postfix, call, name, number, character, string, paren}
use Rattle.k_tree.specs.Ranked.{RankedStmt, RankedDeclaration, value, empty, block, if_alone, if_else, while_loop, do_loop, for_loop, switch_stmt, break_loop, continue_loop, return_value}

-- what begins so is not empty
pub not_empty : (test : TokenKind → Bool) (xs : Spelled) → Begins test xs → xs ≢ []
not_empty test [] b e = b
not_empty test (t ∷ xs) b e = cc

pub begins-append : (test : TokenKind → Bool) (xs ys : Spelled) → Begins test xs → Begins test (xs ++ ys)
begins-append test [] ys b = absurd b
begins-append test (t ∷ xs) ys b = b

or_left : (a b : Bool) → IsTrue a → IsTrue (a || b)
or_left true b h = refl
or_left false b h = cc

or_right : (a b : Bool) → IsTrue b → IsTrue (a || b)
or_right true b h = refl
or_right false b h = h

unary_begins : (op : Mark) → IsTrue (is_unary op) → IsTrue (begins_expr (token.Mark op))
unary_begins op h = or_right (is_open_paren op) (is_step op || is_unary op) (or_right (is_step op) (is_unary op) h)

step_begins : (op : Mark) → IsTrue (is_step op) → IsTrue (begins_expr (token.Mark op))
step_begins op h = or_right (is_open_paren op) (is_step op || is_unary op) (or_left (is_step op) (is_unary op) h)

-- the first token of an expression
pub expr_begins : (k : ℕ) (e : Expr) → Ranked k e → Begins begins_expr (spell_expr e)
expr_begins _ _ (comma k p a b h x y) =
    subst (Begins begins_expr) (sym (expr_Comma Spelled spell_expr_step p a b)) (begins-append begins_expr (spell_expr a) _ (expr_begins 0 a x))
expr_begins _ _ (assignment k p op a b h q x y) =
    subst (Begins begins_expr) (sym (expr_Assign Spelled spell_expr_step p op a b)) (begins-append begins_expr (spell_expr a) _ (expr_begins 14 a x))
expr_begins _ _ (conditional k p a b c h x y z) =
    subst (Begins begins_expr) (sym (expr_Cond Spelled spell_expr_step p a b c)) (begins-append begins_expr (spell_expr a) _ (expr_begins 3 a x))
expr_begins _ _ (binary k p op n a b h q x y) =
    subst (Begins begins_expr) (sym (expr_Binary Spelled spell_expr_step p op a b)) (begins-append begins_expr (spell_expr a) _ (expr_begins n a x))
expr_begins _ _ (cast k p specs stars a h q x) =
    subst (Begins begins_expr) (sym (expr_Cast Spelled spell_expr_step p specs stars a)) refl
expr_begins _ _ (unary k p op a h q x) =
    subst (Begins begins_expr) (sym (expr_Unary Spelled spell_expr_step p op a)) (unary_begins op q)
expr_begins _ _ (prefix k p op a h q x) =
    subst (Begins begins_expr) (sym (expr_Pre Spelled spell_expr_step p op a)) (step_begins op q)
expr_begins _ _ (sizeof_expr k p a h x) =
    subst (Begins begins_expr) (sym (expr_SizeofExpr Spelled spell_expr_step p a)) refl
expr_begins _ _ (sizeof_type k p specs stars h q) =
    subst (Begins begins_expr) (sym (expr_SizeofType Spelled spell_expr_step p specs stars)) refl
expr_begins _ _ (index k p a b h x y) =
    subst (Begins begins_expr) (sym (expr_Index Spelled spell_expr_step p a b)) (begins-append begins_expr (spell_expr a) _ (expr_begins 15 a x))
expr_begins _ _ (postfix k p op a h q x) =
    subst (Begins begins_expr) (sym (expr_Post Spelled spell_expr_step p op a)) (begins-append begins_expr (spell_expr a) _ (expr_begins 15 a x))
expr_begins _ _ (call k p f args h x) =
    subst (Begins begins_expr) (sym (expr_Call Spelled spell_expr_step p f args)) refl
expr_begins _ _ (name k p t h) =
    subst (Begins begins_expr) (sym (expr_Name Spelled spell_expr_step p t)) refl
expr_begins _ _ (number k p kind n h) =
    subst (Begins begins_expr) (sym (expr_Number Spelled spell_expr_step p kind n)) refl
expr_begins _ _ (character k p t h) =
    subst (Begins begins_expr) (sym (expr_Char Spelled spell_expr_step p t)) refl
expr_begins _ _ (string k p bytes h) =
    subst (Begins begins_expr) (sym (expr_Str Spelled spell_expr_step p bytes)) refl
expr_begins _ _ (paren k p a h x) =
    subst (Begins begins_expr) (sym (expr_Paren Spelled spell_expr_step p a)) refl

-- the first token of a statement
also_stmt : (t : TokenKind) → IsTrue (begins_expr t) → IsTrue (begins_stmt t)
also_stmt (token.Name x) h = refl
also_stmt (token.Word w) h = or_left (is_sizeof w) (is_stmt_word w) h
also_stmt (token.Number kind n) h = refl
also_stmt (token.Char z) h = refl
also_stmt (token.Str bytes) h = refl
also_stmt (token.Mark m) h = or_left (begins_expr (token.Mark m)) _ h
also_stmt token.End h = h

also_stmts : (xs : Spelled) → Begins begins_expr xs → Begins begins_stmt xs
also_stmts [] b = b
also_stmts (t ∷ xs) b = also_stmt t b

pub stmt_begins : (s : Stmt) → RankedStmt s → Begins begins_stmt (spell_stmt s)
stmt_begins _ (value p a x) =
    subst (Begins begins_stmt) (sym (stmt_Expr Spelled Spelled spell_part_step spell_stmt_step p a))
    (also_stmts (spell_expr a ++ the_mark mark.Semicolon) (begins-append begins_expr (spell_expr a) _ (expr_begins 0 a x)))
stmt_begins _ (empty p) = subst (Begins begins_stmt) (sym (stmt_Empty Spelled Spelled spell_part_step spell_stmt_step p)) refl
stmt_begins _ (block p parts x) = subst (Begins begins_stmt) (sym (stmt_Block Spelled Spelled spell_part_step spell_stmt_step p parts)) refl
stmt_begins _ (if_alone p a s x y) = subst (Begins begins_stmt) (sym (if_alone_folds Spelled Spelled spell_part_step spell_stmt_step p a s)) refl
stmt_begins _ (if_else p a s t x y q z) = subst (Begins begins_stmt) (sym (if_else_folds Spelled Spelled spell_part_step spell_stmt_step p a s t)) refl
stmt_begins _ (while_loop p a s x y) = subst (Begins begins_stmt) (sym (stmt_While Spelled Spelled spell_part_step spell_stmt_step p a s)) refl
stmt_begins _ (do_loop p s a x y) = subst (Begins begins_stmt) (sym (stmt_DoWhile Spelled Spelled spell_part_step spell_stmt_step p s a)) refl
stmt_begins _ (for_loop p start a b s x y z w) =
    subst (Begins begins_stmt) (sym (stmt_For Spelled Spelled spell_part_step spell_stmt_step p start a b s)) refl
stmt_begins _ (switch_stmt p a parts x y) = subst (Begins begins_stmt) (sym (stmt_Switch Spelled Spelled spell_part_step spell_stmt_step p a parts)) refl
stmt_begins _ (break_loop p) = subst (Begins begins_stmt) (sym (stmt_Break Spelled Spelled spell_part_step spell_stmt_step p)) refl
stmt_begins _ (continue_loop p) = subst (Begins begins_stmt) (sym (stmt_Continue Spelled Spelled spell_part_step spell_stmt_step p)) refl
stmt_begins _ (return_value p a x) = subst (Begins begins_stmt) (sym (stmt_Return Spelled Spelled spell_part_step spell_stmt_step p a)) refl

-- a specifier begins no statement, so no expression either
pub spec_begins_no_stmt : (w : Word) → IsTrue (is_spec w) → IsFalse (begins_stmt (token.Word w))
spec_begins_no_stmt word.Sizeof h = cc
spec_begins_no_stmt word.If h = cc
spec_begins_no_stmt word.While h = cc
spec_begins_no_stmt word.Do h = cc
spec_begins_no_stmt word.For h = cc
spec_begins_no_stmt word.Switch h = cc
spec_begins_no_stmt word.Break h = cc
spec_begins_no_stmt word.Continue h = cc
spec_begins_no_stmt word.Return h = cc
spec_begins_no_stmt _ h = refl

-- the first token of a declaration
pub declaration_begins : (specs : List Word) (list : List Declarator) → RankedDeclaration specs list
    → Begins begins_declaration (spell_declaration specs list)
declaration_begins [] list h = absurd (h.0.0 refl)
declaration_begins (w ∷ specs) list h = All-head (λ v. IsTrue (is_spec v)) w specs h.0.1
