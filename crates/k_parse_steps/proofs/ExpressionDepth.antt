-- No expression has no level.
use Rattle.std.proofs.Common.{ℕ, ◌≤◌, sym, subst, arith}
use Rattle.k_parse_steps.specs.Types.{Expr}
use Rattle.k_tree.proofs.Folds.{expr_Assign, expr_Binary, expr_Call, expr_Cast, expr_Char, expr_Comma, expr_Cond, expr_Index, expr_Name, expr_Number, expr_Paren, expr_Post, expr_Pre, expr_SizeofExpr, expr_SizeofType, expr_Str, expr_Unary}
use Rattle.k_tree.specs.Nesting.{expr_depth, expr_depth_step}
use Rattle.k_tree.specs.Ranked.{Ranked, comma, assignment, conditional, binary, cast, unary, prefix, sizeof_expr, sizeof_type, index, postfix, call, name, number, character, string, paren}

pub some_depth : (k : ℕ) (e : Expr) → Ranked k e → 1 ≤ expr_depth e
some_depth _ _ (comma k p a b h x y) = subst (λ m. 1 ≤ m) (sym (expr_Comma ℕ expr_depth_step p a b)) (omega arith)
some_depth _ _ (assignment k p op a b h q x y) = subst (λ m. 1 ≤ m) (sym (expr_Assign ℕ expr_depth_step p op a b)) (omega arith)
some_depth _ _ (conditional k p a b c h x y z) = subst (λ m. 1 ≤ m) (sym (expr_Cond ℕ expr_depth_step p a b c)) (omega arith)
some_depth _ _ (binary k p op n a b h q x y) = subst (λ m. 1 ≤ m) (sym (expr_Binary ℕ expr_depth_step p op a b)) (omega arith)
some_depth _ _ (cast k p specs stars a h q x) = subst (λ m. 1 ≤ m) (sym (expr_Cast ℕ expr_depth_step p specs stars a)) (omega arith)
some_depth _ _ (unary k p op a h q x) = subst (λ m. 1 ≤ m) (sym (expr_Unary ℕ expr_depth_step p op a)) (omega arith)
some_depth _ _ (prefix k p op a h q x) = subst (λ m. 1 ≤ m) (sym (expr_Pre ℕ expr_depth_step p op a)) (omega arith)
some_depth _ _ (sizeof_expr k p a h x) = subst (λ m. 1 ≤ m) (sym (expr_SizeofExpr ℕ expr_depth_step p a)) (omega arith)
some_depth _ _ (sizeof_type k p specs stars h q) =
    subst (λ m. 1 ≤ m) (sym (expr_SizeofType ℕ expr_depth_step p specs stars)) (omega arith)
some_depth _ _ (index k p a b h x y) = subst (λ m. 1 ≤ m) (sym (expr_Index ℕ expr_depth_step p a b)) (omega arith)
some_depth _ _ (postfix k p op a h q x) = subst (λ m. 1 ≤ m) (sym (expr_Post ℕ expr_depth_step p op a)) (omega arith)
some_depth _ _ (call k p f args h x) = subst (λ m. 1 ≤ m) (sym (expr_Call ℕ expr_depth_step p f args)) (omega arith)
some_depth _ _ (name k p t h) = subst (λ m. 1 ≤ m) (sym (expr_Name ℕ expr_depth_step p t)) (omega arith)
some_depth _ _ (number k p kind n h) = subst (λ m. 1 ≤ m) (sym (expr_Number ℕ expr_depth_step p kind n)) (omega arith)
some_depth _ _ (character k p t h) = subst (λ m. 1 ≤ m) (sym (expr_Char ℕ expr_depth_step p t)) (omega arith)
some_depth _ _ (string k p bytes h) = subst (λ m. 1 ≤ m) (sym (expr_Str ℕ expr_depth_step p bytes)) (omega arith)
some_depth _ _ (paren k p a h x) = subst (λ m. 1 ≤ m) (sym (expr_Paren ℕ expr_depth_step p a)) (omega arith)
