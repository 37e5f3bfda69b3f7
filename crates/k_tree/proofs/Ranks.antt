-- The ranks of an expression: its form gives the greatest, and every lower one is a rank of it too.
use Rattle.std.proofs.Common.{ℕ, ◌≤◌, sym, ◌∙◌, ap, subst, arith}
use Rattle.k_tree.specs.declared.tree.expression.Expr.{Expr}
use Rattle.k_tree.specs.declared.tree.expression.Expr.TheVariants as expr
use Rattle.k_tree.proofs.Folds.{expr_Assign, expr_Binary, expr_Call, expr_Cast, expr_Char, expr_Comma, expr_Cond, expr_Index, expr_Name, expr_Number, expr_Paren, expr_Post, expr_Pre, expr_SizeofExpr, expr_SizeofType, expr_Str, expr_Unary}
use Rattle.k_tree.specs.Rank.{rank_or_zero, rank_step, rank_of}
use Rattle.k_tree.specs.Ranked.{Ranked, comma, assignment, conditional, binary, cast, unary, prefix, sizeof_expr, sizeof_type, index, postfix, call, name, number, character, string, paren}

-- what has a rank has each lower one
pub lower : (j k : ℕ) (e : Expr) → j ≤ k → Ranked k e → Ranked j e
lower j _ _ le (comma k p a b h x y) = comma j p a b (omega arith) x y
lower j _ _ le (assignment k p op a b h q x y) = assignment j p op a b (omega arith) q x y
lower j _ _ le (conditional k p a b c h x y z) = conditional j p a b c (omega arith) x y z
lower j _ _ le (binary k p op n a b h q x y) = binary j p op n a b (omega arith) q x y
lower j _ _ le (cast k p specs stars a h q x) = cast j p specs stars a (omega arith) q x
lower j _ _ le (unary k p op a h q x) = unary j p op a (omega arith) q x
lower j _ _ le (prefix k p op a h q x) = prefix j p op a (omega arith) q x
lower j _ _ le (sizeof_expr k p a h x) = sizeof_expr j p a (omega arith) x
lower j _ _ le (sizeof_type k p specs stars h q) = sizeof_type j p specs stars (omega arith) q
lower j _ _ le (index k p a b h x y) = index j p a b (omega arith) x y
lower j _ _ le (postfix k p op a h q x) = postfix j p op a (omega arith) q x
lower j _ _ le (call k p f args h x) = call j p f args (omega arith) x
lower j _ _ le (name k p t h) = name j p t (omega arith)
lower j _ _ le (number k p kind n h) = number j p kind n (omega arith)
lower j _ _ le (character k p t h) = character j p t (omega arith)
lower j _ _ le (string k p bytes h) = string j p bytes (omega arith)
lower j _ _ le (paren k p a h x) = paren j p a (omega arith) x

-- no rank of an expression is above that of its form
pub at_most_its_rank : (k : ℕ) (e : Expr) → Ranked k e → k ≤ rank_of e
at_most_its_rank _ _ (comma k p a b h x y) = subst (λ m. k ≤ m) (sym (expr_Comma ℕ rank_step p a b)) h
at_most_its_rank _ _ (assignment k p op a b h q x y) = subst (λ m. k ≤ m) (sym (expr_Assign ℕ rank_step p op a b)) h
at_most_its_rank _ _ (conditional k p a b c h x y z) = subst (λ m. k ≤ m) (sym (expr_Cond ℕ rank_step p a b c)) h
at_most_its_rank _ _ (binary k p op n a b h q x y) =
    subst (λ m. k ≤ m) (sym (expr_Binary ℕ rank_step p op a b ∙ ap rank_or_zero q)) h
at_most_its_rank _ _ (cast k p specs stars a h q x) = subst (λ m. k ≤ m) (sym (expr_Cast ℕ rank_step p specs stars a)) h
at_most_its_rank _ _ (unary k p op a h q x) = subst (λ m. k ≤ m) (sym (expr_Unary ℕ rank_step p op a)) h
at_most_its_rank _ _ (prefix k p op a h q x) = subst (λ m. k ≤ m) (sym (expr_Pre ℕ rank_step p op a)) h
at_most_its_rank _ _ (sizeof_expr k p a h x) = subst (λ m. k ≤ m) (sym (expr_SizeofExpr ℕ rank_step p a)) h
at_most_its_rank _ _ (sizeof_type k p specs stars h q) = subst (λ m. k ≤ m) (sym (expr_SizeofType ℕ rank_step p specs stars)) h
at_most_its_rank _ _ (index k p a b h x y) = subst (λ m. k ≤ m) (sym (expr_Index ℕ rank_step p a b)) h
at_most_its_rank _ _ (postfix k p op a h q x) = subst (λ m. k ≤ m) (sym (expr_Post ℕ rank_step p op a)) h
at_most_its_rank _ _ (call k p f args h x) = subst (λ m. k ≤ m) (sym (expr_Call ℕ rank_step p f args)) h
at_most_its_rank _ _ (name k p t h) = subst (λ m. k ≤ m) (sym (expr_Name ℕ rank_step p t)) h
at_most_its_rank _ _ (number k p kind n h) = subst (λ m. k ≤ m) (sym (expr_Number ℕ rank_step p kind n)) h
at_most_its_rank _ _ (character k p t h) = subst (λ m. k ≤ m) (sym (expr_Char ℕ rank_step p t)) h
at_most_its_rank _ _ (string k p bytes h) = subst (λ m. k ≤ m) (sym (expr_Str ℕ rank_step p bytes)) h
at_most_its_rank _ _ (paren k p a h x) = subst (λ m. k ≤ m) (sym (expr_Paren ℕ rank_step p a)) h

-- the rank of its form is a rank of it
pub at_its_rank : (k : ℕ) (e : Expr) → Ranked k e → Ranked (rank_of e) e
at_its_rank _ _ (comma k p a b h x y) =
    subst (λ m. Ranked m (expr.Comma p a b)) (sym (expr_Comma ℕ rank_step p a b)) (comma 0 p a b (omega arith) x y)
at_its_rank _ _ (assignment k p op a b h q x y) =
    subst (λ m. Ranked m (expr.Assign p op a b)) (sym (expr_Assign ℕ rank_step p op a b)) (assignment 1 p op a b (omega arith) q x y)
at_its_rank _ _ (conditional k p a b c h x y z) =
    subst (λ m. Ranked m (expr.Cond p a b c)) (sym (expr_Cond ℕ rank_step p a b c)) (conditional 2 p a b c (omega arith) x y z)
at_its_rank _ _ (binary k p op n a b h q x y) =
    subst (λ m. Ranked m (expr.Binary p op a b)) (sym (expr_Binary ℕ rank_step p op a b ∙ ap rank_or_zero q)) (binary n p op n a b (omega arith) q x y)
at_its_rank _ _ (cast k p specs stars a h q x) =
    subst (λ m. Ranked m (expr.Cast p specs stars a)) (sym (expr_Cast ℕ rank_step p specs stars a)) (cast 13 p specs stars a (omega arith) q x)
at_its_rank _ _ (unary k p op a h q x) =
    subst (λ m. Ranked m (expr.Unary p op a)) (sym (expr_Unary ℕ rank_step p op a)) (unary 14 p op a (omega arith) q x)
at_its_rank _ _ (prefix k p op a h q x) =
    subst (λ m. Ranked m (expr.Pre p op a)) (sym (expr_Pre ℕ rank_step p op a)) (prefix 14 p op a (omega arith) q x)
at_its_rank _ _ (sizeof_expr k p a h x) =
    subst (λ m. Ranked m (expr.SizeofExpr p a)) (sym (expr_SizeofExpr ℕ rank_step p a)) (sizeof_expr 14 p a (omega arith) x)
at_its_rank _ _ (sizeof_type k p specs stars h q) =
    subst (λ m. Ranked m (expr.SizeofType p specs stars)) (sym (expr_SizeofType ℕ rank_step p specs stars)) (sizeof_type 14 p specs stars (omega arith) q)
at_its_rank _ _ (index k p a b h x y) =
    subst (λ m. Ranked m (expr.Index p a b)) (sym (expr_Index ℕ rank_step p a b)) (index 15 p a b (omega arith) x y)
at_its_rank _ _ (postfix k p op a h q x) =
    subst (λ m. Ranked m (expr.Post p op a)) (sym (expr_Post ℕ rank_step p op a)) (postfix 15 p op a (omega arith) q x)
at_its_rank _ _ (call k p f args h x) =
    subst (λ m. Ranked m (expr.Call p f args)) (sym (expr_Call ℕ rank_step p f args)) (call 15 p f args (omega arith) x)
at_its_rank _ _ (name k p t h) =
    subst (λ m. Ranked m (expr.Name p t)) (sym (expr_Name ℕ rank_step p t)) (name 16 p t (omega arith))
at_its_rank _ _ (number k p kind n h) =
    subst (λ m. Ranked m (expr.Number p kind n)) (sym (expr_Number ℕ rank_step p kind n)) (number 16 p kind n (omega arith))
at_its_rank _ _ (character k p t h) =
    subst (λ m. Ranked m (expr.Char p t)) (sym (expr_Char ℕ rank_step p t)) (character 16 p t (omega arith))
at_its_rank _ _ (string k p bytes h) =
    subst (λ m. Ranked m (expr.Str p bytes)) (sym (expr_Str ℕ rank_step p bytes)) (string 16 p bytes (omega arith))
at_its_rank _ _ (paren k p a h x) =
    subst (λ m. Ranked m (expr.Paren p a)) (sym (expr_Paren ℕ rank_step p a)) (paren 16 p a (omega arith) x)
