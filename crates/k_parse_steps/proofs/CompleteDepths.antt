-- Depths of trees: none is 0.
use Rattle.std.proofs.Common.{ℕ, ◌≡◌, ◌+◌, ◌≤◌, max, map, arith}
use Rattle.k_parse_steps.specs.Types.{Expr}
use Rattle.k_tree.proofs.Folds.{expr_Assign, expr_Binary, expr_Call, expr_Cast, expr_Char, expr_Comma, expr_Cond, expr_Index, expr_Name, expr_Number, expr_Paren, expr_Post, expr_Pre, expr_SizeofExpr, expr_SizeofType, expr_Str, expr_Unary}
use Rattle.k_tree.specs.Nesting.{expr_depth, expr_depth_step, deepest}
use Rattle.k_tree.specs.Ranked.{Ranked, comma, assignment, conditional, binary, cast, unary, prefix, sizeof_expr, sizeof_type, index, postfix, call, name, number, character, string, paren}

pub above_zero : (d e : ℕ) → e ≡ 1 + d → 1 ≤ e
above_zero d e h = omega arith

pub depth_positive : (k : ℕ) (e : Expr) → Ranked k e → 1 ≤ expr_depth e
depth_positive _ _ (comma k p a b h x y) = above_zero (max (expr_depth a) (expr_depth b)) _ (expr_Comma ℕ expr_depth_step p a b)
depth_positive _ _ (assignment k p op a b h q x y) = above_zero (max (expr_depth a) (expr_depth b)) _ (expr_Assign ℕ expr_depth_step p op a b)
depth_positive _ _ (conditional k p a b c h x y z) =
    above_zero (max (expr_depth a) (max (expr_depth b) (expr_depth c))) _ (expr_Cond ℕ expr_depth_step p a b c)
depth_positive _ _ (binary k p op n a b h q x y) = above_zero (max (expr_depth a) (expr_depth b)) _ (expr_Binary ℕ expr_depth_step p op a b)
depth_positive _ _ (cast k p specs stars a h q x) = above_zero (expr_depth a) _ (expr_Cast ℕ expr_depth_step p specs stars a)
depth_positive _ _ (unary k p op a h q x) = above_zero (expr_depth a) _ (expr_Unary ℕ expr_depth_step p op a)
depth_positive _ _ (prefix k p op a h q x) = above_zero (expr_depth a) _ (expr_Pre ℕ expr_depth_step p op a)
depth_positive _ _ (sizeof_expr k p a h x) = above_zero (expr_depth a) _ (expr_SizeofExpr ℕ expr_depth_step p a)
depth_positive _ _ (sizeof_type k p specs stars h q) = above_zero 0 _ (expr_SizeofType ℕ expr_depth_step p specs stars)
depth_positive _ _ (index k p a b h x y) = above_zero (max (expr_depth a) (expr_depth b)) _ (expr_Index ℕ expr_depth_step p a b)
depth_positive _ _ (postfix k p op a h q x) = above_zero (expr_depth a) _ (expr_Post ℕ expr_depth_step p op a)
depth_positive _ _ (call k p f args h x) = above_zero (deepest (map expr_depth args)) _ (expr_Call ℕ expr_depth_step p f args)
depth_positive _ _ (name k p t h) = above_zero 0 _ (expr_Name ℕ expr_depth_step p t)
depth_positive _ _ (number k p kind n h) = above_zero 0 _ (expr_Number ℕ expr_depth_step p kind n)
depth_positive _ _ (character k p t h) = above_zero 0 _ (expr_Char ℕ expr_depth_step p t)
depth_positive _ _ (string k p bytes h) = above_zero 0 _ (expr_Str ℕ expr_depth_step p bytes)
depth_positive _ _ (paren k p a h x) = above_zero (expr_depth a) _ (expr_Paren ℕ expr_depth_step p a)
