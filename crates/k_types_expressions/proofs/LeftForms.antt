-- What is left where the forms are taken off one group after the other.
use Rattle.std.proofs.Common.{ℕ, ℤ, ◌≡◌, Bool, true, List, refl, sym, ◌∙◌}
use Rattle.k_num.specs.declared.numbers.Kind.{Kind}
use Rattle.k_num.specs.declared.place.Place.{Place}
use Rattle.k_tree.specs.declared.tokens.mark.Mark.{Mark}
use Rattle.k_tree.specs.declared.tokens.word.Word.{Word}
use Rattle.k_tree.specs.declared.tree.expression.Expr.{Expr, out-Expr, roll-Expr, roll-out-Expr}
use Rattle.k_tree.specs.declared.tree.expression.Expr.TheOpen.{Expr-F}
use Rattle.k_tree.specs.declared.tree.expression.Expr.TheVariants as expr
use Rattle.k_types_expressions.specs.Forms.{has_operator, has_operator_at, has_infix, has_infix_at}

-- what is none of these has an operator
pub with_operator : (e : Expr)
    → ((p : Place) (x : List ℕ) → e ≡ expr.Name p x → ⊥) → ((p : Place) (kind : Kind) (n : ℕ) → e ≡ expr.Number p kind n → ⊥) → ((p : Place) (z : ℤ) → e ≡ expr.Char p z → ⊥) → ((p : Place) (bytes : List ℕ) → e ≡ expr.Str p bytes → ⊥) → ((p : Place) (specs : List Word) (stars : List Bool) → e ≡ expr.SizeofType p specs stars → ⊥) → ((p : Place) (a : Expr) → e ≡ expr.Paren p a → ⊥) → ((p : Place) (f : List ℕ) (args : List Expr) → e ≡ expr.Call p f args → ⊥)
    → has_operator e ≡ true
with_operator e not_Name not_Number not_Char not_Str not_SizeofType not_Paren not_Call = by_form (out-Expr e) (roll-out-Expr e)
  where
    by_form : (x : Expr-F Expr) → roll-Expr x ≡ e → has_operator_at x ≡ true
    by_form (Expr-F.Name p x) is = absurd (not_Name p x (sym is ∙ expr.rolls-Name p x))
    by_form (Expr-F.Number p kind n) is = absurd (not_Number p kind n (sym is ∙ expr.rolls-Number p kind n))
    by_form (Expr-F.Char p z) is = absurd (not_Char p z (sym is ∙ expr.rolls-Char p z))
    by_form (Expr-F.Str p bytes) is = absurd (not_Str p bytes (sym is ∙ expr.rolls-Str p bytes))
    by_form (Expr-F.SizeofType p specs stars) is = absurd (not_SizeofType p specs stars (sym is ∙ expr.rolls-SizeofType p specs stars))
    by_form (Expr-F.Paren p a) is = absurd (not_Paren p a (sym is ∙ expr.rolls-Paren p a))
    by_form (Expr-F.Call p f args) is = absurd (not_Call p f args (sym is ∙ expr.rolls-Call p f args))
    by_form x is = refl

-- an operator that is none of these stands between operands
pub with_infix : (e : Expr) → has_operator e ≡ true
    → ((p : Place) (a : Expr) (b : Expr) → e ≡ expr.Index p a b → ⊥) → ((p : Place) (op : Mark) (a : Expr) → e ≡ expr.Post p op a → ⊥) → ((p : Place) (op : Mark) (a : Expr) → e ≡ expr.Pre p op a → ⊥) → ((p : Place) (op : Mark) (a : Expr) → e ≡ expr.Unary p op a → ⊥) → ((p : Place) (a : Expr) → e ≡ expr.SizeofExpr p a → ⊥) → ((p : Place) (specs : List Word) (stars : List Bool) (a : Expr) → e ≡ expr.Cast p specs stars a → ⊥)
    → has_infix e ≡ true
with_infix e known not_Index not_Post not_Pre not_Unary not_SizeofExpr not_Cast = by_form (out-Expr e) (roll-out-Expr e) known
  where
    by_form : (x : Expr-F Expr) → roll-Expr x ≡ e → has_operator_at x ≡ true → has_infix_at x ≡ true
    by_form (Expr-F.Index p a b) is h = absurd (not_Index p a b (sym is ∙ expr.rolls-Index p a b))
    by_form (Expr-F.Post p op a) is h = absurd (not_Post p op a (sym is ∙ expr.rolls-Post p op a))
    by_form (Expr-F.Pre p op a) is h = absurd (not_Pre p op a (sym is ∙ expr.rolls-Pre p op a))
    by_form (Expr-F.Unary p op a) is h = absurd (not_Unary p op a (sym is ∙ expr.rolls-Unary p op a))
    by_form (Expr-F.SizeofExpr p a) is h = absurd (not_SizeofExpr p a (sym is ∙ expr.rolls-SizeofExpr p a))
    by_form (Expr-F.Cast p specs stars a) is h = absurd (not_Cast p specs stars a (sym is ∙ expr.rolls-Cast p specs stars a))
    by_form (Expr-F.Binary p op a b) is h = refl
    by_form (Expr-F.Cond p a b c) is h = refl
    by_form (Expr-F.Assign p op a b) is h = refl
    by_form (Expr-F.Comma p a b) is h = refl
    by_form x is h = h

-- no operator between operands is left
pub no_more : (e : Expr) → has_infix e ≡ true
    → ((p : Place) (op : Mark) (a : Expr) (b : Expr) → e ≡ expr.Binary p op a b → ⊥) → ((p : Place) (a : Expr) (b : Expr) (c : Expr) → e ≡ expr.Cond p a b c → ⊥) → ((p : Place) (op : Mark) (a : Expr) (b : Expr) → e ≡ expr.Assign p op a b → ⊥) → ((p : Place) (a : Expr) (b : Expr) → e ≡ expr.Comma p a b → ⊥)
    → ⊥
no_more e known not_Binary not_Cond not_Assign not_Comma = by_form (out-Expr e) (roll-out-Expr e) known
  where
    by_form : (x : Expr-F Expr) → roll-Expr x ≡ e → has_infix_at x ≡ true → ⊥
    by_form (Expr-F.Binary p op a b) is h = absurd (not_Binary p op a b (sym is ∙ expr.rolls-Binary p op a b))
    by_form (Expr-F.Cond p a b c) is h = absurd (not_Cond p a b c (sym is ∙ expr.rolls-Cond p a b c))
    by_form (Expr-F.Assign p op a b) is h = absurd (not_Assign p op a b (sym is ∙ expr.rolls-Assign p op a b))
    by_form (Expr-F.Comma p a b) is h = absurd (not_Comma p a b (sym is ∙ expr.rolls-Comma p a b))
    by_form x is h = cc h
