-- Small laws of what was read of an expression: tokens that stand, ranks, heights.
use Rattle.std.proofs.Common.{ℕ, suc, ◌≡◌, ◌+◌, ◌≤◌, Bool, true, false, ◌&&◌, List, [], ◌∷◌, ◌++◌, refl, ◌∙◌, ap, subst, arith, append_assoc}
use Rattle.std.specs.Prelude.{max}
use Rattle.std.proofs.lemmas.List.Elements.{All-nil, All-cons}
use Rattle.k_parse_steps.specs.Types.{Place, Token, TokenKind, Mark, Expr, Term}
use Rattle.k_tree.proofs.Folds.{expr_Assign, expr_Binary, expr_Comma}
use Rattle.k_tree.specs.Nesting.{expr_depth, expr_depth_step}
use Rattle.k_tree.specs.Places.{Pieces, plain, at, lay_expr, lay_expr_step, Stand}
use Rattle.k_tree.specs.Ranked.{Ranked, comma, assignment, binary}
use Rattle.k_tree.specs.Spelling.{the_mark}
use Rattle.k_tree.proofs.Ranks.{lower}
use Rattle.k_tree.proofs.Standing.{stand-append}
use Rattle.k_parse_steps.specs.Level.{above}
use Rattle.k_parse_steps.specs.Expressions.{infix_tree, term}
use Rattle.k_parse_steps.proofs.Marks.{Infix, is_comma, is_assign, is_binary}
use Rattle.k_parse_steps.proofs.ExpressionState.{Fits}

-- one token
pub one_at : (t : Token) (k : TokenKind) → t.what ≡ k → Stand (at t.place (plain (k ∷ []))) (t ∷ [])
one_at t k e = (e, All-cons (λ q. q ≡ t.place) t.place [] refl (All-nil (λ q. q ≡ t.place)), tt)

pub one : (t : Token) (k : TokenKind) → t.what ≡ k → Stand (plain (k ∷ [])) (t ∷ [])
one t k e = (e, All-nil (λ q. q ≡ t.place), tt)

-- pieces behind others
pub stand-more : (xs a b : Pieces) (ts us : List Token) → Stand (xs ++ a) ts → Stand b us → Stand (xs ++ (a ++ b)) (ts ++ us)
stand-more xs a b ts us h k = subst (λ z. Stand z (ts ++ us)) (append_assoc xs a b) (stand-append (xs ++ a) b ts us h k)

pub regroup : (xs a b : Pieces) (ts : List Token) → Stand ((xs ++ a) ++ b) ts → Stand (xs ++ (a ++ b)) ts
regroup xs a b ts h = subst (λ z. Stand z ts) (append_assoc xs a b) h

pub three : (xs a b c : Pieces) (ts : List Token) → Stand ((xs ++ (a ++ b)) ++ c) ts → Stand (xs ++ (a ++ (b ++ c))) ts
three xs a b c ts h = subst (λ z. Stand z ts) (append_assoc xs (a ++ b) c ∙ ap (λ z. xs ++ z) (append_assoc a b c)) h

pub four : (xs a b c d : Pieces) (ts : List Token) → Stand ((xs ++ (a ++ (b ++ c))) ++ d) ts → Stand (xs ++ (a ++ (b ++ (c ++ d)))) ts
four xs a b c d ts h =
    subst (λ z. Stand z ts) (ap (λ z. xs ++ (a ++ z)) (append_assoc b c d)) (three xs a (b ++ c) d ts h)

pub five : (xs a b c d e : Pieces) (ts : List Token) → Stand ((xs ++ (a ++ (b ++ (c ++ d)))) ++ e) ts → Stand (xs ++ (a ++ (b ++ (c ++ (d ++ e))))) ts
five xs a b c d e ts h =
    subst (λ z. Stand z ts) (ap (λ z. xs ++ (a ++ (b ++ z))) (append_assoc c d e)) (four xs a b (c ++ d) e ts h)

pub fits_two : (lim l rank : ℕ) (e : Expr) (a b : Term) → Ranked rank e
    → expr_depth e ≡ 1 + max (expr_depth a.tree) (expr_depth b.tree)
    → Fits lim (l + 1) a → Fits lim (l + 1) b → Fits lim l (term e rank (above a.height b.height))
fits_two lim l rank e a b r d fa fb = record {
  ranked = r;
  height = omega (arith, d, fa.height, fb.height);
  within = omega (arith, d, fa.within, fb.within);
}

pub fits_one : (lim l rank : ℕ) (e : Expr) (a : Term) → Ranked rank e → expr_depth e ≡ 1 + expr_depth a.tree
    → Fits lim (l + 1) a → Fits lim l (term e rank (above a.height 0))
fits_one lim l rank e a r d fa = record {
  ranked = r;
  height = omega (arith, d, fa.height);
  within = omega (arith, d, fa.within);
}

-- what has a rank has each lower one
pub ranked_as : (k : ℕ) (lim l : ℕ) (a : Term) → k ≤ a.rank → Fits lim l a → Ranked k a.tree
ranked_as k lim l a le f = lower k a.rank a.tree le f.ranked

-- what an infix operator makes
pub infix_ranked : (op : Mark) (left own right : ℕ) → Infix op left own right → (p : Place) (a b : Expr)
    → Ranked left a → Ranked right b → Ranked own (infix_tree own p op a b)
infix_ranked _ _ _ _ is_comma p a b x y = comma 0 p a b (omega arith) x y
infix_ranked _ _ _ _ (is_assign op h) p a b x y = assignment 1 p op a b (omega arith) h x y
infix_ranked _ _ _ _ (is_binary op n h le) p a b x y = binary (suc (suc n)) p op (suc (suc n)) a b (omega arith) h x y

pub infix_laid : (op : Mark) (left own right : ℕ) → Infix op left own right → (p : Place) (a b : Expr)
    → lay_expr (infix_tree own p op a b) ≡ lay_expr a ++ (at p (plain (the_mark op)) ++ lay_expr b)
infix_laid _ _ _ _ is_comma p a b = expr_Comma Pieces lay_expr_step p a b
infix_laid _ _ _ _ (is_assign op h) p a b = expr_Assign Pieces lay_expr_step p op a b
infix_laid _ _ _ _ (is_binary op n h le) p a b = expr_Binary Pieces lay_expr_step p op a b

pub infix_deep : (op : Mark) (left own right : ℕ) → Infix op left own right → (p : Place) (a b : Expr)
    → expr_depth (infix_tree own p op a b) ≡ 1 + max (expr_depth a) (expr_depth b)
infix_deep _ _ _ _ is_comma p a b = expr_Comma ℕ expr_depth_step p a b
infix_deep _ _ _ _ (is_assign op h) p a b = expr_Assign ℕ expr_depth_step p op a b
infix_deep _ _ _ _ (is_binary op n h le) p a b = expr_Binary ℕ expr_depth_step p op a b

-- tests
pub and_left : (a b : Bool) → (a && b) ≡ true → a ≡ true
and_left true b h = refl
and_left false b h = cc

pub and_right : (a b : Bool) → (a && b) ≡ true → b ≡ true
and_right true b h = h
and_right false b h = cc
