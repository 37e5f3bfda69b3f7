-- The token behind an operand keeps what was read true.
use Rattle.std.proofs.Common.{ℕ, ◌≡◌, ◌+◌, ◌≤◌, Bool, true, false, ◌||◌, cond, IsTrue, List, [], ◌∷◌, ◌++◌, map, Some, refl, sym, ◌∙◌, ap, subst, arith, nat_le, append_assoc}
use Rattle.std.specs.Prelude.{max}
use Rattle.std.proofs.lemmas.List.{append-nil}
use Rattle.std.proofs.lemmas.Bool.{leb-true}
use Rattle.k_parse_steps.specs.Types.{Place, Token, TokenKind, Mark, Word, Expr, Term, Open, Site}
use Rattle.k_tree.specs.declared.tokens.TokenKind.TheVariants as token
use Rattle.k_tree.specs.declared.tokens.mark.Mark.TheVariants as mark
use Rattle.k_tree.specs.declared.tree.expression.Expr.TheVariants as expr
use Rattle.k_tree.proofs.Folds.{expr_Paren, expr_Index, expr_Call, expr_Post, expr_Pre, expr_Unary, expr_SizeofExpr, expr_Cast, expr_Cond, expr_Name}
use Rattle.k_tree.specs.Nesting.{deepest, expr_depth, expr_depth_step}
use Rattle.k_tree.specs.Places.{Pieces, plain, at, lay_expr, lay_expr_step, lay_behind_commas, lay_with_commas, Stand}
use Rattle.k_tree.specs.Ranked.{Ranked, RankedArgs, Specs, is_step, is_unary, conditional, cast, unary, prefix, sizeof_expr, index, postfix, call, name, paren, no_args, more_args}
use Rattle.k_tree.specs.Spelling.{the_mark, the_name}
use Rattle.k_parse_steps.specs.Level.{plus, above}
use Rattle.k_parse_steps.specs.Operators.{binding, takes, takes_by, right_of, right_rank, own_of, own_rank, is_step_mark}
use Rattle.k_parse_steps.specs.Expressions.{Opens, goes, level, hole, term, valued, take_operator, plug, closed_by, take_token, takes_token, enclose, enclose_by, argued, colon, posted, enclosed, indexed, infix_tree, infix_made, value, named}
use Rattle.k_parse_steps.specs.Expressions as spec
use Rattle.k_parse_steps.specs.declared.expression.Open.TheVariants as open_
use Rattle.k_parse_steps.specs.declared.expression.ExpressionStage.TheVariants as now
use Rattle.k_parse_steps.proofs.Marks.{Infix, Kind, kind_of, infix_kind, question, bracket, step, no_operator, false_true, token_mark_is}
use Rattle.k_parse_steps.proofs.ExpressionState.{lay_args, lay_open, lay_opens, Fits, OkOpen, ok_infix, ok_then, ok_other, ok_cast, ok_prefix, ok_sizeof, ok_paren, ok_index, ok_call, lev, Valid, Inv, IsRead, Keeps}
use Rattle.k_parse_steps.proofs.ExpressionTerms.{one_at, one, stand-more, regroup, three, four, five, fits_two, fits_one, ranked_as, infix_ranked, infix_laid, infix_deep, and_left, and_right}
use Rattle.k_parse_steps.proofs.OperandSound.{hole_small, cond_keeps}
use Rattle.k_parse_steps.specs.Tokens.{is_mark, token_is_mark}

-- levels
deeper : (lim : ℕ) (g : Site) (s : Opens) (o : Open) (a : Term) → Fits lim (lev g (o ∷ s)) a → Fits lim (lev g s + 1) a
deeper lim g s o a f = record { ranked = f.ranked; height = f.height; within = omega (arith, f.within) }

sunk : (lim : ℕ) (g : Site) (s : Opens) (a : Term) → Fits lim (lev g s) a → plus (level g s) a.height ≤ lim → Fits lim (lev g s + 1) a
sunk lim g s a f r = record {
  ranked = f.ranked;
  height = f.height;
  within = omega (arith, f.height, r);
}

-- arguments
args_push : (args : List Expr) (a : Expr) → RankedArgs args → Ranked 1 a → RankedArgs (args ++ a ∷ [])
args_push [] a h r = more_args a [] r no_args
args_push (x ∷ args) a (more_args _ _ y h) r = more_args x (args ++ a ∷ []) y (args_push args a h r)

deepest_push : (args : List Expr) (a : Expr) → deepest (map expr_depth (args ++ a ∷ [])) ≡ max (deepest (map expr_depth args)) (expr_depth a)
deepest_push [] a = omega arith
deepest_push (x ∷ args) a = omega (arith, deepest_push args a)

lay_args_push : (args : List Expr) (a : Expr) → lay_args (args ++ a ∷ []) ≡ lay_args args ++ (lay_expr a ++ plain (the_mark mark.Comma))
lay_args_push [] a = refl
lay_args_push (x ∷ args) a =
    ap (λ z. lay_expr x ++ (plain (the_mark mark.Comma) ++ z)) (lay_args_push args a)
    ∙ sym (append_assoc (lay_expr x) (plain (the_mark mark.Comma) ++ lay_args args) (lay_expr a ++ plain (the_mark mark.Comma)))

lay_last : (x : Expr) (args : List Expr) (a : Expr)
    → lay_expr x ++ lay_behind_commas (map lay_expr (args ++ a ∷ [])) ≡ lay_args (x ∷ args) ++ lay_expr a
lay_last x [] a =
    ap (λ z. lay_expr x ++ (plain (the_mark mark.Comma) ++ z)) (append-nil (lay_expr a))
    ∙ sym (append_assoc (lay_expr x) (plain (the_mark mark.Comma)) (lay_expr a))
lay_last x (y ∷ args) a =
    ap (λ z. lay_expr x ++ (plain (the_mark mark.Comma) ++ z)) (lay_last y args a)
    ∙ sym (append_assoc (lay_expr x) (plain (the_mark mark.Comma) ++ lay_args (y ∷ args)) (lay_expr a))

lay_all_args : (args : List Expr) (a : Expr) → lay_with_commas (map lay_expr (args ++ a ∷ [])) ≡ lay_args args ++ lay_expr a
lay_all_args [] a = append-nil (lay_expr a)
lay_all_args (x ∷ args) a = lay_last x args a

takes_facts : (hole rank left own right : ℕ) → takes_by hole rank (Some (record { left = left; own = own; right = right })) ≡ true
    → (hole ≤ own) × (left ≤ rank)
takes_facts hole rank left own right h =
    (leb-true hole own (and_left (nat_le hole own) (nat_le left rank) h), leb-true left rank (and_right (nat_le hole own) (nat_le left rank) h))

module _ (lim : ℕ) (g : Site) (ts : List Token) (t : Token) where
  -- an operand was read
  abbrev pub Reads : Opens → Term → Type 0
  Reads s a = Inv lim g s (now.Value a) ts

  -- an operator goes on
  open_keeps : (s : Opens) (o : Open) (reach : ℕ) → (reach ≤ lim → Stand (lay_opens s ++ lay_open o) (ts ++ t ∷ []))
      → (reach ≤ lim → OkOpen lim (lev g s) (hole g s) o) → Valid lim g s → Keeps lim g ts t (goes g (o ∷ s) now.Operand reach)
  open_keeps s o reach st ok v = λ r. (refl, record { stands = st r; opens = (ok r, v); stage = tt })

  infix_keeps : (s : Opens) (a : Term) (op : Mark) (left own right : ℕ) → Infix op left own right → t.what ≡ token.Mark op
      → right_rank op ≡ right → own_rank op ≡ own → hole g s ≤ own → left ≤ a.rank → Reads s a
      → Keeps lim g ts t (goes g (open_.Infix t.place op a ∷ s) now.Operand (plus (level g s) a.height))
  infix_keeps s a op left own right i e r o k le h =
      open_keeps s (open_.Infix t.place op a) (plus (level g s) a.height)
      (λ z. stand-more (lay_opens s) (lay_expr a.tree) _ ts (t ∷ []) h.stands (one_at t (token.Mark op) e))
      (λ z. ok_infix t.place op a left own right i r o k le (sunk lim g s a h.stage.1 z)) h.opens

  posted_keeps : (s : Opens) (a : Term) (op : Mark) → t.what ≡ token.Mark op → IsTrue (is_step op) → 15 ≤ a.rank → Reads s a
      → Keeps lim g ts t (goes g s (now.Value (posted t.place op a)) (plus (level g s) a.height))
  posted_keeps s a op e q le h = λ z. (
    refl,
    record {
      stands = subst (λ y. Stand (lay_opens s ++ y) (ts ++ t ∷ [])) (sym (expr_Post Pieces lay_expr_step t.place op a.tree))
          (stand-more (lay_opens s) (lay_expr a.tree) _ ts (t ∷ []) h.stands (one_at t (token.Mark op) e));
      opens = h.opens;
      stage = (
        omega (arith, hole_small lim g s h.opens),
        fits_one lim (lev g s) 15 (expr.Post t.place op a.tree) a
            (postfix 15 t.place op a.tree (omega arith) q (ranked_as 15 lim (lev g s) a le h.stage.1))
            (expr_Post ℕ expr_depth_step t.place op a.tree) (sunk lim g s a h.stage.1 z),
      );
    },
  )

  question_keeps : (s : Opens) (a : Term) → t.what ≡ token.Mark mark.Question → takes (hole g s) a.rank mark.Question ≡ true → Reads s a
      → Keeps lim g ts t (take_operator g s a mark.Question t.place)
  unfolding take_operator takes binding is_step_mark is_mark
  question_keeps s a e h r =
      let f : (hole g s ≤ 2) × (3 ≤ a.rank) = takes_facts (hole g s) a.rank 3 2 2 h in
      open_keeps s (open_.Then t.place a) (plus (level g s) a.height)
      (λ z. stand-more (lay_opens s) (lay_expr a.tree) _ ts (t ∷ []) r.stands (one_at t (token.Mark mark.Question) e))
      (λ z. ok_then t.place a f.0 f.1 (sunk lim g s a r.stage.1 z)) r.opens

  bracket_keeps : (s : Opens) (a : Term) → t.what ≡ token.Mark mark.LeftBracket → takes (hole g s) a.rank mark.LeftBracket ≡ true → Reads s a
      → Keeps lim g ts t (take_operator g s a mark.LeftBracket t.place)
  unfolding take_operator takes binding is_step_mark is_mark
  bracket_keeps s a e h r =
      let f : (hole g s ≤ 15) × (15 ≤ a.rank) = takes_facts (hole g s) a.rank 15 15 0 h in
      open_keeps s (open_.Index t.place a) (plus (level g s) a.height)
      (λ z. stand-more (lay_opens s) (lay_expr a.tree) _ ts (t ∷ []) r.stands (one_at t (token.Mark mark.LeftBracket) e))
      (λ z. ok_index t.place a (hole_small lim g s r.opens) f.1 (sunk lim g s a r.stage.1 z)) r.opens

  no_step : (op : Mark) → IsTrue (is_step op) → is_step_mark op ≡ false → ⊥
  unfolding is_step_mark
  no_step op q z = false_true (sym z ∙ q)

  pub take_kind : (s : Opens) (a : Term) (op : Mark) → Kind op → t.what ≡ token.Mark op → takes (hole g s) a.rank op ≡ true → Reads s a
      → Keeps lim g ts t (take_operator g s a op t.place)
  unfolding take_operator takes right_rank own_rank
  take_kind s a op (infix_kind _ left own right i b st o) e h r =
      cond_keeps lim g ts t (is_step_mark op) _ _ (λ q. absurd (false_true (sym st ∙ q)))
      (λ q. subst (λ z. Keeps lim g ts t (goes g (z ∷ s) now.Operand (plus (level g s) a.height))) (sym (o a t.place))
      (let f : (hole g s ≤ own) × (left ≤ a.rank) = takes_facts (hole g s) a.rank left own right (sym (ap (takes_by (hole g s) a.rank) b) ∙ h) in
      infix_keeps s a op left own right i e (ap right_of b) (ap own_of b) f.0 f.1 r))
  take_kind s a _ question e h r = question_keeps s a e h r
  take_kind s a _ bracket e h r = bracket_keeps s a e h r
  take_kind s a op (step _ q b) e h r =
      cond_keeps lim g ts t (is_step_mark op) _ _
      (λ z. posted_keeps s a op e q (takes_facts (hole g s) a.rank 15 15 0 (sym (ap (takes_by (hole g s) a.rank) b) ∙ h)).1 r)
      (λ z. absurd (no_step op q z))
  take_kind s a op (no_operator _ b) e h r =
      absurd (false_true (sym (ap (takes_by (hole g s) a.rank) b) ∙ h))

  pub take_keeps : (s : Opens) (a : Term) (k : TokenKind) → t.what ≡ k → takes_token (hole g s) a.rank k ≡ true → Reads s a
      → Keeps lim g ts t (take_token g s a k t.place)
  take_keeps s a (token.Mark op) e h r = take_kind s a op (kind_of op) e h r
  take_keeps s a _ e h r = absurd (false_true h)

  -- marks of the construct around

  pub colon_keeps : (s : Opens) (p : Place) (a b : Term) → t.what ≡ token.Mark mark.Colon → Reads (open_.Then p a ∷ s) b
      → Keeps lim g ts t (colon g s p a b)
  colon_keeps s p a b e r = colon_of r.opens.0
    where
      colon_of : OkOpen lim (lev g s) (hole g s) (open_.Then p a) → Keeps lim g ts t (colon g s p a b)
      colon_of (ok_then _ _ k le f) =
          open_keeps s (open_.Other p a b) 0
          (λ z. three (lay_opens s) (lay_expr a.tree) _ _ (ts ++ t ∷ [])
          (stand-more (lay_opens s ++ lay_open (open_.Then p a)) (lay_expr b.tree) _ ts (t ∷ []) r.stands (one t (token.Mark mark.Colon) e)))
          (λ z. ok_other p a b k le f (deeper lim g s (open_.Then p a) b r.stage.1)) r.opens.1

  pub paren_keeps : (s : Opens) (p : Place) (a : Term) → t.what ≡ token.Mark mark.RightParen → Reads (open_.Paren p ∷ s) a
      → Keeps lim g ts t (valued g s (enclosed p a))
  paren_keeps s p a e r = λ z. (
    refl,
    record {
      stands = subst (λ y. Stand (lay_opens s ++ y) (ts ++ t ∷ [])) (sym (expr_Paren Pieces lay_expr_step p a.tree))
          (regroup (lay_opens s) (lay_open (open_.Paren p)) _ (ts ++ t ∷ [])
          (stand-more (lay_opens s ++ lay_open (open_.Paren p)) (lay_expr a.tree) _ ts (t ∷ []) r.stands (one t (token.Mark mark.RightParen) e)));
      opens = r.opens.1;
      stage = (
        omega (arith, hole_small lim g s r.opens.1),
        fits_one lim (lev g s) 16 (expr.Paren p a.tree) a
            (paren 16 p a.tree (omega arith) (ranked_as 0 lim (lev g (open_.Paren p ∷ s)) a (omega arith) r.stage.1))
            (expr_Paren ℕ expr_depth_step p a.tree) (deeper lim g s (open_.Paren p) a r.stage.1),
      );
    },
  )

  pub index_keeps : (s : Opens) (p : Place) (a b : Term) → t.what ≡ token.Mark mark.RightBracket → Reads (open_.Index p a ∷ s) b
      → Keeps lim g ts t (valued g s (indexed p a b))
  index_keeps s p a b e r = index_of r.opens.0
    where
      index_of : OkOpen lim (lev g s) (hole g s) (open_.Index p a) → Keeps lim g ts t (valued g s (indexed p a b))
      index_of (ok_index _ _ k le f) = λ z. (
        refl,
        record {
          stands = subst (λ y. Stand (lay_opens s ++ y) (ts ++ t ∷ [])) (sym (expr_Index Pieces lay_expr_step p a.tree b.tree))
              (three (lay_opens s) (lay_expr a.tree) _ _ (ts ++ t ∷ [])
              (stand-more (lay_opens s ++ lay_open (open_.Index p a)) (lay_expr b.tree) _ ts (t ∷ []) r.stands (one t (token.Mark mark.RightBracket) e)));
          opens = r.opens.1;
          stage = (
            omega (arith, hole_small lim g s r.opens.1),
            fits_two lim (lev g s) 15 (expr.Index p a.tree b.tree) a b
                (index 15 p a.tree b.tree (omega arith) (ranked_as 15 lim (lev g s + 1) a le f) (ranked_as 0 lim (lev g (open_.Index p a ∷ s)) b (omega arith) r.stage.1))
                (expr_Index ℕ expr_depth_step p a.tree b.tree) f (deeper lim g s (open_.Index p a) b r.stage.1),
          );
        },
      )

  -- an argument was read
  more_argument : (s : Opens) (p : Place) (x : List ℕ) (args : List Expr) (height : ℕ) (a : Term) → t.what ≡ token.Mark mark.Comma
      → OkOpen lim (lev g s) (hole g s) (open_.Call p x args height) → Reads (open_.Call p x args height ∷ s) a
      → Keeps lim g ts t (goes g (open_.Call p x (args ++ a.tree ∷ []) (max height a.height) ∷ s) now.Operand 0)
  unfolding hole
  more_argument s p x args height a e (ok_call _ _ _ _ k ra eh le l) r =
      open_keeps s (open_.Call p x (args ++ a.tree ∷ []) (max height a.height)) 0
      (λ z. subst (λ y. Stand (lay_opens s ++ (at p (plain (the_name x)) ++ (plain (the_mark mark.LeftParen) ++ y))) (ts ++ t ∷ [])) (sym (lay_args_push args a.tree))
      (four (lay_opens s) (at p (plain (the_name x))) (plain (the_mark mark.LeftParen)) (lay_args args) _ (ts ++ t ∷ [])
      (stand-more (lay_opens s ++ lay_open (open_.Call p x args height)) (lay_expr a.tree) _ ts (t ∷ []) r.stands (one t (token.Mark mark.Comma) e))))
      (λ z. ok_call p x (args ++ a.tree ∷ []) (max height a.height) k
      (args_push args a.tree ra (ranked_as 1 lim (lev g (open_.Call p x args height ∷ s)) a r.stage.0 r.stage.1))
      (omega (arith, eh, r.stage.1.height, deepest_push args a.tree)) le
      (omega (arith, l, r.stage.1.height, (deeper lim g s (open_.Call p x args height) a r.stage.1).within))) r.opens.1

  last_argument : (s : Opens) (p : Place) (x : List ℕ) (args : List Expr) (height : ℕ) (a : Term) → t.what ≡ token.Mark mark.RightParen
      → OkOpen lim (lev g s) (hole g s) (open_.Call p x args height) → Reads (open_.Call p x args height ∷ s) a
      → Keeps lim g ts t (valued g s (term (expr.Call p x (args ++ a.tree ∷ [])) 15 (plus (max height a.height) 1)))
  unfolding hole
  last_argument s p x args height a e (ok_call _ _ _ _ k ra eh le l) r = λ z. (
    refl,
    record {
      stands = subst (λ y. Stand (lay_opens s ++ y) (ts ++ t ∷ [])) (sym (expr_Call Pieces lay_expr_step p x (args ++ a.tree ∷ [])))
          (subst (λ y. Stand (lay_opens s ++ (at p (plain (the_name x)) ++ (plain (the_mark mark.LeftParen) ++ (y ++ plain (the_mark mark.RightParen))))) (ts ++ t ∷ [])) (sym (lay_all_args args a.tree))
          (subst (λ y. Stand (lay_opens s ++ (at p (plain (the_name x)) ++ (plain (the_mark mark.LeftParen) ++ y))) (ts ++ t ∷ [])) (sym (append_assoc (lay_args args) (lay_expr a.tree) (plain (the_mark mark.RightParen))))
          (four (lay_opens s) (at p (plain (the_name x))) (plain (the_mark mark.LeftParen)) (lay_args args) _ (ts ++ t ∷ [])
          (stand-more (lay_opens s ++ lay_open (open_.Call p x args height)) (lay_expr a.tree) _ ts (t ∷ []) r.stands (one t (token.Mark mark.RightParen) e)))));
      opens = r.opens.1;
      stage = (
        omega (arith, hole_small lim g s r.opens.1),
        record {
          ranked = call 15 p x (args ++ a.tree ∷ []) (omega arith)
              (args_push args a.tree ra (ranked_as 1 lim (lev g (open_.Call p x args height ∷ s)) a r.stage.0 r.stage.1));
          height = called_height;
          within = omega (arith, called_depth, deepest_push args a.tree, eh, r.stage.1.height, l, (deeper lim g s (open_.Call p x args height) a r.stage.1).within);
        },
      );
    },
  )
    where
      called_depth : expr_depth (expr.Call p x (args ++ a.tree ∷ [])) ≡ 1 + deepest (map expr_depth (args ++ a.tree ∷ []))
      called_depth = expr_Call ℕ expr_depth_step p x (args ++ a.tree ∷ [])

      called_height : plus (max height a.height) 1 ≡ expr_depth (expr.Call p x (args ++ a.tree ∷ []))
      called_height = omega (arith, called_depth, deepest_push args a.tree, eh, r.stage.1.height, l, (deeper lim g s (open_.Call p x args height) a r.stage.1).within)

  argued_keeps : (s : Opens) (p : Place) (x : List ℕ) (args : List Expr) (height : ℕ) (a : Term) (m : Mark) → t.what ≡ token.Mark m
      → Reads (open_.Call p x args height ∷ s) a
      → Keeps lim g ts t (argued g s (record { place = p; name = x; args = args ++ a.tree ∷ []; height = max height a.height }) m)
  unfolding argued
  argued_keeps s p x args height a mark.Comma e r = more_argument s p x args height a e r.opens.0 r
  argued_keeps s p x args height a mark.RightParen e r = last_argument s p x args height a e r.opens.0 r
  argued_keeps s p x args height a _ e r = tt

  then_ends_keeps : (s : Opens) (p : Place) (a b : Term) (m : Mark) → t.what ≡ token.Mark m → Reads (open_.Then p a ∷ s) b
      → Keeps lim g ts t (spec.then_ends g s p a b m)
  unfolding spec.then_ends
  then_ends_keeps s p a b mark.Colon e r = colon_keeps s p a b e r
  then_ends_keeps s p a b _ e r = tt

  paren_ends_keeps : (s : Opens) (p : Place) (a : Term) (m : Mark) → t.what ≡ token.Mark m → Reads (open_.Paren p ∷ s) a
      → Keeps lim g ts t (spec.paren_ends g s p a m)
  unfolding spec.paren_ends
  paren_ends_keeps s p a mark.RightParen e r = paren_keeps s p a e r
  paren_ends_keeps s p a _ e r = tt

  index_ends_keeps : (s : Opens) (p : Place) (a b : Term) (m : Mark) → t.what ≡ token.Mark m → Reads (open_.Index p a ∷ s) b
      → Keeps lim g ts t (spec.index_ends g s p a b m)
  unfolding spec.index_ends
  index_ends_keeps s p a b mark.RightBracket e r = index_keeps s p a b e r
  index_ends_keeps s p a b _ e r = tt

  -- the mark of the construct around
  enclose_keeps : (s : Opens) (o : Open) (a : Term) (m : Mark) → t.what ≡ token.Mark m → Reads (o ∷ s) a
      → Keeps lim g ts t (enclose g s o a m)
  unfolding enclose
  enclose_keeps s (open_.Then p b) a m e r = then_ends_keeps s p b a m e r
  enclose_keeps s (open_.Paren p) a m e r = paren_ends_keeps s p a m e r
  enclose_keeps s (open_.Index p b) a m e r = index_ends_keeps s p b a m e r
  enclose_keeps s (open_.Call p x args height) a m e r = argued_keeps s p x args height a m e r
  enclose_keeps s o a m e r = tt

  around_keeps : (s : Opens) (o : Open) (a : Term) (k : TokenKind) → t.what ≡ k → Reads (o ∷ s) a → Keeps lim g ts t (enclose_by g s o a k)
  around_keeps s o a (token.Mark m) e r = enclose_keeps s o a m e r
  around_keeps s o a _ e r = tt

  -- a construct that ends with its operand

  step_hole : (b : Bool) (n : ℕ) → cond b 14 13 ≤ n → b ≡ true → 14 ≤ n
  step_hole true n h e = h
  step_hole false n h e = absurd (false_true e)

  unary_hole : (b : Bool) (n : ℕ) → cond b 14 13 ≤ n → 13 ≤ n
  unary_hole true n h = omega (arith, h)
  unary_hole false n h = h

  only_unary : (a b : Bool) → IsTrue (a || b) → a ≡ false → IsTrue b
  only_unary true b h e = absurd (false_true (sym e))
  only_unary false b h e = h

  prefix_reads : (s : Opens) (p : Place) (op : Mark) (a : Term) (b : Bool) → is_step_mark op ≡ b → hole g s ≤ 14
      → IsTrue (is_step op || is_unary op) → Reads (open_.Prefix p op ∷ s) a
      → Reads s (term (cond b (expr.Pre p op a.tree) (expr.Unary p op a.tree)) 14 (above a.height 0))
  unfolding is_step_mark hole spec.prefix_rank
  prefix_reads s p op a true e k h r = record {
    stands = subst (λ y. Stand (lay_opens s ++ y) ts) (sym (expr_Pre Pieces lay_expr_step p op a.tree)) (regroup (lay_opens s) (lay_open (open_.Prefix p op)) (lay_expr a.tree) ts r.stands);
    opens = r.opens.1;
    stage = (
      k,
      fits_one lim (lev g s) 14 (expr.Pre p op a.tree) a
          (prefix 14 p op a.tree (omega arith) e (ranked_as 14 lim (lev g (open_.Prefix p op ∷ s)) a (step_hole (is_step op) a.rank r.stage.0 e) r.stage.1))
          (expr_Pre ℕ expr_depth_step p op a.tree) (deeper lim g s (open_.Prefix p op) a r.stage.1),
    );
  }
  prefix_reads s p op a false e k h r = record {
    stands = subst (λ y. Stand (lay_opens s ++ y) ts) (sym (expr_Unary Pieces lay_expr_step p op a.tree)) (regroup (lay_opens s) (lay_open (open_.Prefix p op)) (lay_expr a.tree) ts r.stands);
    opens = r.opens.1;
    stage = (
      k,
      fits_one lim (lev g s) 14 (expr.Unary p op a.tree) a
          (unary 14 p op a.tree (omega arith) (only_unary (is_step op) (is_unary op) h e) (ranked_as 13 lim (lev g (open_.Prefix p op ∷ s)) a (unary_hole (is_step op) a.rank r.stage.0) r.stage.1))
          (expr_Unary ℕ expr_depth_step p op a.tree) (deeper lim g s (open_.Prefix p op) a r.stage.1),
    );
  }

  infix_reads : (s : Opens) (p : Place) (op : Mark) (a b : Term) (left own right : ℕ) → Infix op left own right → right_rank op ≡ right
      → hole g s ≤ own → left ≤ a.rank → Fits lim (lev g s + 1) a → Reads (open_.Infix p op a ∷ s) b
      → Reads s (term (infix_tree own p op a.tree b.tree) own (above a.height b.height))
  unfolding hole
  infix_reads s p op a b left own right i e k le f r = record {
    stands = subst (λ y. Stand (lay_opens s ++ y) ts) (sym (infix_laid op left own right i p a.tree b.tree))
        (three (lay_opens s) (lay_expr a.tree) _ (lay_expr b.tree) ts r.stands);
    opens = r.opens.1;
    stage = (
      k,
      fits_two lim (lev g s) own (infix_tree own p op a.tree b.tree) a b
          (infix_ranked op left own right i p a.tree b.tree (ranked_as left lim (lev g s + 1) a le f)
          (ranked_as right lim (lev g (open_.Infix p op a ∷ s)) b (subst (λ n. n ≤ b.rank) e r.stage.0) r.stage.1))
          (infix_deep op left own right i p a.tree b.tree) f (deeper lim g s (open_.Infix p op a) b r.stage.1),
    );
  }

  other_reads : (s : Opens) (p : Place) (a b c : Term) → hole g s ≤ 2 → 3 ≤ a.rank → Fits lim (lev g s + 1) a → Fits lim (lev g s + 1) b
      → Reads (open_.Other p a b ∷ s) c → Reads s (spec.conditional p a b c)
  unfolding hole
  other_reads s p a b c k le f h r = record {
    stands = subst (λ y. Stand (lay_opens s ++ y) ts) (sym (expr_Cond Pieces lay_expr_step p a.tree b.tree c.tree))
        (five (lay_opens s) (lay_expr a.tree) (at p (plain (the_mark mark.Question))) (lay_expr b.tree) (plain (the_mark mark.Colon)) (lay_expr c.tree) ts r.stands);
    opens = r.opens.1;
    stage = (
      k,
      record {
        ranked = conditional 2 p a.tree b.tree c.tree (omega arith) (ranked_as 3 lim (lev g s + 1) a le f)
            (ranked_as 0 lim (lev g s + 1) b (omega arith) h) (ranked_as 2 lim (lev g (open_.Other p a b ∷ s)) c r.stage.0 r.stage.1);
        height = omega (arith, made, f.height, h.height, r.stage.1.height, f.within, h.within, (deeper lim g s (open_.Other p a b) c r.stage.1).within);
        within = omega (arith, made, f.within, h.within, (deeper lim g s (open_.Other p a b) c r.stage.1).within);
      },
    );
  }
    where
      made : expr_depth (expr.Cond p a.tree b.tree c.tree) ≡ 1 + max (expr_depth a.tree) (max (expr_depth b.tree) (expr_depth c.tree))
      made = expr_Cond ℕ expr_depth_step p a.tree b.tree c.tree

  cast_reads : (s : Opens) (p : Place) (specs : List Word) (stars : List Bool) (a : Term) → hole g s ≤ 13 → Specs specs
      → Reads (open_.Cast p specs stars ∷ s) a → Reads s (term (expr.Cast p specs stars a.tree) 13 (above a.height 0))
  unfolding hole
  cast_reads s p specs stars a k h r = record {
    stands = subst (λ y. Stand (lay_opens s ++ y) ts) (sym (expr_Cast Pieces lay_expr_step p specs stars a.tree))
        (regroup (lay_opens s) (lay_open (open_.Cast p specs stars)) (lay_expr a.tree) ts r.stands);
    opens = r.opens.1;
    stage = (
      k,
      fits_one lim (lev g s) 13 (expr.Cast p specs stars a.tree) a
          (cast 13 p specs stars a.tree (omega arith) h (ranked_as 13 lim (lev g (open_.Cast p specs stars ∷ s)) a r.stage.0 r.stage.1))
          (expr_Cast ℕ expr_depth_step p specs stars a.tree) (deeper lim g s (open_.Cast p specs stars) a r.stage.1),
    );
  }

  sizeof_reads : (s : Opens) (p : Place) (a : Term) → hole g s ≤ 14 → Reads (open_.Sizeof p ∷ s) a
      → Reads s (term (expr.SizeofExpr p a.tree) 14 (above a.height 0))
  unfolding hole
  sizeof_reads s p a k r = record {
    stands = subst (λ y. Stand (lay_opens s ++ y) ts) (sym (expr_SizeofExpr Pieces lay_expr_step p a.tree))
        (regroup (lay_opens s) (lay_open (open_.Sizeof p)) (lay_expr a.tree) ts r.stands);
    opens = r.opens.1;
    stage = (
      k,
      fits_one lim (lev g s) 14 (expr.SizeofExpr p a.tree) a
          (sizeof_expr 14 p a.tree (omega arith) (ranked_as 14 lim (lev g (open_.Sizeof p ∷ s)) a r.stage.0 r.stage.1))
          (expr_SizeofExpr ℕ expr_depth_step p a.tree) (deeper lim g s (open_.Sizeof p) a r.stage.1),
    );
  }

  plug_keeps : (s : Opens) (o : Open) (a : Term) → OkOpen lim (lev g s) (hole g s) o → Reads (o ∷ s) a
      → ((b : Term) → Reads s b → Keeps lim g ts t (value g s b t))
      → Keeps lim g ts t (closed_by g s (plug o a) t.what (λ b. value g s b t))
  unfolding plug spec.prefixed spec.infix_made
  plug_keeps s _ a (ok_infix p op b left own right i r o k le f) h again =
      again (infix_made p op b a)
      (subst (λ n. Reads s (term (infix_tree n p op b.tree a.tree) n (above b.height a.height))) (sym o) (infix_reads s p op b a left own right i r k le f h))
  plug_keeps s _ a (ok_then p b k le f) h again = around_keeps s (open_.Then p b) a t.what refl h
  plug_keeps s _ a (ok_other p b c k le f f2) h again = again (spec.conditional p b c a) (other_reads s p b c a k le f f2 h)
  plug_keeps s _ a (ok_cast p specs stars k q) h again =
      again (term (expr.Cast p specs stars a.tree) 13 (above a.height 0)) (cast_reads s p specs stars a k q h)
  plug_keeps s _ a (ok_prefix p op k q) h again = again (spec.prefixed p op a) (prefix_reads s p op a (is_step_mark op) refl k q h)
  plug_keeps s _ a (ok_sizeof p k le) h again = again (term (expr.SizeofExpr p a.tree) 14 (above a.height 0)) (sizeof_reads s p a k h)
  plug_keeps s _ a (ok_paren p k) h again = around_keeps s (open_.Paren p) a t.what refl h
  plug_keeps s _ a (ok_index p b k le f) h again = around_keeps s (open_.Index p b) a t.what refl h
  plug_keeps s _ a (ok_call p x args height k ra eh le l) h again = around_keeps s (open_.Call p x args height) a t.what refl h

  end_keeps : (a : Term) → Reads [] a → IsRead lim g a.tree ts
  unfolding hole
  end_keeps a r = record { ranked = ranked_as g.rank lim (lev g []) a r.stage.0 r.stage.1; stands = r.stands; within = omega (arith, r.stage.1.within) }

  pub value_keeps : (s : Opens) (a : Term) → Reads s a → Keeps lim g ts t (value g s a t)
  unfolding value
  value_keeps [] a r =
      cond_keeps lim g ts t (takes_token (hole g []) a.rank t.what) _ _ (λ h. take_keeps [] a t.what refl h r) (λ h. end_keeps a r)
  value_keeps (o ∷ s) a r =
      cond_keeps lim g ts t (takes_token (hole g (o ∷ s)) a.rank t.what) _ _ (λ h. take_keeps (o ∷ s) a t.what refl h r)
      (λ h. plug_keeps s o a r.opens.0 r (value_keeps s))

  -- behind a name
  call_opens : (s : Opens) (p : Place) (x : List ℕ) → t.what ≡ token.Mark mark.LeftParen → Inv lim g s (now.Named p x) ts
      → Keeps lim g ts t (goes g (open_.Call p x [] 0 ∷ s) now.Operand 0)
  call_opens s p x e i =
      open_keeps s (open_.Call p x [] 0) 0
      (λ z. stand-more (lay_opens s) (at p (plain (the_name x))) _ ts (t ∷ []) i.stands (one t (token.Mark mark.LeftParen) e))
      (λ z. ok_call p x [] 0 (hole_small lim g s i.opens) no_args refl i.stage (omega (arith, i.stage))) i.opens

  name_reads : (s : Opens) (p : Place) (x : List ℕ) → Inv lim g s (now.Named p x) ts → Reads s (term (expr.Name p x) 16 1)
  name_reads s p x i = record {
    stands = subst (λ y. Stand (lay_opens s ++ y) ts) (sym (expr_Name Pieces lay_expr_step p x)) i.stands;
    opens = i.opens;
    stage = (
      omega (arith, hole_small lim g s i.opens),
      record {
        ranked = name 16 p x (omega arith);
        height = sym (expr_Name ℕ expr_depth_step p x);
        within = omega (arith, expr_Name ℕ expr_depth_step p x, i.stage);
      },
    );
  }

  pub named_keeps : (s : Opens) (p : Place) (x : List ℕ) → Inv lim g s (now.Named p x) ts → Keeps lim g ts t (named g s p x t)
  unfolding named
  named_keeps s p x i =
      cond_keeps lim g ts t (token_is_mark t.what mark.LeftParen) _ _ (λ h. call_opens s p x (token_mark_is t.what mark.LeftParen h) i)
      (λ h. value_keeps s (term (expr.Name p x) 16 1) (name_reads s p x i))
