-- The first token of an operand, and tokens in the name of a type, keep what was read true.
use Rattle.std.proofs.Common.{ℕ, ◌≡◌, ◌≤◌, Bool, true, false, ◌&&◌, cond, IsTrue, List, [], ◌∷◌, ◌++◌, length, refl, sym, ◌∙◌, ap, subst, arith, nat_eq}
use Rattle.std.proofs.lemmas.Bool.{eqb-true}
use Rattle.std.proofs.lemmas.List.Elements.{All-nil, All-cons}
use Rattle.k_parse_steps.specs.Types.{Place, Token, TokenKind, Mark, Word, Expr, Site, Fed}
use Rattle.k_tree.specs.declared.tokens.TokenKind.TheVariants as token
use Rattle.k_tree.specs.declared.tokens.mark.Mark.TheVariants as mark
use Rattle.k_tree.specs.declared.tokens.word.Word.TheVariants as word
use Rattle.k_tree.specs.declared.tree.expression.Expr.TheVariants as expr
use Rattle.k_tree.proofs.Folds.{expr_Number, expr_Char, expr_Str, expr_Call}
use Rattle.k_tree.specs.Nesting.{expr_depth, expr_depth_step}
use Rattle.k_tree.specs.Places.{Pieces, plain, at, lay_expr, lay_expr_step, Stand}
use Rattle.k_tree.specs.Ranked.{Ranked, is_spec, number, character, string, call, no_args}
use Rattle.k_tree.specs.Spelling.{the_mark, the_word}
use Rattle.k_tree.proofs.Standing.{stand-append}
use Rattle.k_parse_steps.specs.Operators.{is_prefix_mark, is_step_mark, is_spec_word}
use Rattle.k_parse_steps.specs.Expressions.{Opens, goes, level, hole, prefix_rank, leaf, opened, no_arguments, prefix_operator, mark_operand, is_before_type, type_begun, word_operand, operand_at, operand}
use Rattle.k_parse_steps.specs.declared.expression.Open.TheVariants as open_
use Rattle.k_parse_steps.specs.declared.expression.ExpressionStage.TheVariants as now
use Rattle.k_parse_steps.specs.declared.turn.Turn.TheVariants as turn
use Rattle.k_parse_steps.proofs.Marks.{Infix, is_comma, is_assign, is_binary, mark_is, word_is}
use Rattle.k_parse_steps.proofs.ExpressionState.{lay_opens, ok_infix, ok_then, ok_other, ok_cast, ok_prefix, ok_sizeof, ok_paren, ok_index, ok_call, Valid, Keeps}
use Rattle.k_parse_steps.proofs.ExpressionTerms.{one_at, one, stand-more, and_left, and_right}
use Rattle.k_parse_steps.specs.Tokens.{is_mark, is_word}

-- the right operand of an infix operator has a rank up to 13
infix_right : (op : Mark) (left own right : ℕ) → Infix op left own right → own ≤ 12 → right ≤ 14
infix_right _ _ _ _ is_comma h = omega arith
infix_right _ _ _ _ (is_assign op e) h = omega arith
infix_right _ _ _ _ (is_binary op n e le) h = omega (arith, h)

pub cond_keeps : (lim : ℕ) (g : Site) (ts : List Token) (t : Token) (b : Bool) (x y : Fed)
    → (b ≡ true → Keeps lim g ts t x) → (b ≡ false → Keeps lim g ts t y) → Keeps lim g ts t (cond b x y)
cond_keeps lim g ts t true x y f h = f refl
cond_keeps lim g ts t false x y f h = h refl

prefix_small : (b : Bool) → cond b 14 13 ≤ 14
prefix_small true = omega arith
prefix_small false = omega arith

binary_small : (op : Mark) (left own right : ℕ) → Infix op left own right → own ≤ 12
binary_small _ _ _ _ is_comma = omega arith
binary_small _ _ _ _ (is_assign op e) = omega arith
binary_small _ _ _ _ (is_binary op n e le) = le

-- the place in an open construct takes some rank up to 14
pub hole_small : (lim : ℕ) (g : Site) (s : Opens) → Valid lim g s → hole g s ≤ 14
unfolding hole prefix_rank
hole_small lim g [] v = omega (arith, v)
hole_small lim g (_ ∷ s) (ok_infix p op a left own right i r o le1 le2 f, v) = rw r (infix_right op left own right i (binary_small op left own right i))
hole_small lim g (_ ∷ s) (ok_then p a h1 h2 f, v) = omega arith
hole_small lim g (_ ∷ s) (ok_other p a b h1 h2 f1 f2, v) = omega arith
hole_small lim g (_ ∷ s) (ok_cast p specs stars h k, v) = omega arith
hole_small lim g (_ ∷ s) (ok_prefix p op h k, v) = prefix_small (is_step_mark op)
hole_small lim g (_ ∷ s) (ok_sizeof p h k, v) = omega arith
hole_small lim g (_ ∷ s) (ok_paren p h, v) = omega arith
hole_small lim g (_ ∷ s) (ok_index p a h k f, v) = omega arith
hole_small lim g (_ ∷ s) (ok_call p x args height h k d e i, v) = omega arith

module _ (lim : ℕ) (g : Site) (ts : List Token) (t : Token) where
  leaf_keeps : (s : Opens) (k : TokenKind) (tree : Expr) → t.what ≡ k → Stand (lay_opens s) ts → Valid lim g s
      → Ranked 16 tree → expr_depth tree ≡ 1 → lay_expr tree ≡ at t.place (plain (k ∷ [])) → Keeps lim g ts t (leaf g s tree)
  leaf_keeps s k tree e st v r d l = λ reach. (
    refl,
    record {
      stands = stand-append (lay_opens s) (lay_expr tree) ts (t ∷ []) st (subst (λ z. Stand z (t ∷ [])) (sym l) (one_at t k e));
      opens = v;
      stage = (
        omega (arith, hole_small lim g s v),
        record {
          ranked = r;
          height = sym d;
          within = omega (arith, d, reach);
        },
      );
    },
  )

  opened_keeps : (s : Opens) → t.what ≡ token.Mark mark.LeftParen → Stand (lay_opens s) ts → Valid lim g s
      → Keeps lim g ts t (opened g s t.place)
  unfolding opened
  opened_keeps s e st v = λ reach. (
    refl,
    record {
      stands = stand-append (lay_opens s) _ ts (t ∷ []) st (one_at t (token.Mark mark.LeftParen) e);
      opens = (ok_paren t.place (hole_small lim g s v), v);
      stage = tt;
    },
  )

  prefix_keeps : (s : Opens) (op : Mark) → t.what ≡ token.Mark op → is_prefix_mark op ≡ true → Stand (lay_opens s) ts → Valid lim g s
      → Keeps lim g ts t (prefix_operator g s op t.place)
  unfolding prefix_operator is_prefix_mark
  prefix_keeps s op e h st v = λ reach. (
    refl,
    record {
      stands = stand-append (lay_opens s) _ ts (t ∷ []) st (one_at t (token.Mark op) e);
      opens = (ok_prefix t.place op (hole_small lim g s v) h, v);
      stage = tt;
    },
  )

  some_args : (a : Expr) (args : List Expr) → length (a ∷ args) ≡ 0 → ⊥
  some_args a args h = omega (arith, h)

  no_arguments_of : (s : Opens) (p : Place) (x : List ℕ) (args : List Expr) (height : ℕ) → t.what ≡ token.Mark mark.RightParen
      → Stand (lay_opens (open_.Call p x args height ∷ s)) ts → Valid lim g (open_.Call p x args height ∷ s)
      → Keeps lim g ts t (no_arguments g (open_.Call p x args height ∷ s))
  unfolding no_arguments
  no_arguments_of s p x [] height e st (ok_call _ _ _ _ h k d le i, v) = λ reach. (
    refl,
    record {
      stands = subst (λ z. Stand (lay_opens s ++ z) (ts ++ t ∷ [])) (sym (expr_Call Pieces lay_expr_step p x []))
          (stand-more (lay_opens s) _ (plain (the_mark mark.RightParen)) ts (t ∷ []) st (one t (token.Mark mark.RightParen) e));
      opens = v;
      stage = (
        omega (arith, hole_small lim g s v),
        record {
          ranked = call 15 p x [] (omega arith) no_args;
          height = sym (expr_Call ℕ expr_depth_step p x []);
          within = omega (arith, expr_Call ℕ expr_depth_step p x [], le);
        },
      );
    },
  )
  no_arguments_of s p x (a ∷ args) height e st v = cond_keeps lim g ts t (nat_eq (length (a ∷ args)) 0) _ turn.Refused
      (λ h. absurd (some_args a args (eqb-true (length (a ∷ args)) 0 h))) (λ h. tt)

  no_arguments_keeps : (s : Opens) → t.what ≡ token.Mark mark.RightParen → Stand (lay_opens s) ts → Valid lim g s
      → Keeps lim g ts t (no_arguments g s)
  unfolding no_arguments
  no_arguments_keeps [] e st v = tt
  no_arguments_keeps (open_.Call p x args height ∷ s) e st v = no_arguments_of s p x args height e st v
  no_arguments_keeps (_ ∷ s) e st v = tt

  prefix_or_none : (s : Opens) (m : Mark) → t.what ≡ token.Mark m → Stand (lay_opens s) ts → Valid lim g s
      → Keeps lim g ts t (cond (is_prefix_mark m) (prefix_operator g s m t.place) turn.Refused)
  prefix_or_none s m e st v =
      cond_keeps lim g ts t (is_prefix_mark m) (prefix_operator g s m t.place) turn.Refused (λ h. prefix_keeps s m e h st v) (λ h. tt)

  mark_keeps : (s : Opens) (m : Mark) → t.what ≡ token.Mark m → Stand (lay_opens s) ts → Valid lim g s
      → Keeps lim g ts t (mark_operand g s m t.place)
  unfolding mark_operand
  mark_keeps s m e st v =
      cond_keeps lim g ts t (is_mark m mark.LeftParen) _ _ (λ h. opened_keeps s (e ∙ ap token.Mark (mark_is m mark.LeftParen h)) st v)
      (λ h. cond_keeps lim g ts t (is_mark m mark.RightParen) _ _ (λ k. no_arguments_keeps s (e ∙ ap token.Mark (mark_is m mark.RightParen k)) st v) (λ k. prefix_or_none s m e st v))

  sizeof_keeps : (s : Opens) (w : Word) → t.what ≡ token.Word w → is_word w word.Sizeof ≡ true → Stand (lay_opens s) ts → Valid lim g s
      → Keeps lim g ts t (goes g (open_.Sizeof t.place ∷ s) now.Operand (level g s))
  sizeof_keeps s w e h st v = λ reach. (
    refl,
    record {
      stands = stand-append (lay_opens s) _ ts (t ∷ []) st (one_at t (token.Word word.Sizeof) (e ∙ ap token.Word (word_is w word.Sizeof h)));
      opens = (ok_sizeof t.place (hole_small lim g s v) reach, v);
      stage = tt;
    },
  )

  type_begun_keeps : (s : Opens) (w : Word) → t.what ≡ token.Word w → is_spec_word w ≡ true → is_before_type g s ≡ true
      → Stand (lay_opens s) ts → Valid lim g s → Keeps lim g ts t (type_begun g s w)
  unfolding is_spec_word
  type_begun_keeps s w e h b st v = λ reach. (
    refl,
    record {
      stands = stand-append (lay_opens s) (plain (the_word w)) ts (t ∷ []) st (one t (token.Word w) e);
      opens = v;
      stage = ((λ q. cc, All-cons (λ u. IsTrue (is_spec u)) w [] h (All-nil (λ u. IsTrue (is_spec u)))), b);
    },
  )

  word_keeps : (s : Opens) (w : Word) → t.what ≡ token.Word w → Stand (lay_opens s) ts → Valid lim g s
      → Keeps lim g ts t (word_operand g s w t.place)
  unfolding word_operand
  word_keeps s w e st v =
      cond_keeps lim g ts t (is_word w word.Sizeof) _ _ (λ h. sizeof_keeps s w e h st v)
      (λ h. cond_keeps lim g ts t (is_spec_word w && is_before_type g s) (type_begun g s w) turn.Refused
      (λ k. type_begun_keeps s w e (and_left (is_spec_word w) (is_before_type g s) k) (and_right (is_spec_word w) (is_before_type g s) k) st v)
      (λ k. tt))

  kind_keeps : (s : Opens) (k : TokenKind) → t.what ≡ k → Stand (lay_opens s) ts → Valid lim g s
      → Keeps lim g ts t (operand_at g s t.place k)
  kind_keeps s (token.Name x) e st v = λ reach. (
    refl,
    record {
      stands = stand-append (lay_opens s) _ ts (t ∷ []) st (one_at t (token.Name x) e);
      opens = v;
      stage = reach;
    },
  )
  kind_keeps s (token.Number kind n) e st v =
      leaf_keeps s (token.Number kind n) (expr.Number t.place kind n) e st v (number 16 t.place kind n (omega arith))
      (expr_Number ℕ expr_depth_step t.place kind n) (expr_Number Pieces lay_expr_step t.place kind n)
  kind_keeps s (token.Char z) e st v =
      leaf_keeps s (token.Char z) (expr.Char t.place z) e st v (character 16 t.place z (omega arith))
      (expr_Char ℕ expr_depth_step t.place z) (expr_Char Pieces lay_expr_step t.place z)
  kind_keeps s (token.Str bytes) e st v =
      leaf_keeps s (token.Str bytes) (expr.Str t.place bytes) e st v (string 16 t.place bytes (omega arith))
      (expr_Str ℕ expr_depth_step t.place bytes) (expr_Str Pieces lay_expr_step t.place bytes)
  kind_keeps s (token.Mark m) e st v = mark_keeps s m e st v
  kind_keeps s (token.Word w) e st v = word_keeps s w e st v
  kind_keeps s token.End e st v = tt

  pub operand_keeps : (s : Opens) → Stand (lay_opens s) ts → Valid lim g s → Keeps lim g ts t (operand g s t)
  unfolding operand
  operand_keeps s st v = kind_keeps s t.what refl st v
