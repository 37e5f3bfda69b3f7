-- Tokens in the name of a type keep what was read true.
use Rattle.std.proofs.Common.{ℕ, ◌≡◌, ◌≢◌, ◌≤◌, Bool, true, false, cond, IsTrue, List, [], ◌∷◌, ◌++◌, length, refl, sym, ◌∙◌, ap, subst, arith, nat_eq, append_assoc}
use Rattle.std.proofs.lemmas.List.{map-append, append-nil}
use Rattle.std.proofs.lemmas.Bool.{eqb-true, leb-true}
use Rattle.std.proofs.lemmas.List.Elements.{All-nil, All-push}
use Rattle.k_parse_steps.specs.Types.{Place, Token, TokenKind, Mark, Word, Stars, Site}
use Rattle.k_tree.specs.declared.tokens.TokenKind.TheVariants as token
use Rattle.k_tree.specs.declared.tokens.mark.Mark.TheVariants as mark
use Rattle.k_tree.specs.declared.tokens.word.Word.TheVariants as word
use Rattle.k_tree.specs.declared.tree.expression.Expr.TheVariants as expr
use Rattle.k_tree.proofs.Folds.{expr_SizeofType}
use Rattle.k_tree.specs.Nesting.{expr_depth_step}
use Rattle.k_tree.specs.Places.{Pieces, plain, at, lay_expr, lay_expr_step, Stand}
use Rattle.k_tree.specs.Ranked.{Specs, is_spec, sizeof_type}
use Rattle.k_tree.specs.Spelling.{Spelled, the_mark, the_word, in_parens, spell_specs, spell_star, spell_stars, spell_type}
use Rattle.k_parse_steps.specs.Operators.{is_spec_word}
use Rattle.k_parse_steps.specs.Stars.{all_stars, star, constant}
use Rattle.k_parse_steps.specs.Expressions.{Opens, goes, hole, term, valued, is_before_type, cast_opened, close_over, close_type, word_of_type, mark_of_type, in_type_at, in_type, type_by}
use Rattle.k_parse_steps.specs.declared.expression.Open.TheVariants as open_
use Rattle.k_parse_steps.specs.declared.expression.ExpressionStage.TheVariants as now
use Rattle.k_parse_steps.proofs.ExpressionState.{lay_opens, OkOpen, ok_cast, ok_sizeof, lev, ValidNow, Inv, Keeps}
use Rattle.k_parse_steps.proofs.ExpressionTerms.{one, stand-more, regroup}
use Rattle.k_parse_steps.proofs.Rows.{no_items}
use Rattle.k_parse_steps.proofs.TypeWords.{word_split}
use Rattle.k_parse_steps.specs.Tokens.{is_word}
use Rattle.k_parse_steps.proofs.Marks.{word_is}

-- spellings of stars
pub stars_more : (xs : List Bool) (b : Bool) → spell_stars (xs ++ b ∷ []) ≡ spell_stars xs ++ spell_star b
stars_more [] true = refl
stars_more [] false = refl
stars_more (x ∷ xs) b = ap (λ z. spell_star x ++ z) (stars_more xs b) ∙ sym (append_assoc (spell_star x) (spell_stars xs) (spell_star b))

pub stars_const : (xs : List Bool) → spell_stars (xs ++ true ∷ []) ≡ spell_stars (xs ++ false ∷ []) ++ the_word word.Const
stars_const xs =
    stars_more xs true
    ∙ (sym (append_assoc (spell_stars xs) (the_mark mark.Star) (the_word word.Const))
    ∙ ap (λ z. z ++ the_word word.Const) (sym (stars_more xs false)))

pub star_spelled : (specs : List Word) (stars : Stars) → spell_type specs (all_stars (star stars)) ≡ spell_type specs (all_stars stars) ++ the_mark mark.Star
star_spelled specs stars =
    ap (λ z. spell_specs specs ++ z) (stars_more (all_stars stars) false)
    ∙ sym (append_assoc (spell_specs specs) (spell_stars (all_stars stars)) (the_mark mark.Star))

pending_stars : (stars : Stars) → stars.pending ≡ true → all_stars stars ≡ stars.done ++ false ∷ []
pending_stars stars h = ap (λ b. cond b (stars.done ++ false ∷ []) stars.done) h

pub const_spelled : (specs : List Word) (stars : Stars) → stars.pending ≡ true
    → spell_type specs (all_stars (constant stars)) ≡ spell_type specs (all_stars stars) ++ the_word word.Const
const_spelled specs stars h =
    ap (λ z. spell_specs specs ++ z) (stars_const stars.done ∙ ap (λ z. spell_stars z ++ the_word word.Const) (sym (pending_stars stars h)))
    ∙ sym (append_assoc (spell_specs specs) (spell_stars (all_stars stars)) (the_word word.Const))

pub no_stars_yet : (stars : Stars) → stars.pending ≡ false → nat_eq (length stars.done) 0 ≡ true → all_stars stars ≡ []
no_stars_yet stars h k =
    ap (λ b. cond b (stars.done ++ false ∷ []) stars.done) h ∙ no_items stars.done (eqb-true (length stars.done) 0 k)

pub spec_spelled : (specs : List Word) (stars : Stars) (w : Word) → all_stars stars ≡ []
    → spell_type (specs ++ w ∷ []) (all_stars stars) ≡ spell_type specs (all_stars stars) ++ the_word w
spec_spelled specs stars w h =
    subst (λ z. spell_type (specs ++ w ∷ []) z ≡ spell_type specs z ++ the_word w) (sym h)
    (append-nil (spell_specs (specs ++ w ∷ []))
    ∙ (map-append token.Word specs (w ∷ []) ∙ ap (λ z. z ++ the_word w) (sym (append-nil (spell_specs specs)))))

-- a place that no node asks for
pub forget : (xs : Pieces) (p : Place) (x : TokenKind) (ys : Pieces) (ts : List Token)
    → Stand ((xs ++ at p (plain (x ∷ []))) ++ ys) ts → Stand ((xs ++ plain (x ∷ [])) ++ ys) ts
forget [] p x ys [] h = absurd h
forget [] p x ys (t ∷ ts) h = (h.0, All-nil (λ q. q ≡ t.place), h.2)
forget (y ∷ xs) p x ys [] h = absurd h
forget (y ∷ xs) p x ys (t ∷ ts) h = (h.0, h.1, forget xs p x ys ts h.2)

pub type_more : (s : Pieces) (xs ys : Spelled) (k : TokenKind) (t : Token) (ts : List Token) → ys ≡ xs ++ k ∷ [] → t.what ≡ k
    → Stand (s ++ plain xs) ts → Stand (s ++ plain ys) (ts ++ t ∷ [])
type_more s xs ys k t ts e q st =
    subst (λ z. Stand (s ++ z) (ts ++ t ∷ [])) (sym (ap plain e ∙ map-append _ xs (k ∷ [])))
    (stand-more s (plain xs) (plain (k ∷ [])) ts (t ∷ []) st (one t k q))

module _ (lim : ℕ) (g : Site) (ts : List Token) (t : Token) where
  spec_keeps : (s : Opens) (specs : List Word) (stars : Stars) (w : Word) → t.what ≡ token.Word w
      → stars.pending ≡ false → nat_eq (length stars.done) 0 ≡ true → is_spec_word w ≡ true
      → Inv lim g s (now.Type specs stars) ts → Keeps lim g ts t (goes g s (now.Type (specs ++ w ∷ []) stars) 0)
  unfolding is_spec_word
  spec_keeps s specs stars w e h k r i = λ reach. (
    refl,
    record {
      stands = type_more (lay_opens s) (spell_type specs (all_stars stars)) (spell_type (specs ++ w ∷ []) (all_stars stars)) (token.Word w) t ts
          (spec_spelled specs stars w (no_stars_yet stars h k)) e i.stands;
      opens = i.opens;
      stage = ((not_none specs w, All-push (λ u. IsTrue (is_spec u)) specs w i.stage.0.1 r), i.stage.1);
    },
  )
    where
      not_none : (xs : List Word) (x : Word) → xs ++ x ∷ [] ≢ []
      not_none [] x = λ q. cc
      not_none (y ∷ xs) x = λ q. cc

  const_keeps : (s : Opens) (specs : List Word) (stars : Stars) (w : Word) → t.what ≡ token.Word w
      → stars.pending ≡ true → is_word w word.Const ≡ true
      → Inv lim g s (now.Type specs stars) ts → Keeps lim g ts t (goes g s (now.Type specs (constant stars)) 0)
  const_keeps s specs stars w e h k i = λ reach. (
    refl,
    record {
      stands = type_more (lay_opens s) (spell_type specs (all_stars stars)) (spell_type specs (all_stars (constant stars))) (token.Word word.Const) t ts
          (const_spelled specs stars h) (e ∙ ap token.Word (word_is w word.Const k)) i.stands;
      opens = i.opens;
      stage = i.stage;
    },
  )

  word_keeps : (s : Opens) (specs : List Word) (stars : Stars) (w : Word) → t.what ≡ token.Word w
      → Inv lim g s (now.Type specs stars) ts → Keeps lim g ts t (word_of_type g s specs stars w)
  unfolding word_of_type
  word_keeps s specs stars w e i =
      word_split (λ x. Keeps lim g ts t (type_by g s x)) specs stars true w (λ h k. const_keeps s specs stars w e h k i)
      (λ h k m r. spec_keeps s specs stars w e h k r i) tt

  parens_stand : (xs a : Pieces) (ys : Spelled) → t.what ≡ token.Mark mark.RightParen → Stand ((xs ++ a) ++ plain ys) ts
      → Stand (xs ++ (a ++ plain (ys ++ the_mark mark.RightParen))) (ts ++ t ∷ [])
  parens_stand xs a ys e st =
      subst (λ z. Stand (xs ++ (a ++ z)) (ts ++ t ∷ [])) (sym (map-append _ ys (the_mark mark.RightParen)))
      (regroup xs a (plain ys ++ plain (the_mark mark.RightParen)) (ts ++ t ∷ [])
      (stand-more (xs ++ a) (plain ys) (plain (the_mark mark.RightParen)) ts (t ∷ []) st (one t (token.Mark mark.RightParen) e)))

  cast_keeps : (s : Opens) (p : Place) (specs : List Word) (stars : Stars) → t.what ≡ token.Mark mark.RightParen → hole g s ≤ 13
      → Inv lim g (open_.Paren p ∷ s) (now.Type specs stars) ts → Keeps lim g ts t (cast_opened g s (open_.Cast p specs (all_stars stars)))
  cast_keeps s p specs stars e h i = λ reach. (
    refl,
    record {
      stands = parens_stand (lay_opens s) (at p (plain (the_mark mark.LeftParen))) (spell_type specs (all_stars stars)) e i.stands;
      opens = (ok_cast p specs (all_stars stars) h i.stage.0, i.opens.1);
      stage = tt;
    },
  )

  sizeof_stands : (xs : Pieces) (p q : Place) (specs : List Word) (stars : List Bool) → t.what ≡ token.Mark mark.RightParen
      → Stand (((xs ++ at q (plain (the_word word.Sizeof))) ++ at p (plain (the_mark mark.LeftParen))) ++ plain (spell_type specs stars)) ts
      → Stand (xs ++ lay_expr (expr.SizeofType q specs stars)) (ts ++ t ∷ [])
  sizeof_stands xs p q specs stars e st =
      subst (λ z. Stand (xs ++ z) (ts ++ t ∷ [])) (sym (expr_SizeofType Pieces lay_expr_step q specs stars))
      (regroup xs (at q (plain (the_word word.Sizeof))) (plain (in_parens (spell_type specs stars))) (ts ++ t ∷ [])
      (parens_stand (xs ++ at q (plain (the_word word.Sizeof))) (plain (the_mark mark.LeftParen)) (spell_type specs stars) e
      (forget (xs ++ at q (plain (the_word word.Sizeof))) p (token.Mark mark.LeftParen) (plain (spell_type specs stars)) ts st)))

  sizeof_fits : (s : Opens) (q : Place) (specs : List Word) (stars : List Bool) → Specs specs → OkOpen lim (lev g s) (hole g s) (open_.Sizeof q)
      → ValidNow lim g s (now.Value (term (expr.SizeofType q specs stars) 14 1))
  sizeof_fits s q specs stars h (ok_sizeof _ k le) = (
    k,
    record {
      ranked = sizeof_type 14 q specs stars (omega arith) h;
      height = sym (expr_SizeofType ℕ expr_depth_step q specs stars);
      within = omega (arith, expr_SizeofType ℕ expr_depth_step q specs stars, le);
    },
  )

  sizeof_keeps : (s : Opens) (p q : Place) (specs : List Word) (stars : Stars) → t.what ≡ token.Mark mark.RightParen
      → Inv lim g (open_.Paren p ∷ (open_.Sizeof q ∷ s)) (now.Type specs stars) ts
      → Keeps lim g ts t (valued g s (term (expr.SizeofType q specs (all_stars stars)) 14 1))
  sizeof_keeps s p q specs stars e i = λ reach. (
    refl,
    record {
      stands = sizeof_stands (lay_opens s) p q specs (all_stars stars) e i.stands;
      opens = i.opens.1.1;
      stage = sizeof_fits s q specs (all_stars stars) i.stage.0 i.opens.1.0;
    },
  )

  over_keeps : (s : Opens) (p : Place) (specs : List Word) (stars : Stars) → t.what ≡ token.Mark mark.RightParen
      → Inv lim g (open_.Paren p ∷ s) (now.Type specs stars) ts → Keeps lim g ts t (close_over g s p specs (all_stars stars))
  unfolding close_over is_before_type
  over_keeps [] p specs stars e i = cast_keeps [] p specs stars e (leb-true (hole g []) 13 i.stage.1) i
  over_keeps (open_.Sizeof q ∷ s) p specs stars e i = sizeof_keeps s p q specs stars e i
  over_keeps (o ∷ s) p specs stars e i = cast_keeps (o ∷ s) p specs stars e (leb-true (hole g (o ∷ s)) 13 i.stage.1) i

  close_keeps : (s : Opens) (specs : List Word) (stars : Stars) → t.what ≡ token.Mark mark.RightParen
      → Inv lim g s (now.Type specs stars) ts → Keeps lim g ts t (close_type g s specs stars)
  unfolding close_type
  close_keeps [] specs stars e i = tt
  close_keeps (open_.Paren p ∷ s) specs stars e i = over_keeps s p specs stars e i
  close_keeps (_ ∷ s) specs stars e i = tt

  mark_keeps : (s : Opens) (specs : List Word) (stars : Stars) (m : Mark) → t.what ≡ token.Mark m
      → Inv lim g s (now.Type specs stars) ts → Keeps lim g ts t (mark_of_type g s specs stars m)
  unfolding mark_of_type
  mark_keeps s specs stars mark.Star e i = λ reach. (
    refl,
    record {
      stands = type_more (lay_opens s) (spell_type specs (all_stars stars)) (spell_type specs (all_stars (star stars))) (token.Mark mark.Star) t ts
          (star_spelled specs stars) e i.stands;
      opens = i.opens;
      stage = i.stage;
    },
  )
  mark_keeps s specs stars mark.RightParen e i = close_keeps s specs stars e i
  mark_keeps s specs stars _ e i = tt

  kind_keeps : (s : Opens) (specs : List Word) (stars : Stars) (k : TokenKind) → t.what ≡ k
      → Inv lim g s (now.Type specs stars) ts → Keeps lim g ts t (in_type_at g s specs stars k)
  kind_keeps s specs stars (token.Word w) e i = word_keeps s specs stars w e i
  kind_keeps s specs stars (token.Mark m) e i = mark_keeps s specs stars m e i
  kind_keeps s specs stars _ e i = tt

  pub type_keeps : (s : Opens) (specs : List Word) (stars : Stars) → Inv lim g s (now.Type specs stars) ts
      → Keeps lim g ts t (in_type g s specs stars t)
  unfolding in_type
  type_keeps s specs stars i = kind_keeps s specs stars t.what refl i
