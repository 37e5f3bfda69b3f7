-- The levels that the tokens of an expression make sure are within the limit.
use Rattle.std.proofs.Common.{ℕ, ◌≡◌, ◌≤◌, ◌+◌, Bool, true, false, ◌&&◌, cond, nat_eq, List, [], ◌∷◌, length, refl, arith}
use Rattle.std.proofs.lemmas.Bool.{cond_both}
use Rattle.k_parse_steps.specs.Types.{Place, Token, TokenKind, Mark, Word, Stars, Term, Open, ExpressionStage, Site, Reading, Fed, Plugged, Called}
use Rattle.k_tree.specs.declared.tokens.TokenKind.TheVariants as token
use Rattle.k_tree.specs.declared.tokens.mark.Mark.TheVariants as mark
use Rattle.k_tree.specs.declared.tree.expression.Expr.TheVariants as expr
use Rattle.k_parse_steps.specs.Level.{plus}
use Rattle.k_num.specs.Top.{top}
use Rattle.k_parse_steps.specs.Operators.{is_step_mark, is_prefix_mark, is_spec_word}
use Rattle.k_parse_steps.specs.Stars.{all_stars}
use Rattle.k_parse_steps.specs.Expressions.{Opens, goes, level, hole, term, valued, posted, plug, is_sizeof_open, opened, no_arguments, prefix_operator, mark_operand, is_before_type, type_begun, word_operand, operand_at, operand, close_over, close_type, word_of_type, mark_of_type, in_type_at, in_type, operator_opens, take_operator, argued, then_ends, paren_ends, index_ends, enclose, takes_token, take_token, closed_by, value, named, stage_fed, feed, type_by}
use Rattle.k_parse_steps.specs.declared.expression.Open.TheVariants as open_
use Rattle.k_parse_steps.specs.declared.expression.ExpressionStage.TheVariants as now
use Rattle.k_parse_steps.specs.declared.turn.Turn.TheVariants as turn
use Rattle.k_parse_steps.specs.declared.expression.plug.Plugged.TheVariants as plugged
use Rattle.k_parse_steps.proofs.ExpressionState.{lev}
use Rattle.k_parse_steps.proofs.TypeWords.{word_split}
use Rattle.k_parse_steps.specs.Tokens.{is_mark, is_word, token_is_mark}
use Rattle.k_tree.specs.declared.tokens.word.Word.TheVariants as word

-- what a cast, a prefix operator or a parenthesis with its node at level l makes sure: an operand one level down;
-- but `sizeof (` may go on with a type
abbrev pub Room : ℕ → ℕ → Bool → Open → Type 0
Room lim l behind_sizeof (open_.Cast p specs stars) = l + 1 ≤ lim
Room lim l behind_sizeof (open_.Prefix p op) = l + 1 ≤ lim
Room lim l true (open_.Paren p) = Unit {0}
Room lim l false (open_.Paren p) = l + 1 ≤ lim
Room lim l behind_sizeof _ = Unit {0}

abbrev pub Reached : ℕ → Site → Opens → Type 0
Reached lim g [] = g.level ≤ lim
Reached lim g (o ∷ s) = Room lim (lev g s) (is_sizeof_open (top s)) o × Reached lim g s

-- a token whose level is within the limit keeps it so
abbrev pub Stays : ℕ → Site → Fed → Type 0
Stays lim g (turn.Goes r reach) = reach ≤ lim → (r.site ≡ g) × Reached lim g r.opens
Stays lim g (turn.Done e) = Unit {0}
Stays lim g turn.Refused = Unit {0}

module _ (lim : ℕ) (g : Site) where
  cond_stays : (b : Bool) (x y : Fed) → (b ≡ true → Stays lim g x) → (b ≡ false → Stays lim g y) → Stays lim g (cond b x y)
  cond_stays b x y h k = cond_both b x y (Stays lim g) h k

  deeper : (s : Opens) → plus (level g s) 1 ≤ lim → lev g s + 1 ≤ lim
  deeper s le = omega (arith, le)

  -- the first token of an operand

  opened_stays : (s : Opens) (p : Place) → Reached lim g s → Stays lim g (opened g s p)
  unfolding opened
  opened_stays s p h = λ reach. (refl, (room (is_sizeof_open (top s)) reach, h))
    where
      room : (b : Bool) → cond b 0 (plus (level g s) 1) ≤ lim → Room lim (lev g s) b (open_.Paren p)
      room true reach = tt
      room false reach = deeper s reach

  no_arguments_stays : (s : Opens) → Reached lim g s → Stays lim g (no_arguments g s)
  unfolding no_arguments
  no_arguments_stays [] h = tt
  no_arguments_stays (open_.Call p x args height ∷ s) h =
      cond_stays (nat_eq (length args) 0) (valued g s (term (expr.Call p x args) 15 1)) turn.Refused (λ e reach. (refl, h.1)) (λ e. tt)
  no_arguments_stays (_ ∷ s) h = tt

  mark_stays : (s : Opens) (m : Mark) (p : Place) → Reached lim g s → Stays lim g (mark_operand g s m p)
  unfolding mark_operand prefix_operator
  mark_stays s m p h =
      cond_stays (is_mark m mark.LeftParen) (opened g s p) (cond (is_mark m mark.RightParen) (no_arguments g s) (cond (is_prefix_mark m) (prefix_operator g s m p) turn.Refused))
      (λ e. opened_stays s p h)
      (λ e. cond_stays (is_mark m mark.RightParen) (no_arguments g s) (cond (is_prefix_mark m) (prefix_operator g s m p) turn.Refused)
      (λ q. no_arguments_stays s h)
      (λ q. cond_stays (is_prefix_mark m) (prefix_operator g s m p) turn.Refused (λ k reach. (refl, (deeper s reach, h))) (λ k. tt)))

  word_stays : (s : Opens) (w : Word) (p : Place) → Reached lim g s → Stays lim g (word_operand g s w p)
  unfolding word_operand
  word_stays s w p h =
      cond_stays (is_word w word.Sizeof) (goes g (open_.Sizeof p ∷ s) now.Operand (level g s))
      (cond (is_spec_word w && is_before_type g s) (type_begun g s w) turn.Refused) (λ e reach. (refl, (tt, h)))
      (λ e. cond_stays (is_spec_word w && is_before_type g s) (type_begun g s w) turn.Refused (λ q reach. (refl, h)) (λ q. tt))

  kind_stays : (s : Opens) (p : Place) (k : TokenKind) → Reached lim g s → Stays lim g (operand_at g s p k)
  kind_stays s p (token.Name x) h = λ reach. (refl, h)
  kind_stays s p (token.Number kind n) h = λ reach. (refl, h)
  kind_stays s p (token.Char z) h = λ reach. (refl, h)
  kind_stays s p (token.Str bytes) h = λ reach. (refl, h)
  kind_stays s p (token.Mark m) h = mark_stays s m p h
  kind_stays s p (token.Word w) h = word_stays s w p h
  kind_stays s p token.End h = tt

  -- the name of a type

  over_stays : (s : Opens) (p : Place) (specs : List Word) (stars : List Bool) → Reached lim g (open_.Paren p ∷ s)
      → Stays lim g (close_over g s p specs stars)
  unfolding close_over
  over_stays [] p specs stars h = λ reach. (refl, h)
  over_stays (open_.Sizeof q ∷ s) p specs stars h = λ reach. (refl, h.1.1)
  over_stays (o ∷ s) p specs stars h = λ reach. (refl, h)

  close_stays : (s : Opens) (specs : List Word) (stars : Stars) → Reached lim g s → Stays lim g (close_type g s specs stars)
  unfolding close_type
  close_stays [] specs stars h = tt
  close_stays (open_.Paren p ∷ s) specs stars h = over_stays s p specs (all_stars stars) h
  close_stays (_ ∷ s) specs stars h = tt

  type_stays : (s : Opens) (specs : List Word) (stars : Stars) (k : TokenKind) → Reached lim g s
      → Stays lim g (in_type_at g s specs stars k)
  unfolding word_of_type mark_of_type
  type_stays s specs stars (token.Word w) h = word_split (λ x. Stays lim g (type_by g s x)) specs stars true w (λ e q reach. (refl, h)) (λ e q m r reach. (refl, h)) tt
  type_stays s specs stars (token.Mark mark.Star) h = λ reach. (refl, h)
  type_stays s specs stars (token.Mark mark.RightParen) h = close_stays s specs stars h
  type_stays s specs stars _ h = tt

  -- behind an operand

  opens_stays : (s : Opens) (a : Term) (op : Mark) (p : Place) → Reached lim g s → Reached lim g (operator_opens op a p ∷ s)
  opens_stays s a op p h =
      cond_both (is_mark op mark.LeftBracket) (open_.Index p a) (cond (is_mark op mark.Question) (open_.Then p a) (open_.Infix p op a)) (λ o. Reached lim g (o ∷ s))
      (λ e. (tt, h))
      (λ e. cond_both (is_mark op mark.Question) (open_.Then p a) (open_.Infix p op a) (λ o. Reached lim g (o ∷ s)) (λ q. (tt, h)) (λ q. (tt, h)))

  take_stays : (s : Opens) (a : Term) (k : TokenKind) (p : Place) → Reached lim g s → Stays lim g (take_token g s a k p)
  unfolding take_operator
  take_stays s a (token.Mark op) p h =
      cond_stays (is_step_mark op) (goes g s (now.Value (posted p op a)) (plus (level g s) a.height))
      (goes g (operator_opens op a p ∷ s) now.Operand (plus (level g s) a.height)) (λ e reach. (refl, h)) (λ e reach. (refl, opens_stays s a op p h))
  take_stays s a _ p h = tt

  argued_stays : (s : Opens) (c : Called) (m : Mark) → Reached lim g s → Stays lim g (argued g s c m)
  unfolding argued
  argued_stays s c mark.Comma h = λ reach. (refl, (tt, h))
  argued_stays s c mark.RightParen h = λ reach. (refl, h)
  argued_stays s c _ h = tt

  enclose_stays : (s : Opens) (o : Open) (a : Term) (m : Mark) → Reached lim g s → Stays lim g (enclose g s o a m)
  unfolding enclose then_ends paren_ends index_ends
  enclose_stays s (open_.Then p b) a mark.Colon h = λ reach. (refl, (tt, h))
  enclose_stays s (open_.Paren p) a mark.RightParen h = λ reach. (refl, h)
  enclose_stays s (open_.Index p b) a mark.RightBracket h = λ reach. (refl, h)
  enclose_stays s (open_.Call p x args height) a m h = argued_stays s _ m h
  enclose_stays s o a m h = tt

  closed_stays : (s : Opens) (p : Plugged) (k : TokenKind) (again : Term → Fed) → Reached lim g s
      → ((b : Term) → Stays lim g (again b)) → Stays lim g (closed_by g s p k again)
  closed_stays s (plugged.Whole a) k again h next = next a
  closed_stays s (plugged.Part o a) (token.Mark m) again h next = enclose_stays s o a m h
  closed_stays s (plugged.Part o a) _ again h next = tt

  value_stays : (s : Opens) (a : Term) (t : Token) → Reached lim g s → Stays lim g (value g s a t)
  unfolding value
  value_stays [] a t h =
      cond_stays (takes_token (hole g []) a.rank t.what) (take_token g [] a t.what t.place) (turn.Done a.tree)
      (λ e. take_stays [] a t.what t.place h) (λ e. tt)
  value_stays (o ∷ s) a t h =
      cond_stays (takes_token (hole g (o ∷ s)) a.rank t.what) (take_token g (o ∷ s) a t.what t.place)
      (closed_by g s (plug o a) t.what (λ b. value g s b t)) (λ e. take_stays (o ∷ s) a t.what t.place h)
      (λ e. closed_stays s (plug o a) t.what (λ b. value g s b t) h.1 (λ b. value_stays s b t h.1))

  now_stays : (s : Opens) (n : ExpressionStage) (t : Token) → Reached lim g s → Stays lim g (stage_fed g s n t)
  unfolding operand named in_type
  now_stays s now.Operand t h = kind_stays s t.place t.what h
  now_stays s (now.Named p x) t h =
      cond_stays (token_is_mark t.what mark.LeftParen) (goes g (open_.Call p x [] 0 ∷ s) now.Operand 0) (value g s (term (expr.Name p x) 16 1) t)
      (λ e reach. (refl, (tt, h))) (λ e. value_stays s (term (expr.Name p x) 16 1) t h)
  now_stays s (now.Type specs stars) t h = type_stays s specs stars t.what h
  now_stays s (now.Value a) t h = value_stays s a t h

pub feed_stays : (lim : ℕ) → (r : Reading) (t : Token) → Reached lim r.site r.opens → Stays lim r.site (feed r t)
unfolding feed
feed_stays lim r t h = now_stays lim r.site r.opens r.stage t h
