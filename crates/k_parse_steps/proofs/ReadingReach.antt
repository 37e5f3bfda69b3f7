-- The levels that the tokens of an expression make sure, from its first token on.
use Rattle.std.proofs.Common.{ℕ, suc, ◌≡◌, ◌≤◌, ◌+◌, Bool, true, false, ◌&&◌, cond, nat_eq, eqb-true, [], ◌∷◌, length, sym, subst, refl, arith}
use Rattle.std.proofs.lemmas.Bool.{cond_both, and_parts, false≢true}
use Rattle.std.proofs.Common.{◌⊎◌, inl, inr}
use Rattle.k_parse_steps.specs.Types.{Place, Token, TokenKind, Mark, Word, ExpressionStage, Site, Reading}
use Rattle.k_tree.specs.declared.tokens.TokenKind.TheVariants as token
use Rattle.k_parse_steps.specs.Level.{plus}
use Rattle.k_parse_steps.specs.Operators.{is_prefix_mark, is_spec_word}
use Rattle.k_parse_steps.specs.Expressions.{Opens, goes, level, opened, no_arguments, prefix_operator, mark_operand, is_before_type, type_begun, word_operand, operand_at, operand, stage_fed, feed}
use Rattle.k_parse_steps.specs.Readings.{is_operand, is_fresh}
use Rattle.k_parse_steps.specs.declared.expression.Open.TheVariants as open_
use Rattle.k_parse_steps.specs.declared.expression.ExpressionStage.TheVariants as now
use Rattle.k_parse_steps.specs.declared.turn.Turn.TheVariants as turn
use Rattle.k_parse_steps.proofs.ExpressionReach.{Reached, Stays, feed_stays}
use Rattle.k_parse_steps.specs.Tokens.{is_mark, is_word}
use Rattle.k_tree.specs.declared.tokens.mark.Mark.TheVariants as mark
use Rattle.k_tree.specs.declared.tokens.word.Word.TheVariants as word

module _ (lim : ℕ) (g : Site) where
  at_level : level g [] ≤ lim → g.level ≤ lim
  at_level le = omega (arith, le)

  one_down : plus (level g []) 1 ≤ lim → g.level + 0 + 1 ≤ lim
  one_down le = omega (arith, le)

  up : g.level + 0 + 1 ≤ lim → g.level ≤ lim
  up le = omega arith

  word_begins : (w : Word) (p : Place) → Stays lim g (word_operand g [] w p)
  unfolding word_operand is_before_type
  word_begins w p =
      cond_both (is_word w word.Sizeof) (goes g (open_.Sizeof p ∷ []) now.Operand (level g []))
      (cond (is_spec_word w && false) (type_begun g [] w) turn.Refused) (Stays lim g) (λ e reach. (refl, (tt, at_level reach)))
      (λ e. cond_both (is_spec_word w && false) (type_begun g [] w) turn.Refused (Stays lim g)
      (λ q. absurd (false≢true (and_parts (is_spec_word w) false q).1)) (λ q. tt))

  mark_begins : (m : Mark) (p : Place) → Stays lim g (mark_operand g [] m p)
  unfolding mark_operand opened no_arguments prefix_operator
  mark_begins m p =
      cond_both (is_mark m mark.LeftParen) (opened g [] p) (cond (is_mark m mark.RightParen) (no_arguments g []) (cond (is_prefix_mark m) (prefix_operator g [] m p) turn.Refused))
      (Stays lim g) (λ e reach. (refl, (one_down reach, up (one_down reach))))
      (λ e. cond_both (is_mark m mark.RightParen) (no_arguments g []) (cond (is_prefix_mark m) (prefix_operator g [] m p) turn.Refused) (Stays lim g) (λ q. tt)
      (λ q. cond_both (is_prefix_mark m) (prefix_operator g [] m p) turn.Refused (Stays lim g)
      (λ k reach. (refl, (one_down reach, up (one_down reach)))) (λ k. tt)))

  kind_begins : (p : Place) (k : TokenKind) → Stays lim g (operand_at g [] p k)
  kind_begins p (token.Name x) = λ reach. (refl, at_level reach)
  kind_begins p (token.Number kind n) = λ reach. (refl, at_level reach)
  kind_begins p (token.Char z) = λ reach. (refl, at_level reach)
  kind_begins p (token.Str bytes) = λ reach. (refl, at_level reach)
  kind_begins p (token.Mark m) = mark_begins m p
  kind_begins p (token.Word w) = word_begins w p
  kind_begins p token.End = tt

  -- the first token of an expression makes its level sure
  first_stays : (t : Token) → Stays lim g (operand g [] t)
  unfolding operand
  first_stays t = kind_begins t.place t.what

-- the level of an expression of which something was read
abbrev pub Begun : ℕ → Reading → Type 0
Begun lim r = is_fresh r ≡ false → Reached lim r.site r.opens

pub fresh_is : (s : Opens) (n : ExpressionStage) → (is_operand n && nat_eq (length s) 0) ≡ true → (n ≡ now.Operand) × (s ≡ [])
fresh_is [] now.Operand e = (refl, refl)
fresh_is (o ∷ s) now.Operand e =
    absurd (let q : suc (length s) ≡ 0 = eqb-true (suc (length s)) 0 e in let f : ⊥ = omega arith in f)
fresh_is s (now.Named p x) e = absurd (false≢true e)
fresh_is s (now.Type specs stars) e = absurd (false≢true e)
fresh_is s (now.Value a) e = absurd (false≢true e)

begun_by : (lim : ℕ) → (g : Site) (s : Opens) (n : ExpressionStage) (t : Token)
    → ((is_operand n && nat_eq (length s) 0) ≡ true) ⊎ Reached lim g s → Stays lim g (stage_fed g s n t)
unfolding feed
begun_by lim g s n t (inl e) =
    let q : (n ≡ now.Operand) × (s ≡ []) = fresh_is s n e in
    subst (λ z. Stays lim g (stage_fed g s z t)) (sym q.0) (subst (λ z. Stays lim g (stage_fed g z now.Operand t)) (sym q.1) (first_stays lim g t))
begun_by lim g s n t (inr h) = feed_stays lim (record { site = g; opens = s; stage = n }) t h

fresh_or : (b : Bool) (P : Type 0) → (b ≡ false → P) → (b ≡ true) ⊎ P
fresh_or true P h = inl refl
fresh_or false P h = inr (h refl)

-- a token within the limit makes it sure
pub feed_begun : (lim : ℕ) → (r : Reading) (t : Token) (next : Reading) (reach : ℕ) → Begun lim r
    → feed r t ≡ turn.Goes next reach → reach ≤ lim → (next.site ≡ r.site) × Reached lim next.site next.opens
unfolding feed is_fresh
feed_begun lim r t next reach b e le =
    let st : Stays lim r.site (feed r t) =
    begun_by lim r.site r.opens r.stage t
    (fresh_or (is_operand r.stage && nat_eq (length r.opens) 0) (Reached lim r.site r.opens) b) in
    let k : (next.site ≡ r.site) × Reached lim r.site next.opens = (subst (λ z. Stays lim r.site z) e st) le in
    (k.0, subst (λ g. Reached lim g next.opens) (sym k.0) k.1)
