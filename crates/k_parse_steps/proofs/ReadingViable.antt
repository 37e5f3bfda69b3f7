-- An expression inside another construct can be ended, up to the mark that closes it.
use Rattle.std.proofs.Common.{ℕ, ◌≡◌, Bool, true, false, ◌&&◌, cond, List, [], ◌∷◌, ◌++◌, Option, Some, None, sym, ◌∙◌, ap, subst, refl, arith}
use Rattle.std.proofs.lemmas.Bool.{cond-true, cond_both, and_parts, and_from}
use Rattle.k_parse_steps.specs.Types.{Place, Token, TokenKind, Mark, Expr, Site, Reading, Closer, Fed}
use Rattle.k_parse_steps.specs.Operators.{binding, is_prefix_mark}
use Rattle.k_parse_steps.specs.Expressions.{mark_operand, no_arguments, operand_at, operand, stage_fed, feed}
use Rattle.k_parse_steps.specs.Readings.{closing, closes, is_fresh, read_by, read_needed, maybe_by, read_maybe}
use Rattle.k_parse_steps.specs.declared.expression.ExpressionStage.TheVariants as now
use Rattle.k_parse_steps.specs.declared.turn.Turn.TheVariants as turn
use Rattle.k_parse_steps.specs.declared.reading.Closer.TheVariants as closer
use Rattle.k_parse_steps.proofs.ExpressionState.{Inv}
use Rattle.k_parse_steps.proofs.ExpressionReach.{Reached}
use Rattle.k_parse_steps.proofs.ExpressionViable.{mark_token, Ends_operand, Completes, completes, completes_by, now_completes}
use Rattle.k_parse_steps.proofs.ReadingReach.{Begun, fresh_is}
use Rattle.k_parse_steps.proofs.ReadingSound.{At}
use Rattle.k_parse_steps.proofs.Marks.{token_mark_is}
use Rattle.k_parse_steps.proofs.Runs.{Runs, run_ends, run_goes, CanEnd}
use Rattle.k_parse_steps.specs.Tokens.{is_mark, token_is_mark}

-- the marks that close
pub closing_ends : (c : Closer) → Ends_operand (closing c)
unfolding binding is_mark
closing_ends closer.Bracket = (refl, refl)
closing_ends closer.Paren = (refl, refl)
closing_ends closer.Semicolon = (refl, refl)
closing_ends closer.Colon = (refl, refl)

pub closing_closes : (c : Closer) → closes (mark_token (closing c)) c ≡ true
unfolding closes is_mark
closing_closes closer.Bracket = refl
closing_closes closer.Paren = refl
closing_closes closer.Semicolon = refl
closing_closes closer.Colon = refl

-- none of them begins an expression
mark_refused : (g : Site) (p : Place) (c : Closer) → mark_operand g [] (closing c) p ≡ turn.Refused
unfolding mark_operand is_prefix_mark no_arguments is_mark
mark_refused g p closer.Bracket = refl
mark_refused g p closer.Paren = refl
mark_refused g p closer.Semicolon = refl
mark_refused g p closer.Colon = refl

kind_refused : (g : Site) (p : Place) (c : Closer) (k : TokenKind) → token_is_mark k (closing c) ≡ true → operand_at g [] p k ≡ turn.Refused
kind_refused g p c k e = ap (operand_at g [] p) (token_mark_is k (closing c) e) ∙ mark_refused g p c

fresh_refuses : (r : Reading) (t : Token) (c : Closer) → is_fresh r ≡ true → closes t c ≡ true → feed r t ≡ turn.Refused
unfolding feed is_fresh closes operand
fresh_refuses r t c e h =
    let q : (r.stage ≡ now.Operand) × (r.opens ≡ []) = fresh_is r.opens r.stage e in
    ap (λ n. stage_fed r.site r.opens n t) q.0
    ∙ (ap (λ s. stage_fed r.site s now.Operand t) q.1 ∙ kind_refused r.site t.place c t.what h)

refused_goes : (next : Reading) (reach : ℕ) → ◌≡◌ {A = Fed} turn.Refused (turn.Goes next reach) → ⊥
refused_goes next reach e = cc

refused_ends : (e : Expr) → ◌≡◌ {A = Fed} turn.Refused (turn.Done e) → ⊥
refused_ends e q = cc

pub needed_goes : (r : Reading) (t : Token) (c : Closer) (next : Reading) (reach : ℕ) → feed r t ≡ turn.Goes next reach
    → read_needed r t c ≡ turn.Goes next reach
unfolding read_needed
needed_goes r t c next reach e = ap (λ z. read_by z (closes t c)) e

pub needed_ends : (r : Reading) (t : Token) (c : Closer) (e : Expr) → feed r t ≡ turn.Done e → closes t c ≡ true
    → read_needed r t c ≡ turn.Done e
unfolding read_needed
needed_ends r t c e q h = ap (λ z. read_by z (closes t c)) q ∙ ap (λ b. cond b (turn.Done e) turn.Refused) h

pub maybe_goes : (r : Reading) (t : Token) (c : Closer) (next : Reading) (reach : ℕ) → feed r t ≡ turn.Goes next reach
    → read_maybe r t c ≡ turn.Goes next reach
unfolding read_maybe
maybe_goes r t c next reach e =
    cond_both (is_fresh r && closes t c) (turn.Done None) (maybe_by (read_needed r t c)) (λ z. z ≡ turn.Goes next reach)
    (λ h. let b : (is_fresh r ≡ true) × (closes t c ≡ true) = and_parts (is_fresh r) (closes t c) h in
    absurd (refused_goes next reach (sym (fresh_refuses r t c b.0 b.1) ∙ e)))
    (λ h. ap maybe_by (needed_goes r t c next reach e))

pub maybe_ends : (r : Reading) (t : Token) (c : Closer) (e : Expr) → feed r t ≡ turn.Done e → closes t c ≡ true
    → read_maybe r t c ≡ turn.Done (Some e)
unfolding read_maybe
maybe_ends r t c e q h =
    cond_both (is_fresh r && closes t c) (turn.Done None) (maybe_by (read_needed r t c)) (λ z. z ≡ turn.Done (Some e))
    (λ k. let b : (is_fresh r ≡ true) × (closes t c ≡ true) = and_parts (is_fresh r) (closes t c) k in
    absurd (refused_ends e (sym (fresh_refuses r t c b.0 b.1) ∙ q)))
    (λ k. ap maybe_by (needed_ends r t c e q h))

pub maybe_left_out : (r : Reading) (t : Token) (c : Closer) → is_fresh r ≡ true → closes t c ≡ true → read_maybe r t c ≡ turn.Done None
unfolding read_maybe
maybe_left_out r t c e h = cond-true (is_fresh r && closes t c) _ _ (and_from (is_fresh r) (closes t c) e h)

-- an expression at a site can be ended
pub at_completes : (lim : ℕ) → (m : Mark) → Ends_operand m → (g : Site) (r : Reading) (ts : List Token) → At lim g r ts
    → Reached lim r.site r.opens → (us : List Token) × (e : Expr) × Completes lim (mark_token m) r us e
at_completes lim m ends g r ts a h =
    let i : Inv lim r.site r.opens r.stage ts = subst (λ z. Inv lim z r.opens r.stage ts) (sym a.0) a.1 in
    now_completes lim m ends r.site r.opens r.stage i.opens i.stage h

module _ (R O : Type 0) (Goes : R → Token → R → ℕ → Type 0) (Ends : R → Token → O → Type 0) (lim : ℕ) where
  -- the tokens of an expression inside, and then what comes behind it
  through : (end : Token) (r : Reading) (us : List Token) (e : Expr) → Completes lim end r us e → (inside : Reading → R)
      → ((r : Reading) (t : Token) (next : Reading) (reach : ℕ) → feed r t ≡ turn.Goes next reach → Goes (inside r) t (inside next) reach)
      → (tail : List Token) (o : O)
      → ((r : Reading) → feed r end ≡ turn.Done e → Runs R O Goes Ends lim (inside r) (end ∷ tail) o)
      → Runs R O Goes Ends lim (inside r) (us ++ end ∷ tail) o
  through end _ _ _ (completes r e q) inside on tail o behind = behind r q
  through end _ _ _ (completes_by r next t us e reach q le rest) inside on tail o behind =
      run_goes (inside r) (inside next) t (us ++ end ∷ tail) o reach (on r t next reach q) le
      (through end next us e rest inside on tail o behind)

  -- an expression that goes on, and behind which a state follows from which an end can be reached
  pub inner_can_end : (m : Mark) → Ends_operand m → (g : Site) (r : Reading) (ts : List Token) → At lim g r ts
      → Reached lim r.site r.opens → (inside : Reading → R) (behind : Expr → R)
      → ((r : Reading) (t : Token) (next : Reading) (reach : ℕ) → feed r t ≡ turn.Goes next reach → Goes (inside r) t (inside next) reach)
      → ((r : Reading) (e : Expr) → feed r (mark_token m) ≡ turn.Done e → Goes (inside r) (mark_token m) (behind e) 0)
      → ((e : Expr) → CanEnd R O Goes Ends lim (behind e)) → CanEnd R O Goes Ends lim (inside r)
  inner_can_end m ends g r ts a h inside behind on off rest =
      let x : (us : List Token) × (e : Expr) × Completes lim (mark_token m) r us e = at_completes lim m ends g r ts a h in
      let y : CanEnd R O Goes Ends lim (behind x.1) = rest x.1 in (
        x.0 ++ mark_token m ∷ y.0,
        y.1,
        through (mark_token m) r x.0 x.1 x.2 inside on y.0 y.1
            (λ u q. run_goes (inside u) (behind x.1) (mark_token m) y.0 y.1 0 (off u x.1 q) (omega arith) y.2),
      )

  -- an expression whose mark ends all
  pub inner_ends : (m : Mark) → Ends_operand m → (g : Site) (r : Reading) (ts : List Token) → At lim g r ts
      → Reached lim r.site r.opens → (inside : Reading → R) (whole : Expr → O)
      → ((r : Reading) (t : Token) (next : Reading) (reach : ℕ) → feed r t ≡ turn.Goes next reach → Goes (inside r) t (inside next) reach)
      → ((r : Reading) (e : Expr) → feed r (mark_token m) ≡ turn.Done e → Ends (inside r) (mark_token m) (whole e))
      → CanEnd R O Goes Ends lim (inside r)
  inner_ends m ends g r ts a h inside whole on off =
      let x : (us : List Token) × (e : Expr) × Completes lim (mark_token m) r us e = at_completes lim m ends g r ts a h in (
        x.0 ++ mark_token m ∷ [],
        whole x.1,
        through (mark_token m) r x.0 x.1 x.2 inside on [] (whole x.1) (λ u q. run_ends (inside u) (mark_token m) (whole x.1) (off u x.1 q)),
      )

  -- one that may be left out
  pub maybe_can_end : (c : Closer) (g : Site) (r : Reading) (ts : List Token) → At lim g r ts
      → Begun lim r → (inside : Reading → R) (behind : Option Expr → R)
      → ((r : Reading) (t : Token) (next : Reading) (reach : ℕ) → read_maybe r t c ≡ turn.Goes next reach → Goes (inside r) t (inside next) reach)
      → ((r : Reading) (t : Token) (v : Option Expr) → read_maybe r t c ≡ turn.Done v → Goes (inside r) t (behind v) 0)
      → ((v : Option Expr) → CanEnd R O Goes Ends lim (behind v)) → CanEnd R O Goes Ends lim (inside r)
  maybe_can_end c g r ts a b inside behind on off rest = by (is_fresh r) refl
    where
      by : (f : Bool) → is_fresh r ≡ f → CanEnd R O Goes Ends lim (inside r)
      by true e =
          let y : CanEnd R O Goes Ends lim (behind None) = rest None in (
            mark_token (closing c) ∷ y.0,
            y.1,
            run_goes (inside r) (behind None) (mark_token (closing c)) y.0 y.1 0
                (off r (mark_token (closing c)) None (maybe_left_out r (mark_token (closing c)) c e (closing_closes c))) (omega arith) y.2,
          )
      by false e =
          inner_can_end (closing c) (closing_ends c) g r ts a (b e) inside (λ v. behind (Some v))
          (λ u t next reach q. on u t next reach (maybe_goes u t c next reach q))
          (λ u v q. off u (mark_token (closing c)) (Some v) (maybe_ends u (mark_token (closing c)) c v q (closing_closes c)))
          (λ v. rest (Some v))
