-- An expression up to the mark that closes it.
use Rattle.std.proofs.Common.{ℕ, ◌≡◌, ◌+◌, ◌≤◌, Bool, true, false, ◌&&◌, cond, List, [], ◌∷◌, ◌++◌, length, Option, None, refl, subst, arith, nat_eq, ap, ◌∙◌, append_assoc}
use Rattle.std.proofs.lemmas.Bool.{eqb-true}
use Rattle.k_parse_steps.specs.Types.{Token, Mark, Expr, ExpressionStage, Reading, Site, Fed, Closer, Read, Maybe}
use Rattle.k_tree.specs.declared.tokens.TokenKind.TheVariants as token
use Rattle.k_tree.specs.Nesting.{option_depth}
use Rattle.k_tree.specs.Places.{Pieces, lay_option, Stand}
use Rattle.k_tree.specs.Ranked.{Ranked, IfGiven}
use Rattle.k_parse_steps.specs.Expressions.{Opens, begin, feed}
use Rattle.k_parse_steps.specs.Readings.{closing, closes, is_operand, is_fresh, read_by, read_needed, maybe_by, read_maybe}
use Rattle.k_parse_steps.specs.declared.expression.ExpressionStage.TheVariants as now
use Rattle.k_parse_steps.specs.declared.turn.Turn.TheVariants as turn
use Rattle.k_parse_steps.proofs.ExpressionState.{laid, Inv, IsRead, Keeps}
use Rattle.k_parse_steps.proofs.ExpressionTerms.{and_left, and_right}
use Rattle.k_parse_steps.proofs.ExpressionSound.{feed_keeps}
use Rattle.k_parse_steps.proofs.Marks.{false_true, token_mark_is}

-- what was read of an expression at a site
abbrev pub At : ℕ → Site → Reading → List Token → Type 0
At lim g r ts = (r.site ≡ g) × Inv lim g r.opens r.stage ts

-- the site of an expression that begins
abbrev pub site : ℕ → ℕ → Site
site rank level = record { rank = rank; level = level }

pub begin_at : (lim rank level : ℕ) → rank ≤ 2 → At lim (site rank level) (begin rank level) []
begin_at lim rank level h = (refl, record { stands = tt; opens = h; stage = tt })

pub at_keeps : (lim : ℕ) → (g : Site) (ts : List Token) (t : Token) (r : Reading) → At lim g r ts → Keeps lim g ts t (feed r t)
at_keeps lim g ts t r (e, i) =
    subst (λ h. Inv lim h r.opens r.stage ts → Keeps lim h ts t (feed r t)) e (feed_keeps lim ts t r) i

-- a token keeps it so
abbrev pub KeepsRead : ℕ → Site → List Token → Token → Mark → Read → Type 0
KeepsRead lim g ts t m (turn.Goes r reach) = reach ≤ lim → At lim g r (ts ++ t ∷ [])
KeepsRead lim g ts t m (turn.Done e) = IsRead lim g e ts × (t.what ≡ token.Mark m)
KeepsRead lim g ts t m turn.Refused = Unit {0}

-- an expression that may be left out
pub record IsMaybe (lim : ℕ) (g : Site) (v : Option Expr) (ts : List Token) : Type 0 where
  pub ranked : IfGiven (Ranked g.rank) v
  pub stands : Stand (lay_option v) ts
  pub within : g.level + option_depth v ≤ lim + 1

abbrev pub KeepsMaybe : ℕ → Site → List Token → Token → Mark → Maybe → Type 0
KeepsMaybe lim g ts t m (turn.Goes r reach) = reach ≤ lim → At lim g r (ts ++ t ∷ [])
KeepsMaybe lim g ts t m (turn.Done v) = IsMaybe lim g v ts × (t.what ≡ token.Mark m)
KeepsMaybe lim g ts t m turn.Refused = Unit {0}

read_by_keeps : (lim : ℕ) (g : Site) (ts : List Token) (t : Token) (m : Mark) (f : Fed) (b : Bool) → (b ≡ true → t.what ≡ token.Mark m)
    → Keeps lim g ts t f → KeepsRead lim g ts t m (read_by f b)
read_by_keeps lim g ts t m (turn.Goes r reach) b e k = k
read_by_keeps lim g ts t m (turn.Done v) true e k = (k, e refl)
read_by_keeps lim g ts t m (turn.Done v) false e k = tt
read_by_keeps lim g ts t m turn.Refused b e k = tt

pub closes_is : (c : Closer) (t : Token) → closes t c ≡ true → t.what ≡ token.Mark (closing c)
unfolding closes
closes_is c t h = token_mark_is t.what (closing c) h

pub read_keeps : (lim : ℕ) → (g : Site) (ts : List Token) (t : Token) (r : Reading) (c : Closer) → At lim g r ts
    → KeepsRead lim g ts t (closing c) (read_needed r t c)
unfolding read_needed
read_keeps lim g ts t r c a =
    read_by_keeps lim g ts t (closing c) (feed r t) (closes t c) (closes_is c t) (at_keeps lim g ts t r a)

maybe_by_keeps : (lim : ℕ) (g : Site) (ts : List Token) (t : Token) (m : Mark) (f : Read)
    → KeepsRead lim g ts t m f → KeepsMaybe lim g ts t m (maybe_by f)
maybe_by_keeps lim g ts t m (turn.Goes r reach) k = k
maybe_by_keeps lim g ts t m (turn.Done v) k = (record { ranked = k.0.ranked; stands = k.0.stands; within = k.0.within }, k.1)
maybe_by_keeps lim g ts t m turn.Refused k = tt

operand_is : (n : ExpressionStage) → is_operand n ≡ true → n ≡ now.Operand
operand_is now.Operand h = refl
operand_is _ h = absurd (false_true h)

no_opens : (s : Opens) → length s ≡ 0 → s ≡ []
no_opens [] h = refl
no_opens (o ∷ s) h = absurd (omega (arith, h))

-- nothing was read
pub fresh_stands : (lim : ℕ) (g : Site) (ts : List Token) (r : Reading) → is_fresh r ≡ true → At lim g r ts → Stand [] ts
unfolding is_fresh
fresh_stands lim g ts r h (e, i) =
    let a : r.stage ≡ now.Operand = operand_is r.stage (and_left (is_operand r.stage) (nat_eq (length r.opens) 0) h) in
    let b : r.opens ≡ [] = no_opens r.opens (eqb-true (length r.opens) 0 (and_right (is_operand r.stage) (nat_eq (length r.opens) 0) h)) in
    subst (λ n. Stand (laid [] n) ts) a (subst (λ s. Stand (laid s r.stage) ts) b i.stands)

maybe_cond : (lim : ℕ) (g : Site) (ts : List Token) (t : Token) (m : Mark) (b : Bool) (x y : Maybe)
    → (b ≡ true → KeepsMaybe lim g ts t m x) → KeepsMaybe lim g ts t m y → KeepsMaybe lim g ts t m (cond b x y)
maybe_cond lim g ts t m true x y f k = f refl
maybe_cond lim g ts t m false x y f k = k

pub maybe_keeps : (lim : ℕ) → (g : Site) (ts : List Token) (t : Token) (r : Reading) (c : Closer) → g.level ≤ lim + 1 → At lim g r ts
    → KeepsMaybe lim g ts t (closing c) (read_maybe r t c)
unfolding read_maybe
maybe_keeps lim g ts t r c le a =
    maybe_cond lim g ts t (closing c) (is_fresh r && closes t c) (turn.Done None) (maybe_by (read_needed r t c))
    (λ h. (
      record { ranked = tt; stands = fresh_stands lim g ts r (and_left (is_fresh r) (closes t c) h) a; within = omega (arith, le) },
      closes_is c t (and_right (is_fresh r) (closes t c) h),
    ))
    (maybe_by_keeps lim g ts t (closing c) (read_needed r t c) (read_keeps lim g ts t r c a))

-- pieces that stand, and behind them what holds of the rest
pub record Behind (xs : Pieces) (P : List Token → Type 0) (ts : List Token) : Type 0 where
  pub front : List Token
  pub back : List Token
  pub is : ts ≡ front ++ back
  pub stands : Stand xs front
  pub rest : P back

-- a token more behind pieces
abbrev pub pushed : (ts : List Token) (t : Token) (xs : Pieces) (P Q : List Token → Type 0) → (b : Behind xs P ts) → Q (b.back ++ t ∷ [])
    → Behind xs Q (ts ++ t ∷ [])
pushed ts t xs P Q b q = record {
  front = b.front;
  back = b.back ++ t ∷ [];
  is = ap (λ z. z ++ t ∷ []) b.is ∙ append_assoc b.front b.back (t ∷ []);
  stands = b.stands;
  rest = q;
}
