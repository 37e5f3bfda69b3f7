-- An expression up to the mark that closes it.
use Rattle.std.proofs.Common.{ℕ, ◌≡◌, true, false, cond, ◌&&◌, [], ◌∷◌, length, Some, None, sym, ap, ◌∙◌, refl, arith}
use Rattle.std.proofs.lemmas.Bool.{and_parts, eqb-true, cases_Bool}
use Rattle.std.proofs.Common.{⊎_elim}
use Rattle.k_parse_steps.specs.Types.{Place, Token, TokenKind, Expr, ExpressionStage, Site, Reading, Fed, Closer}
use Rattle.k_tree.specs.declared.tokens.TokenKind.TheVariants as token
use Rattle.k_tree.specs.declared.tokens.mark.Mark.TheVariants as mark
use Rattle.k_parse_steps.specs.Operators.{binding, is_prefix_mark}
use Rattle.k_parse_steps.specs.Expressions.{feed, operand, mark_operand, no_arguments, Opens}
use Rattle.k_parse_steps.specs.Readings.{read_needed, read_maybe, read_by, maybe_by, is_fresh, closing, closes}
use Rattle.k_parse_steps.specs.declared.expression.ExpressionStage.TheVariants as now
use Rattle.k_parse_steps.specs.declared.turn.Turn.TheVariants as turn
use Rattle.k_parse_steps.specs.declared.reading.Closer.TheVariants as closer
use Rattle.k_parse_steps.proofs.CompleteLeads.{token_at}
use Rattle.k_parse_steps.proofs.CompleteHolds.{Feeds, reading, awaits, Below, below_none, below_by}
use Rattle.k_parse_steps.specs.Tokens.{is_mark, token_is_mark}
use Rattle.k_parse_steps.proofs.Marks.{token_mark_is}
use Rattle.k_parse_steps.proofs.CompleteSteps.{bind}

pub needed_goes : (r : Reading) (t : Token) (c : Closer) (next : Reading) (reach : ℕ) → Feeds r t next reach → read_needed r t c ≡ turn.Goes next reach
unfolding read_needed
needed_goes r t c next reach h = ap (λ f. read_by f (closes t c)) h

pub needed_ends : (r : Reading) (t : Token) (c : Closer) (e : Expr) → feed r t ≡ turn.Done e → closes t c ≡ true → read_needed r t c ≡ turn.Done e
unfolding read_needed
needed_ends r t c e h i = ap (λ f. read_by f (closes t c)) h ∙ ap (λ b. cond b (turn.Done e) turn.Refused) i

-- a mark that closes is refused where nothing has been read yet
mark_refused : (g : Site) (p : Place) (c : Closer) → feed (awaits g []) (token_at p (token.Mark (closing c))) ≡ turn.Refused
unfolding feed operand mark_operand no_arguments is_prefix_mark is_mark
mark_refused g p closer.Bracket = refl
mark_refused g p closer.Paren = refl
mark_refused g p closer.Semicolon = refl
mark_refused g p closer.Colon = refl

kind_refused : (g : Site) (p : Place) (c : Closer) (kind : TokenKind) → token_is_mark kind (closing c) ≡ true
    → feed (awaits g []) (token_at p kind) ≡ turn.Refused
kind_refused g p c kind e = ap (λ k. feed (awaits g []) (token_at p k)) (token_mark_is kind (closing c) e) ∙ mark_refused g p c

opens_refused : (g : Site) (s : Opens) (p : Place) (c : Closer) (kind : TokenKind) → length s ≡ 0 → token_is_mark kind (closing c) ≡ true → feed (awaits g s) (token_at p kind) ≡ turn.Refused
opens_refused g [] p c kind z e = kind_refused g p c kind e
opens_refused g (o ∷ s) p c kind z e = absurd (omega arith)

state_refused : (g : Site) (s : Opens) (n : ExpressionStage) (t : Token) (c : Closer) → is_fresh (reading g s n) ≡ true → closes t c ≡ true → feed (reading g s n) t ≡ turn.Refused
unfolding is_fresh closes
state_refused g s now.Operand t c f e = opens_refused g s t.place c t.what (eqb-true (length s) 0 f) e
state_refused g s n t c f e = absurd cc

fresh_refused : (r : Reading) (t : Token) (c : Closer) → (is_fresh r && closes t c) ≡ true → feed r t ≡ turn.Refused
fresh_refused r t c e =
    let both : (is_fresh r ≡ true) × (closes t c ≡ true) = and_parts (is_fresh r) (closes t c) e in
    state_refused r.site r.opens r.stage t c both.0 both.1

pub refused_goes : (r : Reading) (reach : ℕ) → ◌≡◌ {A = Fed} turn.Refused (turn.Goes r reach) → ⊥
refused_goes r reach e = cc

refused_ends : (e : Expr) → ◌≡◌ {A = Fed} turn.Refused (turn.Done e) → ⊥
refused_ends e h = cc

not_fresh : (r : Reading) (t : Token) (c : Closer) → (feed r t ≡ turn.Refused → ⊥) → (is_fresh r && closes t c) ≡ false
not_fresh r t c f = ⊎_elim (λ e. absurd (f (fresh_refused r t c e))) (λ e. e) (cases_Bool (is_fresh r && closes t c))

pub maybe_goes : (r : Reading) (t : Token) (c : Closer) (next : Reading) (reach : ℕ) → Feeds r t next reach → read_maybe r t c ≡ turn.Goes next reach
unfolding read_maybe
maybe_goes r t c next reach h =
    ap (λ b. cond b (turn.Done None) (maybe_by (read_needed r t c))) (not_fresh r t c (λ e. refused_goes next reach (sym e ∙ h)))
    ∙ ap maybe_by (needed_goes r t c next reach h)

pub maybe_ends : (r : Reading) (t : Token) (c : Closer) (e : Expr) → feed r t ≡ turn.Done e → closes t c ≡ true → read_maybe r t c ≡ turn.Done (Some e)
unfolding read_maybe
maybe_ends r t c e h i =
    ap (λ b. cond b (turn.Done None) (maybe_by (read_needed r t c))) (not_fresh r t c (λ j. refused_ends e (sym j ∙ h)))
    ∙ ap maybe_by (needed_ends r t c e h i)

-- the mark that closes an expression does so wherever it stands
pub closes_at : (c : Closer) (p : Place) → closes (token_at p (token.Mark (closing c))) c ≡ true
unfolding closes is_mark
closes_at closer.Bracket p = refl
closes_at closer.Paren p = refl
closes_at closer.Semicolon p = refl
closes_at closer.Colon p = refl

-- the marks that close end each expression
pub bracket_below : (rank : ℕ) → Below rank (token.Mark mark.RightBracket)
unfolding binding is_mark
bracket_below rank = below_none rank mark.RightBracket refl refl

pub paren_below : (rank : ℕ) → Below rank (token.Mark mark.RightParen)
unfolding binding is_mark
paren_below rank = below_none rank mark.RightParen refl refl

pub semicolon_below : (rank : ℕ) → Below rank (token.Mark mark.Semicolon)
unfolding binding is_mark
semicolon_below rank = below_none rank mark.Semicolon refl refl

pub colon_below : (rank : ℕ) → Below rank (token.Mark mark.Colon)
unfolding binding is_mark
colon_below rank = below_none rank mark.Colon refl refl

-- a comma ends an argument and an initialiser
pub comma_below : Below 1 (token.Mark mark.Comma)
unfolding binding is_mark
comma_below = below_by 1 mark.Comma (bind 0 0 1) refl refl (omega arith)
