-- The levels that the tokens of a declaration make sure are within the limit.
use Rattle.std.proofs.Common.{ℕ, ◌≡◌, ◌≢◌, ◌≤◌, ◌+◌, Bool, true, false, ◌&&◌, cond, nat_eq, List, [], ◌∷◌, length, Some, None, refl, arith}
use Rattle.std.proofs.lemmas.Bool.{cond_both, true≢false}
use Rattle.k_parse_steps.specs.Types.{Place, Token, TokenKind, Mark, Init, Declarator, Stars, Reading, Fed, Closer, Read, Maybe, Brace, Opened, Front, DeclarationStage, Declaration, Declared}
use Rattle.k_tree.specs.declared.tokens.TokenKind.TheVariants as token
use Rattle.k_tree.specs.declared.tokens.mark.Mark.TheVariants as mark
use Rattle.k_tree.specs.declared.tree.declaration.Init.TheVariants as init
use Rattle.k_parse_steps.specs.Level.{plus}
use Rattle.k_parse_steps.specs.Expressions.{begin, feed}
use Rattle.k_parse_steps.specs.declared.turn.Turn.TheVariants as turn
use Rattle.k_parse_steps.specs.Readings.{is_fresh, closes, read_by, read_needed, maybe_by, read_maybe}
use Rattle.k_parse_steps.specs.declared.reading.Closer.TheVariants as closer
use Rattle.k_parse_steps.specs.Initialisers as inits
use Rattle.k_parse_steps.specs.Declarations as spec
use Rattle.k_parse_steps.specs.declared.declaration.DeclarationStage.TheVariants as stage
use Rattle.k_parse_steps.proofs.Commas.{not_none}
use Rattle.k_parse_steps.proofs.ExpressionReach.{Reached}
use Rattle.k_parse_steps.proofs.ReadingReach.{Begun, feed_begun}
use Rattle.k_parse_steps.proofs.TypeWords.{word_split}
use Rattle.k_parse_steps.specs.Tokens.{is_mark}

-- an expression up to a mark
abbrev pub ReadStays : ℕ → Read → Type 0
ReadStays lim (turn.Goes r reach) = reach ≤ lim → Reached lim r.site r.opens
ReadStays lim _ = Unit {0}

abbrev pub MaybeStays : ℕ → Maybe → Type 0
MaybeStays lim (turn.Goes r reach) = reach ≤ lim → Reached lim r.site r.opens
MaybeStays lim _ = Unit {0}

fed_stays : (lim : ℕ) (x : Fed) (b : Bool) → ((next : Reading) (reach : ℕ) → x ≡ turn.Goes next reach → reach ≤ lim → Reached lim next.site next.opens)
    → ReadStays lim (read_by x b)
fed_stays lim (turn.Goes r reach) b h = λ le. h r reach refl le
fed_stays lim (turn.Done v) true h = tt
fed_stays lim (turn.Done v) false h = tt
fed_stays lim turn.Refused b h = tt

pub needed_stays : (lim : ℕ) → (r : Reading) (t : Token) (c : Closer) → Begun lim r → ReadStays lim (read_needed r t c)
unfolding read_needed
needed_stays lim r t c b =
    fed_stays lim (feed r t) (closes t c) (λ next reach e le. (feed_begun lim r t next reach b e le).1)

by_stays : (lim : ℕ) (x : Read) → ReadStays lim x → MaybeStays lim (maybe_by x)
by_stays lim (turn.Goes r reach) h = h
by_stays lim (turn.Done v) h = tt
by_stays lim turn.Refused h = tt

pub maybe_stays : (lim : ℕ) → (r : Reading) (t : Token) (c : Closer) → Begun lim r → MaybeStays lim (read_maybe r t c)
unfolding read_maybe
maybe_stays lim r t c b =
    cond_both (is_fresh r && closes t c) (turn.Done None) (maybe_by (read_needed r t c)) (MaybeStays lim) (λ e. tt)
    (λ e. by_stays lim (read_needed r t c) (needed_stays lim r t c b))

-- nothing was read of an expression that begins
pub begin_begun : (lim rank level : ℕ) → Begun lim (begin rank level)
unfolding is_fresh
begin_begun lim rank level e = absurd (true≢false e)

-- in braces, the initialisers that close
abbrev pub Filled : List Brace → Type 0
Filled [] = Unit {0}
Filled (b ∷ s) = b.items ≢ []

-- what a stage makes sure
abbrev pub StageReached : ℕ → Front → DeclarationStage → Type 0
StageReached lim f (stage.Size d r) = Begun lim r
StageReached lim f (stage.Starts d []) = f.level + 1 ≤ lim
StageReached lim f (stage.Starts d (b ∷ s)) = b.items ≡ [] → f.level + length s + 2 ≤ lim
StageReached lim f (stage.Value d s p r) = Reached lim r.site r.opens
StageReached lim f (stage.After d s) = Filled s
StageReached lim f _ = Unit {0}

abbrev pub DeclaredStays : ℕ → Declared → Type 0
DeclaredStays lim (turn.Goes d reach) = reach ≤ lim → StageReached lim d.front d.stage
DeclaredStays lim _ = Unit {0}

module _ (lim : ℕ) where
  cond_stays : (b : Bool) (x y : Declared) → (b ≡ true → DeclaredStays lim x) → (b ≡ false → DeclaredStays lim y) → DeclaredStays lim (cond b x y)
  cond_stays b x y h k = cond_both b x y (DeclaredStays lim) h k

  before_stays : (f : Front) (stars : Stars) (p : Place) (k : TokenKind) → DeclaredStays lim (spec.kind_before f stars p k)
  unfolding spec.word spec.name spec.mark_before
  before_stays f stars p (token.Word w) =
      word_split (λ x. DeclaredStays lim (spec.word_by f x)) f.specs stars (nat_eq (length f.list) 0) w (λ e q reach. tt) (λ e q m r reach. tt) tt
  before_stays f stars p (token.Name x) = λ reach. tt
  before_stays f stars p (token.Mark mark.Star) = λ reach. tt
  before_stays f stars p _ = tt

  end_stays : (f : Front) (d : Declarator) (m : Mark) → DeclaredStays lim (spec.end f d m)
  unfolding spec.end
  end_stays f d mark.Comma = λ reach. tt
  end_stays f d mark.Semicolon = tt
  end_stays f d _ = tt

  one_more : (n : ℕ) → plus n 1 ≤ lim → n + 1 ≤ lim
  one_more n le = omega (arith, le)

  named_stays : (f : Front) (d : Declarator) (m : Mark) → DeclaredStays lim (spec.named f d m)
  unfolding spec.named
  named_stays f d m =
      cond_stays (is_mark m mark.LeftBracket) (spec.declares f (stage.Size d (begin 2 f.level)) 0)
      (cond (is_mark m mark.Equal) (spec.declares f (stage.Starts d []) (plus f.level 1)) (spec.end f d m)) (λ e reach. begin_begun lim 2 f.level)
      (λ e. cond_stays (is_mark m mark.Equal) (spec.declares f (stage.Starts d []) (plus f.level 1)) (spec.end f d m)
      (λ q reach. one_more f.level reach) (λ q. end_stays f d m))

  kind_named_stays : (f : Front) (d : Declarator) (k : TokenKind) → DeclaredStays lim (spec.kind_named f d k)
  kind_named_stays f d (token.Mark m) = named_stays f d m
  kind_named_stays f d _ = tt

  size_stays : (f : Front) (d : Declarator) (x : Maybe) → MaybeStays lim x → DeclaredStays lim (spec.size_by f d x)
  size_stays f d (turn.Goes r reach) h = λ le e. h le
  size_stays f d (turn.Done v) h = λ le. tt
  size_stays f d turn.Refused h = tt

  -- an initialiser that ends fills the brace around it
  plug_filled : (d : Declarator) (s : List Brace) (i : Init) → Filled (inits.plug_into d s i).braces
  plug_filled d [] i = tt
  plug_filled d (b ∷ s) i = not_none b.items i

  mark_after_stays : (f : Front) (d : Declarator) (s : List Brace) (m : Mark) → Filled s
      → DeclaredStays lim (spec.after_by f (inits.after_in d s m) m)
  mark_after_stays f d [] m h = end_stays f d m
  mark_after_stays f d (b ∷ s) mark.Comma h = λ reach e. absurd (h e)
  mark_after_stays f d (b ∷ s) mark.RightBrace h = λ reach. plug_filled d s (inits.listed b false)
  mark_after_stays f d (b ∷ s) _ h = tt

  after_stays : (f : Front) (o : Opened) (k : TokenKind) → Filled o.braces → DeclaredStays lim (spec.kind_after f o k)
  unfolding inits.after
  after_stays f o (token.Mark m) h = mark_after_stays f o.declarator o.braces m h
  after_stays f o _ h = tt

  last_stays : (f : Front) (d : Declarator) (s : List Brace) → DeclaredStays lim (spec.last_comma_by f (inits.last_comma_in d s))
  last_stays f d [] = tt
  last_stays f d (b ∷ s) =
      cond_both (nat_eq (length b.items) 0) None (Some (inits.plug_into d s (inits.listed b true))) (λ x. DeclaredStays lim (spec.last_comma_by f x))
      (λ e. tt) (λ e reach. plug_filled d s (inits.listed b true))

  first_stays : (f : Front) (o : Opened) (p : Place) (x : Fed)
      → ((next : Reading) (reach : ℕ) → x ≡ turn.Goes next reach → reach ≤ lim → Reached lim next.site next.opens)
      → DeclaredStays lim (spec.first_by f o p x)
  first_stays f o p (turn.Goes r reach) h = λ le. h r reach refl le
  first_stays f o p (turn.Done v) h = tt
  first_stays f o p turn.Refused h = tt

  first_token_stays : (f : Front) (o : Opened) (t : Token) → DeclaredStays lim (spec.first_token f o t)
  unfolding spec.first_token
  first_token_stays f o t =
      first_stays f o t.place (feed (begin 1 (plus (spec.inner_level f o) 1)) t)
      (λ next reach e le. (feed_begun lim (begin 1 (plus (spec.inner_level f o) 1)) t next reach
      (begin_begun lim 1 (plus (spec.inner_level f o) 1)) e le).1)

  two_more : (n l : ℕ) → plus (plus n l) 2 ≤ lim → n + l + 2 ≤ lim
  two_more n l le = omega (arith, le)

  mark_starts_stays : (f : Front) (o : Opened) (t : Token) (m : Mark) → DeclaredStays lim (spec.mark_starts f o t m)
  unfolding spec.mark_starts spec.brace spec.last_comma inits.last_comma
  mark_starts_stays f o t m =
      cond_stays (is_mark m mark.LeftBrace) (spec.brace f o t.place) (cond (is_mark m mark.RightBrace) (spec.last_comma f o) (spec.first_token f o t))
      (λ e reach q. two_more f.level (length o.braces) reach)
      (λ e. cond_stays (is_mark m mark.RightBrace) (spec.last_comma f o) (spec.first_token f o t) (λ q. last_stays f o.declarator o.braces)
      (λ q. first_token_stays f o t))

  starts_stays : (f : Front) (o : Opened) (t : Token) (k : TokenKind) → DeclaredStays lim (spec.kind_starts f o t k)
  starts_stays f o t (token.Mark m) = mark_starts_stays f o t m
  starts_stays f o t k = first_token_stays f o t

  value_stays : (f : Front) (d : Declarator) (s : List Brace) (p : Place) (t : Token) (x : Fed)
      → ((next : Reading) (reach : ℕ) → x ≡ turn.Goes next reach → reach ≤ lim → Reached lim next.site next.opens)
      → DeclaredStays lim (spec.value_by f (inits.opened d s) p x t)
  unfolding spec.after inits.plug
  value_stays f d s p t (turn.Goes r reach) h = λ le. h r reach refl le
  value_stays f d s p t (turn.Done v) h = after_stays f (inits.plug_into d s (init.One p v)) t.what (plug_filled d s (init.One p v))
  value_stays f d s p t turn.Refused h = tt

  stage_stays : (f : Front) (n : DeclarationStage) (t : Token) → StageReached lim f n → DeclaredStays lim (spec.stage_fed f n t)
  unfolding spec.before spec.size spec.starts spec.value spec.after
  stage_stays f (stage.Before stars) t h = before_stays f stars t.place t.what
  stage_stays f (stage.Named d) t h = kind_named_stays f d t.what
  stage_stays f (stage.Size d r) t h = size_stays f d (read_maybe r t closer.Bracket) (maybe_stays lim r t closer.Bracket h)
  stage_stays f (stage.Starts d s) t h = starts_stays f (inits.opened d s) t t.what
  stage_stays f (stage.Value d s p r) t h =
      value_stays f d s p t (feed r t) (λ next reach e le. (feed_begun lim r t next reach (λ q. h) e le).1)
  stage_stays f (stage.After d s) t h = after_stays f (inits.opened d s) t.what h

-- a token within the limit keeps it so
pub declaration_stays : (lim : ℕ) → (d : Declaration) (t : Token) → StageReached lim d.front d.stage
    → DeclaredStays lim (spec.feed_declaration d t)
unfolding spec.feed_declaration
declaration_stays lim d t h = stage_stays lim d.front d.stage t h
