-- Each token of a declaration keeps what was read true.
use Rattle.std.proofs.Common.{ℕ, ◌≡◌, ◌≢◌, ◌+◌, ◌≤◌, Bool, true, false, cond, IsTrue, List, [], ◌∷◌, ◌++◌, length, Option, Some, None, refl, sym, ◌∙◌, ap, subst, arith, append_assoc, nat_eq}
use Rattle.std.specs.Prelude.{max}
use Rattle.std.proofs.lemmas.Bool.{eqb-true, eqb-false}
use Rattle.std.proofs.lemmas.List.{append-nil, map-append}
use Rattle.std.proofs.lemmas.List.Elements.{All-nil, All-push}
use Rattle.k_parse_steps.specs.Types.{Place, Token, TokenKind, Mark, Word, Expr, Declarator, Stars, Reading, Fed, Maybe, Brace, Front, DeclarationStage, Declaration, Declared}
use Rattle.k_tree.specs.declared.tokens.TokenKind.TheVariants as token
use Rattle.k_tree.specs.declared.tokens.mark.Mark.TheVariants as mark
use Rattle.k_tree.specs.declared.tokens.word.Word.TheVariants as word_
use Rattle.k_tree.specs.declared.tree.declaration.Init.TheVariants as init
use Rattle.k_tree.proofs.Folds.{init_One}
use Rattle.k_tree.specs.Nesting.{expr_depth, option_depth, dims_depth, init_depth_step, initialised_depth, declarator_depth}
use Rattle.k_tree.specs.Places.{Pieces, plain, at, lay_dim, lay_dims, lay_option, lay_expr, lay_init, lay_init_step, lay_initialised, lay_declarator, Stand}
use Rattle.k_tree.specs.Ranked.{Ranked, IfGiven, is_spec, RankedInit, RankedDeclarator, no_inits, one}
use Rattle.k_tree.specs.Spelling.{the_mark, the_word, the_name, spell_specs, spell_stars}
use Rattle.k_tree.proofs.Standing.{stand-append}
use Rattle.k_parse_steps.specs.Level.{plus}
use Rattle.k_parse_steps.specs.Operators.{is_spec_word}
use Rattle.k_parse_steps.specs.Stars.{all_stars, star, constant}
use Rattle.k_parse_steps.specs.Expressions.{begin, feed}
use Rattle.k_parse_steps.specs.declared.turn.Turn.TheVariants as turn
use Rattle.k_parse_steps.specs.Readings.{read_maybe}
use Rattle.k_parse_steps.specs.declared.reading.Closer.TheVariants as closer
use Rattle.k_parse_steps.specs.Initialisers as inits
use Rattle.k_parse_steps.specs.Declarations as spec
use Rattle.k_parse_steps.specs.declared.declaration.DeclarationStage.TheVariants as stage
use Rattle.k_parse_steps.proofs.Commas.{comma, lay_each, each_push, with_last, not_none}
use Rattle.k_parse_steps.proofs.Rows.{row_push, deepest_more, StartsAt, starts-more, at_stands}
use Rattle.k_parse_steps.proofs.ExpressionState.{IsRead, Keeps}
use Rattle.k_parse_steps.proofs.ExpressionTerms.{one_at, stand-more, regroup, three}
use Rattle.k_parse_steps.proofs.ExpressionTerms as terms
use Rattle.k_parse_steps.proofs.TypeSound.{stars_more, stars_const, no_stars_yet}
use Rattle.k_parse_steps.proofs.ReadingSound.{At, site, begin_at, at_keeps, IsMaybe, KeepsMaybe, maybe_keeps, Behind}
use Rattle.k_parse_steps.proofs.InitialiserSound.{bare_more, plug_keeps, comma_keeps, close_keeps, last_keeps}
use Rattle.k_parse_steps.proofs.DeclarationState.{lay_bare, lay_front, lay_equal, lay_braces, OkFront, IsDeclarator, OkAfter, OkStarts, OkNamed, OkSize, OkValue, OkStage, OkDeclaration, KeepsDeclared}
use Rattle.k_parse_steps.proofs.TypeWords.{word_split}
use Rattle.k_parse_steps.specs.Tokens.{is_mark, is_word}
use Rattle.k_parse_steps.proofs.Marks.{mark_is, word_is}

none_yet : {A : Type 0} (xs : List A) → nat_eq (length xs) 0 ≡ true → xs ≡ []
none_yet [] h = refl
none_yet (x ∷ xs) h = absurd (no (eqb-true (length (x ∷ xs)) 0 h))
  where
    no : length (x ∷ xs) ≡ 0 → ⊥
    no e = omega (arith, e)

pub some_yet : {A : Type 0} (xs : List A) → nat_eq (length xs) 0 ≡ false → xs ≢ []
some_yet [] h = absurd (eqb-false 0 0 h refl)
some_yet (x ∷ xs) h = λ q. cc

pub behind_all : (xs ys : Pieces) (P : List Token → Type 0) (ts : List Token) (b : Behind xs P ts) → Stand ys b.back → Stand (xs ++ ys) ts
behind_all xs ys P ts b st = subst (λ z. Stand (xs ++ ys) z) (sym b.is) (stand-append xs ys b.front b.back b.stands st)

pub behind_now : (xs : Pieces) (P : List Token → Type 0) (ts : List Token) → Stand xs ts → P [] → Behind xs P ts
behind_now xs P ts st p = record { front = ts; back = []; is = sym (append-nil ts); stands = st; rest = p }

module _ (lim : ℕ) (l : ℕ) (ts : List Token) (t : Token) where
  declared_cond : (b : Bool) (x y : Declared) → (b ≡ true → KeepsDeclared lim l ts t x) → (b ≡ false → KeepsDeclared lim l ts t y)
      → KeepsDeclared lim l ts t (cond b x y)
  declared_cond true x y f h = f refl
  declared_cond false x y f h = h refl

  -- before a name

  star_keeps : (f : Front) (stars : Stars) → OkFront lim l f → t.what ≡ token.Mark mark.Star
      → Stand (lay_front f ++ plain (spell_stars (all_stars stars))) ts
      → KeepsDeclared lim l ts t (spec.declares f (stage.Before (star stars)) 0)
  star_keeps f stars o e st = λ z. record {
    front = o;
    stage = subst (λ y. Stand (lay_front f ++ y) (ts ++ t ∷ []))
        (sym (ap plain (stars_more (all_stars stars) false) ∙ map-append _ (spell_stars (all_stars stars)) (the_mark mark.Star)))
        (stand-more (lay_front f) (plain (spell_stars (all_stars stars))) (plain (the_mark mark.Star)) ts (t ∷ []) st (terms.one t (token.Mark mark.Star) e));
  }

  const_keeps : (f : Front) (stars : Stars) (w : Word) → OkFront lim l f → t.what ≡ token.Word w → stars.pending ≡ true → is_word w word_.Const ≡ true
      → Stand (lay_front f ++ plain (spell_stars (all_stars stars))) ts
      → KeepsDeclared lim l ts t (spec.declares f (stage.Before (constant stars)) 0)
  const_keeps f stars w o e h k st = λ z. record {
    front = o;
    stage = subst (λ y. Stand (lay_front f ++ y) (ts ++ t ∷ []))
        (sym (ap plain (stars_const stars.done ∙ ap (λ x. spell_stars x ++ the_word word_.Const) (sym pending))
        ∙ map-append _ (spell_stars (all_stars stars)) (the_word word_.Const)))
        (stand-more (lay_front f) (plain (spell_stars (all_stars stars))) (plain (the_word word_.Const)) ts (t ∷ []) st
        (terms.one t (token.Word word_.Const) (e ∙ ap token.Word (word_is w word_.Const k))));
  }
    where
      pending : all_stars stars ≡ stars.done ++ false ∷ []
      pending = ap (λ b. cond b (stars.done ++ false ∷ []) stars.done) h

  spec_keeps : (f : Front) (stars : Stars) (w : Word) → OkFront lim l f → t.what ≡ token.Word w → all_stars stars ≡ [] → f.list ≡ []
      → is_spec_word w ≡ true → Stand (lay_front f ++ plain (spell_stars (all_stars stars))) ts
      → KeepsDeclared lim l ts t (spec.declares (spec.front_of (f.specs ++ w ∷ []) f.list f.level) (stage.Before stars) 0)
  unfolding is_spec_word
  spec_keeps f stars w o e a b h st = λ z. record {
    front = record { specs = (not_none f.specs w, All-push (λ u. IsTrue (is_spec u)) f.specs w o.specs.1 h); list = o.list; level = o.level; base = o.base; within = o.within };
    stage = subst (λ x. Stand ((plain (spell_specs (f.specs ++ w ∷ [])) ++ lay_each lay_declarator f.list) ++ plain (spell_stars x)) (ts ++ t ∷ [])) (sym a)
        (subst (λ x. Stand ((plain (spell_specs (f.specs ++ w ∷ [])) ++ lay_each lay_declarator x) ++ []) (ts ++ t ∷ [])) (sym b)
        (subst (λ x. Stand x (ts ++ t ∷ []))
        (sym (append-nil (plain (spell_specs (f.specs ++ w ∷ [])) ++ []) ∙ (append-nil (plain (spell_specs (f.specs ++ w ∷ [])))
        ∙ (ap plain (map-append token.Word f.specs (w ∷ [])) ∙ map-append _ (spell_specs f.specs) (the_word w)))))
        (stand-append (plain (spell_specs f.specs)) (plain (the_word w)) ts (t ∷ [])
        (subst (λ x. Stand x ts) (append-nil (plain (spell_specs f.specs) ++ []) ∙ append-nil (plain (spell_specs f.specs)))
        (subst (λ x. Stand ((plain (spell_specs f.specs) ++ lay_each lay_declarator x) ++ []) ts) b
        (subst (λ x. Stand (lay_front f ++ plain (spell_stars x)) ts) a st)))
        (terms.one t (token.Word w) e))));
  }

  word_keeps : (f : Front) (stars : Stars) (w : Word) → OkFront lim l f → t.what ≡ token.Word w
      → Stand (lay_front f ++ plain (spell_stars (all_stars stars))) ts → KeepsDeclared lim l ts t (spec.word f stars w)
  unfolding spec.word
  word_keeps f stars w o e st =
      word_split (λ x. KeepsDeclared lim l ts t (spec.word_by f x)) f.specs stars (nat_eq (length f.list) 0) w
      (λ h k. const_keeps f stars w o e h k st) (λ h k m r. spec_keeps f stars w o e (no_stars_yet stars h k) (none_yet f.list m) r st) tt

  name_keeps : (f : Front) (stars : Stars) (x : List ℕ) → OkFront lim l f → t.what ≡ token.Name x
      → Stand (lay_front f ++ plain (spell_stars (all_stars stars))) ts → KeepsDeclared lim l ts t (spec.name f stars x t.place)
  unfolding spec.name
  name_keeps f stars x o e st = λ z. record {
    front = o;
    stage = record {
      stands = stand-more (lay_front f) (plain (spell_stars (all_stars stars))) _ ts (t ∷ []) st (one_at t (token.Name x) e);
      bare = record { dims = All-nil _; init = refl; within = omega (arith, o.base) };
    };
  }

  mark_before_keeps : (f : Front) (stars : Stars) (m : Mark) → OkFront lim l f → t.what ≡ token.Mark m
      → Stand (lay_front f ++ plain (spell_stars (all_stars stars))) ts → KeepsDeclared lim l ts t (spec.mark_before f stars m)
  unfolding spec.mark_before
  mark_before_keeps f stars mark.Star o e st = star_keeps f stars o e st
  mark_before_keeps f stars _ o e st = tt

  kind_before_keeps : (f : Front) (stars : Stars) (k : TokenKind) → OkFront lim l f → t.what ≡ k
      → Stand (lay_front f ++ plain (spell_stars (all_stars stars))) ts → KeepsDeclared lim l ts t (spec.kind_before f stars t.place k)
  kind_before_keeps f stars (token.Word w) o e st = word_keeps f stars w o e st
  kind_before_keeps f stars (token.Name x) o e st = name_keeps f stars x o e st
  kind_before_keeps f stars (token.Mark m) o e st = mark_before_keeps f stars m o e st
  kind_before_keeps f stars _ o e st = tt

  before_keeps : (f : Front) (stars : Stars) → OkFront lim l f → Stand (lay_front f ++ plain (spell_stars (all_stars stars))) ts
      → KeepsDeclared lim l ts t (spec.before f stars t)
  unfolding spec.before
  before_keeps f stars o st = kind_before_keeps f stars t.what o refl st

  -- behind a declarator

  end_keeps : (f : Front) (d : Declarator) (m : Mark) → OkFront lim l f → t.what ≡ token.Mark m → IsDeclarator lim l f d ts
      → KeepsDeclared lim l ts t (spec.end f d m)
  unfolding spec.end
  end_keeps f d mark.Comma o e k = λ z. record {
    front = record {
      specs = o.specs;
      list = All-push RankedDeclarator f.list d o.list k.ranked;
      level = o.level;
      base = o.base;
      within = omega (arith, o.within, k.within, deepest_more declarator_depth f.list d);
    };
    stage = subst (λ x. Stand x (ts ++ t ∷ [])) (sym (append-nil (plain (spell_specs f.specs) ++ lay_each lay_declarator (f.list ++ d ∷ []))))
        (subst (λ x. Stand (plain (spell_specs f.specs) ++ x) (ts ++ t ∷ [])) (sym (each_push lay_declarator f.list d))
        (three (plain (spell_specs f.specs)) (lay_each lay_declarator f.list) (lay_declarator d) comma (ts ++ t ∷ [])
        (stand-append _ comma ts (t ∷ [])
        (regroup (plain (spell_specs f.specs)) (lay_each lay_declarator f.list) (lay_declarator d) ts k.stands)
        (terms.one t (token.Mark mark.Comma) e))));
  }
  end_keeps f d mark.Semicolon o e k = record {
    ranked = (o.specs, not_none f.list d, All-push RankedDeclarator f.list d o.list k.ranked);
    stands = subst (λ x. Stand (plain (spell_specs f.specs) ++ (x ++ plain (the_mark mark.Semicolon))) (ts ++ t ∷ [])) (sym (with_last lay_declarator f.list d))
        (regroup (plain (spell_specs f.specs)) (lay_each lay_declarator f.list ++ lay_declarator d) (plain (the_mark mark.Semicolon)) (ts ++ t ∷ [])
        (stand-append _ (plain (the_mark mark.Semicolon)) ts (t ∷ [])
        (regroup (plain (spell_specs f.specs)) (lay_each lay_declarator f.list) (lay_declarator d) ts k.stands)
        (terms.one t (token.Mark mark.Semicolon) e)));
    within = omega (arith, o.within, k.within, deepest_more declarator_depth f.list d);
  }
  end_keeps f d _ o e k = tt

  bare_whole : (f : Front) (d : Declarator) → OkNamed lim l f d ts → IsDeclarator lim l f d ts
  bare_whole f d k = record {
    stands = subst (λ x. Stand (lay_front f ++ (plain (spell_stars d.stars) ++ (at d.place (plain (the_name d.name)) ++ (lay_dims d.dims ++ lay_initialised x)))) ts)
        (sym k.bare.init)
        (subst (λ x. Stand (lay_front f ++ (plain (spell_stars d.stars) ++ (at d.place (plain (the_name d.name)) ++ x))) ts) (sym (append-nil (lay_dims d.dims))) k.stands);
    ranked = (k.bare.dims, subst (λ x. IfGiven RankedInit x) (sym k.bare.init) tt);
    within = subst (λ x. l + max (dims_depth d.dims) (initialised_depth x) ≤ lim + 1) (sym k.bare.init) (omega (arith, k.bare.within));
  }

  bracket_keeps : (f : Front) (d : Declarator) → OkFront lim l f → t.what ≡ token.Mark mark.LeftBracket → OkNamed lim l f d ts
      → KeepsDeclared lim l ts t (spec.declares f (stage.Size d (begin 2 f.level)) 0)
  bracket_keeps f d o e k = λ z. record {
    front = o;
    stage = record {
      behind = behind_now (lay_front f ++ (lay_bare d ++ plain (the_mark mark.LeftBracket))) _ (ts ++ t ∷ [])
          (stand-more (lay_front f) (lay_bare d) (plain (the_mark mark.LeftBracket)) ts (t ∷ []) k.stands (terms.one t (token.Mark mark.LeftBracket) e))
          (begin_at lim 2 f.level (omega arith));
      bare = k.bare;
    };
  }

  equal_keeps : (f : Front) (d : Declarator) (reach : ℕ) → OkFront lim l f → t.what ≡ token.Mark mark.Equal → OkNamed lim l f d ts
      → KeepsDeclared lim l ts t (spec.declares f (stage.Starts d []) reach)
  equal_keeps f d reach o e k = λ z. record {
    front = o;
    stage = record {
      stands = subst (λ x. Stand x (ts ++ t ∷ [])) (sym (append-nil (lay_equal f d)))
          (stand-more (lay_front f) (lay_bare d) (plain (the_mark mark.Equal)) ts (t ∷ []) k.stands (terms.one t (token.Mark mark.Equal) e));
      bare = k.bare;
      braces = tt;
    };
  }

  named_keeps : (f : Front) (d : Declarator) (m : Mark) → OkFront lim l f → t.what ≡ token.Mark m → OkNamed lim l f d ts
      → KeepsDeclared lim l ts t (spec.named f d m)
  unfolding spec.named
  named_keeps f d m o e k =
      declared_cond (is_mark m mark.LeftBracket) _ _ (λ h. bracket_keeps f d o (e ∙ ap token.Mark (mark_is m mark.LeftBracket h)) k)
      (λ h. declared_cond (is_mark m mark.Equal) _ _ (λ q. equal_keeps f d (plus f.level 1) o (e ∙ ap token.Mark (mark_is m mark.Equal q)) k) (λ q. end_keeps f d m o e (bare_whole f d k)))

  kind_named_keeps : (f : Front) (d : Declarator) (k : TokenKind) → OkFront lim l f → t.what ≡ k → OkNamed lim l f d ts
      → KeepsDeclared lim l ts t (spec.kind_named f d k)
  kind_named_keeps f d (token.Mark m) o e k = named_keeps f d m o e k
  kind_named_keeps f d _ o e k = tt

  -- in a dimension

  size_stands : (f : Front) (d : Declarator) (v : Option Expr) (us : List Token)
      → Stand ((lay_front f ++ (lay_bare d ++ plain (the_mark mark.LeftBracket))) ++ (lay_option v ++ plain (the_mark mark.RightBracket))) us
      → Stand (lay_front f ++ lay_bare (spec.sized d v)) us
  size_stands f d v us st =
      subst (λ x. Stand (lay_front f ++ (plain (spell_stars d.stars) ++ (at d.place (plain (the_name d.name)) ++ x))) us) (sym (row_push lay_dim d.dims v))
      (subst (λ x. Stand (lay_front f ++ x) us) (bare_more d (lay_dim v))
      (three (lay_front f) (lay_bare d) (plain (the_mark mark.LeftBracket)) (lay_option v ++ plain (the_mark mark.RightBracket)) us st))

  size_done : (f : Front) (d : Declarator) (r : Reading) (v : Option Expr) → OkFront lim l f → (k : OkSize lim l f d (At lim (site 2 f.level) r) ts)
      → IsMaybe lim (site 2 f.level) v k.behind.back → t.what ≡ token.Mark mark.RightBracket
      → OkNamed lim l f (spec.sized d v) (ts ++ t ∷ [])
  size_done f d r v o k m e = record {
    stands = size_stands f d v (ts ++ t ∷ [])
        (stand-more (lay_front f ++ (lay_bare d ++ plain (the_mark mark.LeftBracket))) (lay_option v) (plain (the_mark mark.RightBracket)) ts (t ∷ [])
        (behind_all _ (lay_option v) _ ts k.behind m.stands) (terms.one t (token.Mark mark.RightBracket) e));
    bare = record {
      dims = All-push (IfGiven (Ranked 2)) d.dims v k.bare.dims m.ranked;
      init = k.bare.init;
      within = omega (arith, k.bare.within, m.within, o.level, deepest_more option_depth d.dims v);
    };
  }

  size_by_keeps : (f : Front) (d : Declarator) (r : Reading) (m : Maybe) → OkFront lim l f → (k : OkSize lim l f d (At lim (site 2 f.level) r) ts)
      → KeepsMaybe lim (site 2 f.level) k.behind.back t mark.RightBracket m → KeepsDeclared lim l ts t (spec.size_by f d m)
  size_by_keeps f d r (turn.Goes q reach) o k h = λ z. record {
    front = o;
    stage = record {
      behind = record {
        front = k.behind.front;
        back = k.behind.back ++ t ∷ [];
        is = ap (λ x. x ++ t ∷ []) k.behind.is ∙ append_assoc k.behind.front k.behind.back (t ∷ []);
        stands = k.behind.stands;
        rest = h z;
      };
      bare = k.bare;
    };
  }
  size_by_keeps f d r (turn.Done v) o k h = λ z. record { front = o; stage = size_done f d r v o k h.0 h.1 }
  size_by_keeps f d r turn.Refused o k h = tt

  size_keeps : (f : Front) (d : Declarator) (r : Reading) → OkFront lim l f → OkSize lim l f d (At lim (site 2 f.level) r) ts
      → KeepsDeclared lim l ts t (spec.size f d r t)
  unfolding spec.size
  size_keeps f d r o k =
      size_by_keeps f d r (read_maybe r t closer.Bracket) o k
      (maybe_keeps lim (site 2 f.level) k.behind.back t r closer.Bracket (omega (arith, o.base, o.level)) k.behind.rest)

  -- behind an initialiser

  after_in_keeps : (f : Front) (d : Declarator) (s : List Brace) (m : Mark) → OkFront lim l f → t.what ≡ token.Mark m → OkAfter lim l f d s ts
      → KeepsDeclared lim l ts t (spec.after_by f (inits.after_in d s m) m)
  after_in_keeps f d [] m o e k = end_keeps f d m o e k
  after_in_keeps f d (b ∷ s) mark.Comma o e k = λ z. record { front = o; stage = comma_keeps lim l f d b s ts t e k }
  after_in_keeps f d (b ∷ s) mark.RightBrace o e k = λ z. record { front = o; stage = close_keeps lim l f ts t e d b s k }
  after_in_keeps f d (b ∷ s) _ o e k = tt

  kind_after_keeps : (f : Front) (d : Declarator) (s : List Brace) (k : TokenKind) → OkFront lim l f → t.what ≡ k → OkAfter lim l f d s ts
      → KeepsDeclared lim l ts t (spec.kind_after f (inits.opened d s) k)
  unfolding inits.after
  kind_after_keeps f d s (token.Mark m) o e k = after_in_keeps f d s m o e k
  kind_after_keeps f d s _ o e k = tt

  after_keeps : (f : Front) (d : Declarator) (s : List Brace) → OkFront lim l f → OkAfter lim l f d s ts
      → KeepsDeclared lim l ts t (spec.after f (inits.opened d s) t)
  unfolding spec.after
  after_keeps f d s o k = kind_after_keeps f d s t.what o refl k

  -- where an initialiser begins

  true_brace : (a n : ℕ) → plus (plus a n) 2 ≤ lim → (a + n) + 1 ≤ lim + 1
  true_brace a n h = omega (arith, h)

  brace_keeps : (f : Front) (d : Declarator) (s : List Brace) → OkFront lim l f → t.what ≡ token.Mark mark.LeftBrace → OkStarts lim l f d s ts
      → KeepsDeclared lim l ts t (spec.brace f (inits.opened d s) t.place)
  unfolding spec.brace
  brace_keeps f d s o e k = λ z. record {
    front = o;
    stage = record {
      stands = stand-more (lay_equal f d) (lay_braces s) _ ts (t ∷ []) k.stands (one_at t (token.Mark mark.LeftBrace) e);
      bare = k.bare;
      braces = (no_inits, omega (arith, true_brace f.level (length s) z, o.level), k.braces);
    };
  }

  last_keeps_in : (f : Front) (d : Declarator) (s : List Brace) → OkFront lim l f → t.what ≡ token.Mark mark.RightBrace → OkStarts lim l f d s ts
      → KeepsDeclared lim l ts t (spec.last_comma_by f (inits.last_comma_in d s))
  last_keeps_in f d [] o e k = tt
  last_keeps_in f d (b ∷ s) o e k = last_cond (nat_eq (length b.items) 0) refl
    where
      last_cond : (c : Bool) → nat_eq (length b.items) 0 ≡ c
          → KeepsDeclared lim l ts t (spec.last_comma_by f (cond c None (Some (inits.plug_into d s (inits.listed b true)))))
      last_cond true h = tt
      last_cond false h = λ z. record { front = o; stage = last_keeps lim l f ts t e d b s (some_yet b.items h) k }

  last_comma_keeps : (f : Front) (d : Declarator) (s : List Brace) → OkFront lim l f → t.what ≡ token.Mark mark.RightBrace → OkStarts lim l f d s ts
      → KeepsDeclared lim l ts t (spec.last_comma f (inits.opened d s))
  unfolding spec.last_comma inits.last_comma
  last_comma_keeps f d s o e k = last_keeps_in f d s o e k

  first_by_keeps : (f : Front) (d : Declarator) (s : List Brace) (h : Fed) → OkFront lim l f → OkStarts lim l f d s ts
      → Keeps lim (site 1 (plus (plus f.level (length s)) 1)) [] t h → KeepsDeclared lim l ts t (spec.first_by f (inits.opened d s) t.place h)
  first_by_keeps f d s (turn.Goes r reach) o k h = λ z. record {
    front = o;
    stage = record {
      behind = record { front = ts; back = t ∷ []; is = refl; stands = k.stands; rest = (h z, refl) };
      bare = k.bare;
      braces = k.braces;
    };
  }
  first_by_keeps f d s (turn.Done v) o k h = tt
  first_by_keeps f d s turn.Refused o k h = tt

  first_keeps : (f : Front) (d : Declarator) (s : List Brace) → OkFront lim l f → OkStarts lim l f d s ts
      → KeepsDeclared lim l ts t (spec.first_token f (inits.opened d s) t)
  unfolding spec.first_token
  first_keeps f d s o k =
      first_by_keeps f d s _ o k (at_keeps lim (site 1 (plus (plus f.level (length s)) 1)) [] t (begin 1 (plus (plus f.level (length s)) 1))
      (begin_at lim 1 (plus (plus f.level (length s)) 1) (omega arith)))

  mark_starts_keeps : (f : Front) (d : Declarator) (s : List Brace) (m : Mark) → OkFront lim l f → t.what ≡ token.Mark m → OkStarts lim l f d s ts
      → KeepsDeclared lim l ts t (spec.mark_starts f (inits.opened d s) t m)
  unfolding spec.mark_starts
  mark_starts_keeps f d s m o e k =
      declared_cond (is_mark m mark.LeftBrace) _ _ (λ h. brace_keeps f d s o (e ∙ ap token.Mark (mark_is m mark.LeftBrace h)) k)
      (λ h. declared_cond (is_mark m mark.RightBrace) _ _ (λ q. last_comma_keeps f d s o (e ∙ ap token.Mark (mark_is m mark.RightBrace q)) k) (λ q. first_keeps f d s o k))

  kind_starts_keeps : (f : Front) (d : Declarator) (s : List Brace) (k : TokenKind) → OkFront lim l f → t.what ≡ k → OkStarts lim l f d s ts
      → KeepsDeclared lim l ts t (spec.kind_starts f (inits.opened d s) t k)
  kind_starts_keeps f d s (token.Mark m) o e k = mark_starts_keeps f d s m o e k
  kind_starts_keeps f d s _ o e k = first_keeps f d s o k

  starts_keeps : (f : Front) (d : Declarator) (s : List Brace) → OkFront lim l f → OkStarts lim l f d s ts
      → KeepsDeclared lim l ts t (spec.starts f (inits.opened d s) t)
  unfolding spec.starts
  starts_keeps f d s o k = kind_starts_keeps f d s t.what o refl k

  -- in an expression that is an initialiser

  true_value : (a n d : ℕ) → plus (plus a n) 1 + d ≤ lim + 1 → (a + n) + (1 + d) ≤ lim + 1
  true_value a n d h = omega (arith, h)

  value_done : (f : Front) (d : Declarator) (s : List Brace) (p : Place) (r : Reading) (v : Expr) → OkFront lim l f
      → (k : OkValue lim l f d s (λ us. At lim (site 1 (plus (plus f.level (length s)) 1)) r us × StartsAt p us) ts)
      → IsRead lim (site 1 (plus (plus f.level (length s)) 1)) v k.behind.back
      → OkAfter lim l f (inits.plug_into d s (init.One p v)).declarator (inits.plug_into d s (init.One p v)).braces ts
  value_done f d s p r v o k m =
      plug_keeps lim l f d s (init.One p v) ts
      (behind_all (lay_equal f d ++ lay_braces s) (lay_init (init.One p v)) _ ts k.behind
      (subst (λ x. Stand x k.behind.back) (sym (init_One Pieces lay_init_step p v)) (at_stands p (lay_expr v) k.behind.back k.behind.rest.1 m.stands)))
      k.bare k.braces (one p v m.ranked)
      (omega (arith, init_One ℕ init_depth_step p v, o.level, true_value f.level (length s) (expr_depth v) m.within))

  value_by_keeps : (f : Front) (d : Declarator) (s : List Brace) (p : Place) (r : Reading) (h : Fed) → OkFront lim l f
      → (k : OkValue lim l f d s (λ us. At lim (site 1 (plus (plus f.level (length s)) 1)) r us × StartsAt p us) ts)
      → Keeps lim (site 1 (plus (plus f.level (length s)) 1)) k.behind.back t h → KeepsDeclared lim l ts t (spec.value_by f (inits.opened d s) p h t)
  unfolding inits.plug
  value_by_keeps f d s p r (turn.Goes q reach) o k h = λ z. record {
    front = o;
    stage = record {
      behind = record {
        front = k.behind.front;
        back = k.behind.back ++ t ∷ [];
        is = ap (λ x. x ++ t ∷ []) k.behind.is ∙ append_assoc k.behind.front k.behind.back (t ∷ []);
        stands = k.behind.stands;
        rest = (h z, starts-more p k.behind.back (t ∷ []) k.behind.rest.1);
      };
      bare = k.bare;
      braces = k.braces;
    };
  }
  value_by_keeps f d s p r (turn.Done v) o k h =
      after_keeps f (inits.plug_into d s (init.One p v)).declarator (inits.plug_into d s (init.One p v)).braces o (value_done f d s p r v o k h)
  value_by_keeps f d s p r turn.Refused o k h = tt

  value_keeps : (f : Front) (d : Declarator) (s : List Brace) (p : Place) (r : Reading) → OkFront lim l f
      → OkValue lim l f d s (λ us. At lim (site 1 (plus (plus f.level (length s)) 1)) r us × StartsAt p us) ts
      → KeepsDeclared lim l ts t (spec.value f (inits.opened d s) p r t)
  unfolding spec.value
  value_keeps f d s p r o k =
      value_by_keeps f d s p r (feed r t) o k (at_keeps lim (site 1 (plus (plus f.level (length s)) 1)) k.behind.back t r k.behind.rest.0)

  stage_keeps : (f : Front) (g : DeclarationStage) → OkFront lim l f → OkStage lim l f g ts → KeepsDeclared lim l ts t (spec.stage_fed f g t)
  stage_keeps f (stage.Before stars) o k = before_keeps f stars o k
  stage_keeps f (stage.Named d) o k = kind_named_keeps f d t.what o refl k
  stage_keeps f (stage.Size d r) o k = size_keeps f d r o k
  stage_keeps f (stage.Starts d s) o k = starts_keeps f d s o k
  stage_keeps f (stage.Value d s p r) o k = value_keeps f d s p r o k
  stage_keeps f (stage.After d s) o k = after_keeps f d s o k

  pub declaration_keeps : (d : Declaration) → OkDeclaration lim l d ts → KeepsDeclared lim l ts t (spec.feed_declaration d t)
  unfolding spec.feed_declaration
  declaration_keeps d k = stage_keeps d.front d.stage k.front k.stage

-- a declaration begins with a specifier
pub begin_declared : (lim l : ℕ) (t : Token) (w : Word) → l ≤ lim + 1 → t.what ≡ token.Word w → is_spec_word w ≡ true
    → OkDeclaration lim l (spec.begin_declaration w l) (t ∷ [])
unfolding is_spec_word
begin_declared lim l t w h e k = record {
  front = record { specs = (λ q. cc, All-push (λ u. IsTrue (is_spec u)) [] w (All-nil _) k); list = All-nil _; level = refl; base = h; within = omega (arith, h) };
  stage = terms.one t (token.Word w) e;
}
