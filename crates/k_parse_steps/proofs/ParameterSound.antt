-- Each token of parameters keeps what was read true.
use Rattle.std.proofs.Common.{ℕ, ◌≡◌, ◌+◌, ◌≤◌, Bool, true, false, ◌&&◌, cond, IsTrue, List, [], ◌∷◌, ◌++◌, map, length, Option, Some, None, refl, sym, ◌∙◌, ap, subst, arith, append_assoc, nat_eq}
use Rattle.std.specs.Prelude.{All, is_none}
use Rattle.std.proofs.lemmas.Bool.{eqb-true}
use Rattle.std.proofs.lemmas.List.{append-nil, map-append}
use Rattle.std.proofs.lemmas.List.Elements.{All-nil, All-push, All-head}
use Rattle.k_parse_steps.specs.Types.{Token, TokenKind, Mark, Word, Expr, Param, Params, Stars, Reading, Maybe, ParameterStage, Parameters, Parametric}
use Rattle.k_tree.specs.declared.tokens.TokenKind.TheVariants as token
use Rattle.k_tree.specs.declared.tokens.mark.Mark.TheVariants as mark
use Rattle.k_tree.specs.declared.tokens.word.Word.TheVariants as word_
use Rattle.k_tree.specs.declared.tree.declaration.Params.TheVariants as params
use Rattle.k_tree.specs.Nesting.{deepest, option_depth, dims_depth, param_depth, params_depth}
use Rattle.k_tree.specs.Places.{Pieces, plain, lay_dim, lay_dims, lay_option, lay_param, lay_params, Stand}
use Rattle.k_tree.specs.Ranked.{Ranked, IfGiven, Specs, is_spec, RankedDims, RankedParam, RankedParams, IsVoidAlone}
use Rattle.k_tree.specs.Spelling.{the_mark, the_word, the_name, spell_specs, spell_stars, spell_optional_name}
use Rattle.k_tree.proofs.Standing.{stand-append}
use Rattle.k_parse_steps.specs.Operators.{is_spec_word}
use Rattle.k_parse_steps.proofs.Marks.{false_true, mark_is, word_is}
use Rattle.k_parse_steps.specs.Stars.{all_stars, star, constant}
use Rattle.k_parse_steps.specs.Expressions.{begin}
use Rattle.k_parse_steps.specs.Readings.{read_maybe}
use Rattle.k_parse_steps.specs.declared.reading.Closer.TheVariants as closer
use Rattle.k_parse_steps.specs.declared.turn.Turn.TheVariants as turn
use Rattle.k_parse_steps.specs.Parameters as spec
use Rattle.k_parse_steps.specs.declared.parameter.ParameterStage.TheVariants as part_
use Rattle.k_parse_steps.proofs.Commas.{comma, lay_each, each_push, with_last, not_none}
use Rattle.k_parse_steps.proofs.Rows.{row_push, deepest_more, StartsAt, starts-more, at_stands, no_items}
use Rattle.k_parse_steps.proofs.ExpressionTerms.{one, stand-more, regroup, and_left, and_right}
use Rattle.k_parse_steps.proofs.TypeSound.{stars_more, stars_const, no_stars_yet}
use Rattle.k_parse_steps.proofs.ReadingSound.{At, site, begin_at, IsMaybe, KeepsMaybe, maybe_keeps, Behind}
use Rattle.k_parse_steps.proofs.DeclarationSound.{behind_all, behind_now}
use Rattle.k_parse_steps.proofs.TypeWords.{word_split}
use Rattle.k_parse_steps.specs.Tokens.{is_mark, is_word}

-- the parameter that is read stands behind those before it, and begins at its place
abbrev pub lay_inner : Param → Pieces
lay_inner p = plain (spell_specs p.specs) ++ (plain (spell_stars p.stars) ++ (plain (spell_optional_name p.name) ++ lay_dims p.dims))

abbrev pub lay_typed : Param → Stars → Pieces
lay_typed p stars = plain (spell_specs p.specs) ++ plain (spell_stars (all_stars stars))

pub record OkList (lim : ℕ) (list : List Param) : Type 0 where
  pub ranked : All RankedParam list
  pub within : 1 + deepest (map param_depth list) ≤ lim + 1

pub record OkTyped (lim : ℕ) (list : List Param) (p : Param) (stars : Stars) (ts : List Token) : Type 0 where
  pub behind : Behind (lay_each lay_param list) (λ us. Stand (lay_typed p stars) us × StartsAt p.place us) ts
  pub specs : Specs p.specs
  pub no_name : p.name ≡ None
  pub no_dims : p.dims ≡ []

pub record OkParam (lim : ℕ) (list : List Param) (p : Param) (ts : List Token) : Type 0 where
  pub behind : Behind (lay_each lay_param list) (λ us. Stand (lay_inner p) us × StartsAt p.place us) ts
  pub ranked : RankedParam p
  pub within : 1 + dims_depth p.dims ≤ lim + 1

pub record OkSize (lim : ℕ) (list : List Param) (p : Param) (r : Reading) (ts : List Token) : Type 0 where
  pub behind : Behind (lay_each lay_param list) (λ us. Behind (lay_inner p ++ plain (the_mark mark.LeftBracket)) (At lim (site 2 1) r) us × StartsAt p.place us) ts
  pub ranked : RankedParam p
  pub within : 1 + dims_depth p.dims ≤ lim + 1

abbrev pub OkPart : ℕ → List Param → ParameterStage → List Token → Type 0
OkPart lim list part_.Starts ts = Stand (lay_each lay_param list) ts
OkPart lim list (part_.Typed p stars) ts = OkTyped lim list p stars ts
OkPart lim list (part_.Named p) ts = OkParam lim list p ts
OkPart lim list (part_.Size p r) ts = OkSize lim list p r ts

pub record OkParameters (lim : ℕ) (ps : Parameters) (ts : List Token) : Type 0 where
  pub list : OkList lim ps.list
  pub stage : OkPart lim ps.list ps.stage ts

-- parameters that were read whole, with the parenthesis behind them
pub record AreRead (lim : ℕ) (ps : Params) (ts : List Token) : Type 0 where
  pub ranked : RankedParams ps
  pub stands : Stand (lay_params ps ++ plain (the_mark mark.RightParen)) ts
  pub within : 1 + params_depth ps ≤ lim + 1

abbrev pub KeepsParametric : ℕ → List Token → Token → Parametric → Type 0
KeepsParametric lim ts t (turn.Goes ps reach) = reach ≤ lim → OkParameters lim ps (ts ++ t ∷ [])
KeepsParametric lim ts t (turn.Done ps) = AreRead lim ps (ts ++ t ∷ [])
KeepsParametric lim ts t turn.Refused = Unit {0}

-- parameters that aren't `void` alone
ranked_list : (list : List Param) (p : Param) → All RankedParam (list ++ p ∷ []) → (list ≡ [] → IsVoidAlone p → ⊥) → RankedParams (params.List (list ++ p ∷ []))
ranked_list [] p h k = (All-head RankedParam p [] h, k refl)
ranked_list (x ∷ []) p h k = h
ranked_list (x ∷ (y ∷ list)) p h k = h

alone_tells : (p : Param) → IsVoidAlone p → spec.is_void_alone p ≡ true
unfolding spec.is_void_alone is_word
alone_tells p h =
    subst (λ a. (spec.is_void_list a && (nat_eq (length p.stars) 0 && (is_none p.name && nat_eq (length p.dims) 0))) ≡ true) (sym h.0)
    (subst (λ a. (nat_eq (length a) 0 && (is_none p.name && nat_eq (length p.dims) 0)) ≡ true) (sym h.1)
    (subst (λ a. (is_none a && nat_eq (length p.dims) 0) ≡ true) (sym h.2)
    (subst (λ a. nat_eq (length a) 0 ≡ true) (sym h.3) refl)))

void_list : (ws : List Word) → spec.is_void_list ws ≡ true → ws ≡ word_.Void ∷ []
void_list [] h = absurd (false_true h)
void_list (w ∷ []) h = ap (λ z. z ∷ []) (word_is w word_.Void h)
void_list (w ∷ (v ∷ ws)) h = absurd (false_true h)

none_given : {A : Type 0} (x : Option A) → is_none x ≡ true → x ≡ None
none_given None h = refl
none_given (Some x) h = absurd (false_true h)

is_alone : (p : Param) → spec.is_void_alone p ≡ true → IsVoidAlone p
unfolding spec.is_void_alone
is_alone p h =
    let b : (nat_eq (length p.stars) 0 && (is_none p.name && nat_eq (length p.dims) 0)) ≡ true = and_right (spec.is_void_list p.specs) _ h in
    let c : (is_none p.name && nat_eq (length p.dims) 0) ≡ true = and_right (nat_eq (length p.stars) 0) _ b in (
      void_list p.specs (and_left (spec.is_void_list p.specs) _ h),
      no_items p.stars (eqb-true (length p.stars) 0 (and_left (nat_eq (length p.stars) 0) _ b)),
      none_given p.name (and_left (is_none p.name) _ c),
      no_items p.dims (eqb-true (length p.dims) 0 (and_right (is_none p.name) _ c)),
    )

inner_more : (p : Param) (xs : Pieces)
    → lay_inner p ++ xs ≡ plain (spell_specs p.specs) ++ (plain (spell_stars p.stars) ++ (plain (spell_optional_name p.name) ++ (lay_dims p.dims ++ xs)))
inner_more p xs =
    append_assoc (plain (spell_specs p.specs)) (plain (spell_stars p.stars) ++ (plain (spell_optional_name p.name) ++ lay_dims p.dims)) xs
    ∙ (ap (λ z. plain (spell_specs p.specs) ++ z) (append_assoc (plain (spell_stars p.stars)) (plain (spell_optional_name p.name) ++ lay_dims p.dims) xs)
    ∙ ap (λ z. plain (spell_specs p.specs) ++ (plain (spell_stars p.stars) ++ z)) (append_assoc (plain (spell_optional_name p.name)) (lay_dims p.dims) xs))

void_inner : (p : Param) → IsVoidAlone p → lay_inner p ≡ plain (the_word word_.Void)
void_inner p h =
    ap (λ a. plain (spell_specs a) ++ (plain (spell_stars p.stars) ++ (plain (spell_optional_name p.name) ++ lay_dims p.dims))) h.0
    ∙ (ap (λ a. plain (the_word word_.Void) ++ (plain (spell_stars a) ++ (plain (spell_optional_name p.name) ++ lay_dims p.dims))) h.1
    ∙ (ap (λ a. plain (the_word word_.Void) ++ (plain (spell_optional_name a) ++ lay_dims p.dims)) h.2
    ∙ ap (λ a. plain (the_word word_.Void) ++ lay_dims a) h.3))

no_length : {A : Type 0} (xs : List A) → xs ≡ [] → nat_eq (length xs) 0 ≡ true
no_length xs h = subst (λ a. nat_eq (length a) 0 ≡ true) (sym h) refl

true_both : (a b : Bool) → a ≡ true → b ≡ true → (a && b) ≡ true
true_both true b h k = k
true_both false b h k = absurd (false_true h)

module _ (lim : ℕ) (ts : List Token) (t : Token) where
  parametric_cond : (b : Bool) (x y : Parametric) → (b ≡ true → KeepsParametric lim ts t x) → (b ≡ false → KeepsParametric lim ts t y)
      → KeepsParametric lim ts t (cond b x y)
  parametric_cond true x y f h = f refl
  parametric_cond false x y f h = h refl

  push_behind : (list : List Param) (P Q : List Token → Type 0) → ((us : List Token) → P us → Q (us ++ t ∷ [])) → Behind (lay_each lay_param list) P ts
      → Behind (lay_each lay_param list) Q (ts ++ t ∷ [])
  push_behind list P Q f b = record {
    front = b.front;
    back = b.back ++ t ∷ [];
    is = ap (λ z. z ++ t ∷ []) b.is ∙ append_assoc b.front b.back (t ∷ []);
    stands = b.stands;
    rest = f b.back b.rest;
  }

  starts_keeps : (list : List Param) (w : Word) → OkList lim list → t.what ≡ token.Word w → Stand (lay_each lay_param list) ts
      → KeepsParametric lim ts t (spec.starts list w t.place)
  unfolding spec.starts is_spec_word
  starts_keeps list w o e st =
      parametric_cond (is_spec_word w) _ turn.Refused
      (λ h z. record {
        list = o;
        stage = record {
          behind = record { front = ts; back = t ∷ []; is = refl; stands = st; rest = (one t (token.Word w) e, refl) };
          specs = (λ q. cc, All-push (λ u. IsTrue (is_spec u)) [] w (All-nil _) h);
          no_name = refl;
          no_dims = refl;
        };
      })
      (λ h. tt)

  none_keeps : (list : List Param) → t.what ≡ token.Mark mark.RightParen → Stand (lay_each lay_param list) ts
      → KeepsParametric lim ts t (spec.none list)
  unfolding spec.none
  none_keeps [] e st = record { ranked = tt; stands = stand-append [] (plain (the_mark mark.RightParen)) ts (t ∷ []) st (one t (token.Mark mark.RightParen) e); within = omega arith }
  none_keeps (p ∷ list) e st = tt

  mark_first_keeps : (list : List Param) (m : Mark) → t.what ≡ token.Mark m → Stand (lay_each lay_param list) ts
      → KeepsParametric lim ts t (spec.mark_first list m)
  unfolding spec.mark_first
  mark_first_keeps list mark.RightParen e st = none_keeps list e st
  mark_first_keeps list _ e st = tt

  kind_first_keeps : (list : List Param) (k : TokenKind) → OkList lim list → t.what ≡ k → Stand (lay_each lay_param list) ts
      → KeepsParametric lim ts t (spec.kind_first list t.place k)
  kind_first_keeps list (token.Word w) o e st = starts_keeps list w o e st
  kind_first_keeps list (token.Mark m) o e st = mark_first_keeps list m e st
  kind_first_keeps list _ o e st = tt

  first_keeps : (list : List Param) → OkList lim list → Stand (lay_each lay_param list) ts → KeepsParametric lim ts t (spec.first_token list t)
  unfolding spec.first_token
  first_keeps list o st = kind_first_keeps list t.what o refl st

  whole_stands : (list : List Param) (p : Param) → OkParam lim list p ts → Stand (lay_each lay_param list ++ lay_param p) ts
  whole_stands list p k =
      behind_all (lay_each lay_param list) (lay_param p) _ ts k.behind (at_stands p.place (lay_inner p) k.behind.back k.behind.rest.1 k.behind.rest.0)

  void_stands : (list : List Param) (p : Param) → list ≡ [] → IsVoidAlone p → OkParam lim list p ts → Stand (plain (the_word word_.Void)) ts
  void_stands list p h a k =
      subst (λ z. Stand (lay_each lay_param z ++ plain (the_word word_.Void)) ts) h
      (subst (λ z. Stand (lay_each lay_param list ++ z) ts) (void_inner p a)
      (behind_all (lay_each lay_param list) (lay_inner p) _ ts k.behind k.behind.rest.0))

  end_keeps : (list : List Param) (p : Param) (m : Mark) → OkList lim list → t.what ≡ token.Mark m → OkParam lim list p ts
      → KeepsParametric lim ts t (spec.end list p m)
  unfolding spec.end
  end_keeps list p mark.Comma o e k = λ z. record {
    list = record { ranked = All-push RankedParam list p o.ranked k.ranked; within = omega (arith, o.within, k.within, deepest_more param_depth list p) };
    stage = subst (λ x. Stand x (ts ++ t ∷ [])) (sym (each_push lay_param list p))
        (stand-more (lay_each lay_param list) (lay_param p) comma ts (t ∷ []) (whole_stands list p k) (one t (token.Mark mark.Comma) e));
  }
  end_keeps list p mark.RightParen o e k =
      parametric_cond (nat_eq (length list) 0 && spec.is_void_alone p) (turn.Done params.Void) (turn.Done (params.List (list ++ p ∷ [])))
      (λ h. record {
        ranked = tt;
        stands = stand-append (plain (the_word word_.Void)) (plain (the_mark mark.RightParen)) ts (t ∷ [])
            (void_stands list p (no_items list (eqb-true (length list) 0 (and_left (nat_eq (length list) 0) (spec.is_void_alone p) h)))
            (is_alone p (and_right (nat_eq (length list) 0) (spec.is_void_alone p) h)) k)
            (one t (token.Mark mark.RightParen) e);
        within = omega arith;
      })
      (λ h. record {
        ranked = ranked_list list p (All-push RankedParam list p o.ranked k.ranked)
            (λ x y. false_true (sym h ∙ true_both (nat_eq (length list) 0) (spec.is_void_alone p) (no_length list x) (alone_tells p y)));
        stands = subst (λ x. Stand (x ++ plain (the_mark mark.RightParen)) (ts ++ t ∷ [])) (sym (with_last lay_param list p))
            (stand-append _ (plain (the_mark mark.RightParen)) ts (t ∷ []) (whole_stands list p k) (one t (token.Mark mark.RightParen) e));
        within = omega (arith, o.within, k.within, deepest_more param_depth list p);
      })
  end_keeps list p _ o e k = tt

  bracket_keeps : (list : List Param) (p : Param) → OkList lim list → t.what ≡ token.Mark mark.LeftBracket → OkParam lim list p ts
      → KeepsParametric lim ts t (spec.follows list (part_.Size p (begin 2 1)) 0)
  bracket_keeps list p o e k = λ z. record {
    list = o;
    stage = record {
      behind = push_behind list _ _ (λ us h. (
        behind_now (lay_inner p ++ plain (the_mark mark.LeftBracket)) _ (us ++ t ∷ [])
            (stand-append (lay_inner p) (plain (the_mark mark.LeftBracket)) us (t ∷ []) h.0 (one t (token.Mark mark.LeftBracket) e)) (begin_at lim 2 1 (omega arith)),
        starts-more p.place us (t ∷ []) h.1,
      )) k.behind;
      ranked = k.ranked;
      within = k.within;
    };
  }

  named_keeps : (list : List Param) (p : Param) (m : Mark) → OkList lim list → t.what ≡ token.Mark m → OkParam lim list p ts
      → KeepsParametric lim ts t (spec.named list p m)
  unfolding spec.named
  named_keeps list p m o e k =
      parametric_cond (is_mark m mark.LeftBracket) _ _ (λ h. bracket_keeps list p o (e ∙ ap token.Mark (mark_is m mark.LeftBracket h)) k) (λ h. end_keeps list p m o e k)

  kind_named_keeps : (list : List Param) (p : Param) (k : TokenKind) → OkList lim list → t.what ≡ k → OkParam lim list p ts
      → KeepsParametric lim ts t (spec.kind_named list p k)
  kind_named_keeps list p (token.Mark m) o e k = named_keeps list p m o e k
  kind_named_keeps list p _ o e k = tt

  -- in the type of a parameter

  typed_push : (list : List Param) (p q : Param) (stars more : Stars) (k : TokenKind) → OkTyped lim list p stars ts → t.what ≡ k → q.place ≡ p.place
      → lay_typed q more ≡ lay_typed p stars ++ plain (k ∷ [])
      → Behind (lay_each lay_param list) (λ us. Stand (lay_typed q more) us × StartsAt q.place us) (ts ++ t ∷ [])
  typed_push list p q stars more k h e a b =
      push_behind list _ _ (λ us r. (
        subst (λ x. Stand x (us ++ t ∷ [])) (sym b) (stand-append (lay_typed p stars) (plain (k ∷ [])) us (t ∷ []) r.0 (one t k e)),
        subst (λ x. StartsAt x (us ++ t ∷ [])) (sym a) (starts-more p.place us (t ∷ []) r.1),
      )) h.behind

  star_laid : (p : Param) (stars : Stars) → lay_typed p (star stars) ≡ lay_typed p stars ++ plain (the_mark mark.Star)
  star_laid p stars =
      ap (λ x. plain (spell_specs p.specs) ++ x) (ap plain (stars_more (all_stars stars) false) ∙ map-append _ (spell_stars (all_stars stars)) (the_mark mark.Star))
      ∙ sym (append_assoc (plain (spell_specs p.specs)) (plain (spell_stars (all_stars stars))) (plain (the_mark mark.Star)))

  const_laid : (p : Param) (stars : Stars) → stars.pending ≡ true → lay_typed p (constant stars) ≡ lay_typed p stars ++ plain (the_word word_.Const)
  const_laid p stars h =
      ap (λ x. plain (spell_specs p.specs) ++ x)
      (ap plain (stars_const stars.done ∙ ap (λ x. spell_stars x ++ the_word word_.Const) (sym (ap (λ b. cond b (stars.done ++ false ∷ []) stars.done) h)))
      ∙ map-append _ (spell_stars (all_stars stars)) (the_word word_.Const))
      ∙ sym (append_assoc (plain (spell_specs p.specs)) (plain (spell_stars (all_stars stars))) (plain (the_word word_.Const)))

  spec_laid : (p : Param) (stars : Stars) (w : Word) → all_stars stars ≡ []
      → lay_typed (record p { specs = p.specs ++ w ∷ [] }) stars ≡ lay_typed p stars ++ plain (the_word w)
  spec_laid p stars w h =
      subst (λ a. plain (spell_specs (p.specs ++ w ∷ [])) ++ plain (spell_stars a) ≡ (plain (spell_specs p.specs) ++ plain (spell_stars a)) ++ plain (the_word w)) (sym h)
      (append-nil (plain (spell_specs (p.specs ++ w ∷ [])))
      ∙ (ap plain (map-append token.Word p.specs (w ∷ [])) ∙ (map-append _ (spell_specs p.specs) (the_word w)
      ∙ ap (λ x. x ++ plain (the_word w)) (sym (append-nil (plain (spell_specs p.specs)))))))

  more_spec : (list : List Param) (p : Param) (stars : Stars) (w : Word) → OkList lim list → t.what ≡ token.Word w → OkTyped lim list p stars ts
      → all_stars stars ≡ [] → is_spec_word w ≡ true
      → KeepsParametric lim ts t (spec.follows list (part_.Typed (record p { specs = p.specs ++ w ∷ [] }) stars) 0)
  unfolding is_spec_word
  more_spec list p stars w o e k a c = λ z. record {
    list = o;
    stage = record {
      behind = typed_push list p (record p { specs = p.specs ++ w ∷ [] }) stars stars (token.Word w) k e refl (spec_laid p stars w a);
      specs = (not_none p.specs w, All-push (λ u. IsTrue (is_spec u)) p.specs w k.specs.1 c);
      no_name = k.no_name;
      no_dims = k.no_dims;
    };
  }

  word_keeps : (list : List Param) (p : Param) (stars : Stars) (w : Word) → OkList lim list → t.what ≡ token.Word w → OkTyped lim list p stars ts
      → KeepsParametric lim ts t (spec.word list p stars w)
  unfolding spec.word
  word_keeps list p stars w o e k =
      word_split (λ x. KeepsParametric lim ts t (spec.word_by list p x)) p.specs stars true w
      (λ h c z. record {
        list = o;
        stage = record {
          behind = typed_push list p p stars (constant stars) (token.Word word_.Const) k (e ∙ ap token.Word (word_is w word_.Const c)) refl (const_laid p stars h);
          specs = k.specs;
          no_name = k.no_name;
          no_dims = k.no_dims;
        };
      })
      (λ h c m r. more_spec list p stars w o e k (no_stars_yet stars h c) r) tt

  starred_laid : (p : Param) (stars : Stars) → p.name ≡ None → p.dims ≡ [] → lay_inner (spec.starred p stars) ≡ lay_typed p stars
  starred_laid p stars a b =
      ap (λ x. plain (spell_specs p.specs) ++ (plain (spell_stars (all_stars stars)) ++ (plain (spell_optional_name x) ++ lay_dims p.dims))) a
      ∙ (ap (λ x. plain (spell_specs p.specs) ++ (plain (spell_stars (all_stars stars)) ++ lay_dims x)) b
      ∙ ap (λ x. plain (spell_specs p.specs) ++ x) (append-nil (plain (spell_stars (all_stars stars)))))

  starred_ok : (list : List Param) (p : Param) (stars : Stars) → OkTyped lim list p stars ts → OkParam lim list (spec.starred p stars) ts
  starred_ok list p stars k = record {
    behind = record {
      front = k.behind.front;
      back = k.behind.back;
      is = k.behind.is;
      stands = k.behind.stands;
      rest = (subst (λ x. Stand x k.behind.back) (sym (starred_laid p stars k.no_name k.no_dims)) k.behind.rest.0, k.behind.rest.1);
    };
    ranked = (k.specs, subst RankedDims (sym k.no_dims) (All-nil _));
    within = subst (λ x. 1 + dims_depth x ≤ lim + 1) (sym k.no_dims) (omega arith);
  }

  name_keeps : (list : List Param) (p : Param) (stars : Stars) (x : List ℕ) → OkList lim list → t.what ≡ token.Name x → OkTyped lim list p stars ts
      → KeepsParametric lim ts t (spec.name list p stars x)
  unfolding spec.name
  name_keeps list p stars x o e k = λ z. record {
    list = o;
    stage = record {
      behind = push_behind list _ _ (λ us r. (
        subst (λ y. Stand (plain (spell_specs p.specs) ++ (plain (spell_stars (all_stars stars)) ++ (plain (the_name x) ++ lay_dims y))) (us ++ t ∷ [])) (sym k.no_dims)
            (stand-more (plain (spell_specs p.specs)) (plain (spell_stars (all_stars stars))) (plain (the_name x)) us (t ∷ []) r.0 (one t (token.Name x) e)),
        starts-more p.place us (t ∷ []) r.1,
      )) k.behind;
      ranked = (k.specs, subst RankedDims (sym k.no_dims) (All-nil _));
      within = subst (λ x. 1 + dims_depth x ≤ lim + 1) (sym k.no_dims) (omega arith);
    };
  }

  mark_typed_keeps : (list : List Param) (p : Param) (stars : Stars) (m : Mark) → OkList lim list → t.what ≡ token.Mark m → OkTyped lim list p stars ts
      → KeepsParametric lim ts t (spec.mark_typed list p stars m)
  unfolding spec.mark_typed
  mark_typed_keeps list p stars m o e k =
      parametric_cond (is_mark m mark.Star) _ _
      (λ h z. record {
        list = o;
        stage = record {
          behind = typed_push list p p stars (star stars) (token.Mark mark.Star) k (e ∙ ap token.Mark (mark_is m mark.Star h)) refl (star_laid p stars);
          specs = k.specs;
          no_name = k.no_name;
          no_dims = k.no_dims;
        };
      })
      (λ h. named_keeps list (spec.starred p stars) m o e (starred_ok list p stars k))

  kind_typed_keeps : (list : List Param) (p : Param) (stars : Stars) (k : TokenKind) → OkList lim list → t.what ≡ k → OkTyped lim list p stars ts
      → KeepsParametric lim ts t (spec.kind_typed list p stars k)
  kind_typed_keeps list p stars (token.Word w) o e k = word_keeps list p stars w o e k
  kind_typed_keeps list p stars (token.Name x) o e k = name_keeps list p stars x o e k
  kind_typed_keeps list p stars (token.Mark m) o e k = mark_typed_keeps list p stars m o e k
  kind_typed_keeps list p stars _ o e k = tt

  typed_keeps : (list : List Param) (p : Param) (stars : Stars) → OkList lim list → OkTyped lim list p stars ts
      → KeepsParametric lim ts t (spec.typed list p stars t)
  unfolding spec.typed
  typed_keeps list p stars o k = kind_typed_keeps list p stars t.what o refl k

  -- in a dimension

  inner_sized : (p : Param) (v : Option Expr) (us : List Token)
      → Stand ((lay_inner p ++ plain (the_mark mark.LeftBracket)) ++ (lay_option v ++ plain (the_mark mark.RightBracket))) us
      → Stand (lay_inner (record p { dims = p.dims ++ v ∷ [] })) us
  inner_sized p v us st =
      subst (λ x. Stand (plain (spell_specs p.specs) ++ (plain (spell_stars p.stars) ++ (plain (spell_optional_name p.name) ++ x))) us) (sym (row_push lay_dim p.dims v))
      (subst (λ x. Stand x us) (inner_more p (lay_dim v))
      (regroup (lay_inner p) (plain (the_mark mark.LeftBracket)) (lay_option v ++ plain (the_mark mark.RightBracket)) us st))

  size_done : (list : List Param) (p : Param) (r : Reading) (v : Option Expr) → (k : OkSize lim list p r ts)
      → IsMaybe lim (site 2 1) v k.behind.rest.0.back → t.what ≡ token.Mark mark.RightBracket
      → OkParam lim list (record p { dims = p.dims ++ v ∷ [] }) (ts ++ t ∷ [])
  size_done list p r v k m e = record {
    behind = record {
      front = k.behind.front;
      back = k.behind.back ++ t ∷ [];
      is = ap (λ z. z ++ t ∷ []) k.behind.is ∙ append_assoc k.behind.front k.behind.back (t ∷ []);
      stands = k.behind.stands;
      rest = (
        inner_sized p v (k.behind.back ++ t ∷ [])
            (stand-more (lay_inner p ++ plain (the_mark mark.LeftBracket)) (lay_option v) (plain (the_mark mark.RightBracket)) k.behind.back (t ∷ [])
            (behind_all (lay_inner p ++ plain (the_mark mark.LeftBracket)) (lay_option v) _ k.behind.back k.behind.rest.0 m.stands) (one t (token.Mark mark.RightBracket) e)),
        starts-more p.place k.behind.back (t ∷ []) k.behind.rest.1,
      );
    };
    ranked = (k.ranked.0, All-push (IfGiven (Ranked 2)) p.dims v k.ranked.1 m.ranked);
    within = omega (arith, k.within, m.within, deepest_more option_depth p.dims v);
  }

  size_by_keeps : (list : List Param) (p : Param) (r : Reading) (m : Maybe) → OkList lim list → (k : OkSize lim list p r ts)
      → KeepsMaybe lim (site 2 1) k.behind.rest.0.back t mark.RightBracket m → KeepsParametric lim ts t (spec.size_by list p m)
  size_by_keeps list p r (turn.Goes q reach) o k h = λ z. record {
    list = o;
    stage = record {
      behind = record {
        front = k.behind.front;
        back = k.behind.back ++ t ∷ [];
        is = ap (λ x. x ++ t ∷ []) k.behind.is ∙ append_assoc k.behind.front k.behind.back (t ∷ []);
        stands = k.behind.stands;
        rest = (
          record {
            front = k.behind.rest.0.front;
            back = k.behind.rest.0.back ++ t ∷ [];
            is = ap (λ x. x ++ t ∷ []) k.behind.rest.0.is ∙ append_assoc k.behind.rest.0.front k.behind.rest.0.back (t ∷ []);
            stands = k.behind.rest.0.stands;
            rest = h z;
          },
          starts-more p.place k.behind.back (t ∷ []) k.behind.rest.1,
        );
      };
      ranked = k.ranked;
      within = k.within;
    };
  }
  size_by_keeps list p r (turn.Done v) o k h = λ z. record { list = o; stage = size_done list p r v k h.0 h.1 }
  size_by_keeps list p r turn.Refused o k h = tt

  size_keeps : (list : List Param) (p : Param) (r : Reading) → OkList lim list → OkSize lim list p r ts → KeepsParametric lim ts t (spec.size list p r t)
  unfolding spec.size
  size_keeps list p r o k =
      size_by_keeps list p r (read_maybe r t closer.Bracket) o k
      (maybe_keeps lim (site 2 1) k.behind.rest.0.back t r closer.Bracket (omega arith) k.behind.rest.0.rest)

  part_keeps : (list : List Param) (q : ParameterStage) → OkList lim list → OkPart lim list q ts → KeepsParametric lim ts t (spec.stage_fed list q t)
  part_keeps list part_.Starts o k = first_keeps list o k
  part_keeps list (part_.Typed p stars) o k = typed_keeps list p stars o k
  part_keeps list (part_.Named p) o k = kind_named_keeps list p t.what o refl k
  part_keeps list (part_.Size p r) o k = size_keeps list p r o k

  pub parameters_keep : (ps : Parameters) → OkParameters lim ps ts → KeepsParametric lim ts t (spec.feed_parameters ps t)
  unfolding spec.feed_parameters
  parameters_keep ps k = part_keeps ps.list ps.stage k.list k.stage

pub begin_parameters_ok : (lim : ℕ) → OkParameters lim spec.begin_parameters []
begin_parameters_ok lim = record { list = record { ranked = All-nil _; within = omega arith }; stage = tt }
