-- Each token of a source keeps what was read true, and at its end the tree is ranked, placed and within the limit.
use Rattle.std.proofs.Common.{ℕ, ◌≡◌, ◌≤◌, Bool, true, false, ◌&&◌, cond, List, [], ◌∷◌, ◌++◌, map, length, refl, sym, ◌∙◌, ap, subst, arith, append_assoc, nat_eq}
use Rattle.std.specs.Prelude.{All}
use Rattle.std.proofs.lemmas.Bool.{eqb-true}
use Rattle.std.proofs.lemmas.List.{append-nil}
use Rattle.std.proofs.lemmas.List.Elements.{All-nil, All-push}
use Rattle.k_parse_steps.specs.Types.{Place, Token, TokenKind, Mark, Declarator, Params, Head, Item, Front, DeclarationStage, Declaration, Declared, Parameters, Parametric, Body, Stepped, Title, SourceStage, Source, Sourced}
use Rattle.k_tree.specs.declared.tokens.TokenKind.TheVariants as token
use Rattle.k_tree.specs.declared.tokens.mark.Mark.TheVariants as mark
use Rattle.k_tree.specs.declared.tree.unit.Item.TheVariants as item
use Rattle.k_tree.specs.declared.tree.unit.Unit as source
use Rattle.k_tree.specs.Nesting.{deepest, params_depth, item_depth, nesting}
use Rattle.k_tree.specs.Places.{Pieces, plain, at, lay_row, lay_dims, lay_params, lay_declarator, lay_head, lay_declaration, lay_stmts, lay_item, Stand, Placed}
use Rattle.k_tree.specs.Ranked.{Specs, RankedHead, RankedItem, RankedUnit}
use Rattle.k_tree.specs.Spelling.{the_mark, the_name, spell_specs, spell_stars}
use Rattle.k_tree.proofs.Standing.{stand-append}
use Rattle.k_parse_steps.specs.Operators.{is_spec_word}
use Rattle.k_parse_steps.specs.Declarations.{begin_declaration}
use Rattle.k_parse_steps.specs.declared.declaration.DeclarationStage.TheVariants as stage
use Rattle.k_parse_steps.specs.declared.turn.Turn.TheVariants as turn
use Rattle.k_parse_steps.specs.Parameters.{begin_parameters}
use Rattle.k_parse_steps.specs.Statements.{begin_body}
use Rattle.k_parse_steps.specs.Sources as spec
use Rattle.k_parse_steps.specs.declared.source.SourceStage.TheVariants as phase
use Rattle.k_parse_steps.proofs.Commas.{lay_each}
use Rattle.k_parse_steps.proofs.Rows.{row_push, deepest_more, StartsAt, starts-more, at_stands, no_items}
use Rattle.k_parse_steps.proofs.ExpressionTerms.{one_at, one, stand-more, three, and_left, and_right}
use Rattle.k_parse_steps.proofs.ReadingSound.{Behind, pushed}
use Rattle.k_parse_steps.proofs.DeclarationState.{lay_bare, lay_front, OkDeclaration, KeepsDeclared}
use Rattle.k_parse_steps.proofs.DeclarationSound.{behind_all, behind_now, declaration_keeps, begin_declared}
use Rattle.k_parse_steps.proofs.ParameterSound.{OkParameters, KeepsParametric, parameters_keep, begin_parameters_ok}
use Rattle.k_parse_steps.proofs.StatementState.{OkBody, KeepsStepped, left_paren, left_brace}
use Rattle.k_parse_steps.proofs.StatementSound.{body_keeps, begin_body_ok}
use Rattle.k_parse_steps.proofs.Marks.{false_true, token_mark_is}
use Rattle.k_parse_steps.specs.Tokens.{token_is_mark}

abbrev pub lay_items : List Item → Pieces
lay_items items = lay_row (map lay_item items)

-- a head up to its name
abbrev pub lay_title : Title → Pieces
lay_title t = plain (spell_specs t.specs) ++ (plain (spell_stars t.stars) ++ at t.name_place (plain (the_name t.name)))

pub record OkTitle (lim : ℕ) (t : Title) (ps : Parameters) (p : Place) (us : List Token) : Type 0 where
  pub behind : Behind (lay_title t ++ left_paren) (OkParameters lim ps) us
  pub starts : StartsAt p us
  pub specs : Specs t.specs

pub record OkHead (lim : ℕ) (h : Head) (p : Place) (us : List Token) : Type 0 where
  pub stands : Stand (lay_head h) us
  pub starts : StartsAt p us

abbrev pub IsHead : ℕ → Head → Type 0
IsHead lim h = RankedHead h × (params_depth h.params ≤ lim)

abbrev pub OkPhase : ℕ → List Item → SourceStage → List Token → Type 0
OkPhase lim items phase.Starts ts = Stand (lay_items items) ts
OkPhase lim items (phase.Declares p d) ts = Behind (lay_items items) (λ us. OkDeclaration lim 1 d us × StartsAt p us) ts
OkPhase lim items (phase.Parameters p title ps) ts = Behind (lay_items items) (OkTitle lim title ps p) ts
OkPhase lim items (phase.Headed p h) ts = Behind (lay_items items) (OkHead lim h p) ts × IsHead lim h
OkPhase lim items (phase.Body p h b) ts = Behind (lay_items items ++ (at p (lay_head h) ++ left_brace)) (OkBody lim b) ts × IsHead lim h

-- what was read of a source
pub record OkSource (lim : ℕ) (s : Source) (ts : List Token) : Type 0 where
  pub items : All RankedItem s.items
  pub within : deepest (map item_depth s.items) ≤ lim
  pub stage : OkPhase lim s.items s.stage ts

-- a source that was read whole
pub record IsUnit (lim : ℕ) (u : source.Unit) (ts : List Token) : Type 0 where
  pub ranked : RankedUnit u
  pub placed : Placed u ts
  pub within : nesting u ≤ lim

abbrev pub KeepsSourced : ℕ → List Token → Token → Sourced → Type 0
KeepsSourced lim ts t (turn.Goes s reach) = reach ≤ lim → OkSource lim s (ts ++ t ∷ [])
KeepsSourced lim ts t (turn.Done u) = IsUnit lim u (ts ++ t ∷ []) × (t.what ≡ token.End)
KeepsSourced lim ts t turn.Refused = Unit {0}

title_laid : (f : Front) (d : Declarator) → f.list ≡ [] → d.dims ≡ [] → lay_front f ++ lay_bare d ≡ lay_title (spec.title_of f d)
title_laid f d a b =
    ap (λ x. (plain (spell_specs f.specs) ++ lay_each lay_declarator x) ++ lay_bare d) a
    ∙ (ap (λ x. x ++ lay_bare d) (append-nil (plain (spell_specs f.specs)))
    ∙ ap (λ x. plain (spell_specs f.specs) ++ (plain (spell_stars d.stars) ++ (at d.place (plain (the_name d.name)) ++ lay_dims x))) b)

head_laid : (s t n l q : Pieces) → ((s ++ (t ++ n)) ++ l) ++ q ≡ s ++ (t ++ (n ++ (l ++ q)))
head_laid s t n l q =
    append_assoc (s ++ (t ++ n)) l q ∙ (append_assoc s (t ++ n) (l ++ q) ∙ ap (λ z. s ++ z) (append_assoc t n (l ++ q)))

module _ (lim : ℕ) (ts : List Token) (t : Token) where
  sourced_cond : (b : Bool) (x y : Sourced) → (b ≡ true → KeepsSourced lim ts t x) → (b ≡ false → KeepsSourced lim ts t y)
      → KeepsSourced lim ts t (cond b x y)
  sourced_cond true x y f h = f refl
  sourced_cond false x y f h = h refl

  -- what is known of the items so far
  OkItems : List Item → Type 0
  OkItems items = All RankedItem items × (deepest (map item_depth items) ≤ lim)

  goes : (items : List Item) (x : SourceStage) (reach : ℕ) → OkItems items → (reach ≤ lim → OkPhase lim items x (ts ++ t ∷ []))
      → KeepsSourced lim ts t (spec.goes_on items x reach)
  unfolding OkItems
  goes items x reach o f = λ z. record { items = o.0; within = o.1; stage = f z }

  done : (items : List Item) (i : Item) → OkItems items → RankedItem i → item_depth i ≤ lim → Stand (lay_items items ++ lay_item i) (ts ++ t ∷ [])
      → KeepsSourced lim ts t (spec.item_done items i)
  unfolding OkItems
  done items i o r w st = λ z. record {
    items = All-push RankedItem items i o.0 r;
    within = omega (arith, o.1, w, deepest_more item_depth items i);
    stage = subst (λ x. Stand x (ts ++ t ∷ [])) (sym (row_push lay_item items i)) st;
  }

  -- pieces that stand at the tokens behind others, with this one
  all_pushed : (xs ys : Pieces) (P : List Token → Type 0) → (b : Behind xs P ts) → Stand ys (b.back ++ t ∷ []) → Stand (xs ++ ys) (ts ++ t ∷ [])
  all_pushed xs ys P b st =
      subst (λ z. Stand (xs ++ ys) z) (sym (ap (λ z. z ++ t ∷ []) b.is ∙ append_assoc b.front b.back (t ∷ [])))
      (stand-append xs ys b.front (b.back ++ t ∷ []) b.stands st)

  kind_starts_keeps : (items : List Item) (k : TokenKind) → OkItems items → t.what ≡ k → Stand (lay_items items) ts
      → KeepsSourced lim ts t (spec.kind_starts items t.place k)
  unfolding OkItems
  kind_starts_keeps items token.End o e st = (
    record {
      ranked = o.0;
      placed = stand-append (lay_items items) _ ts (t ∷ []) st (one_at t token.End e);
      within = o.1;
    },
    e,
  )
  kind_starts_keeps items (token.Word w) o e st =
      sourced_cond (is_spec_word w) _ turn.Refused
      (λ h. goes items (phase.Declares t.place (begin_declaration w 1)) 0 o (λ z. record {
        front = ts;
        back = t ∷ [];
        is = refl;
        stands = st;
        rest = (begin_declared lim 1 t w (omega arith) e h, refl);
      }))
      (λ h. tt)
  kind_starts_keeps items _ o e st = tt

  -- an item that may be a declaration or a function

  declares_by_keeps : (items : List Item) (p : Place) (d : Declaration) (m : Declared) → OkItems items
      → (b : Behind (lay_items items) (λ us. OkDeclaration lim 1 d us × StartsAt p us) ts)
      → KeepsDeclared lim 1 b.back t m → KeepsSourced lim ts t (spec.declares_by items p m)
  declares_by_keeps items p d (turn.Goes q reach) o b h =
      goes items (phase.Declares p q) reach o (λ z. pushed ts t (lay_items items) _ _ b (h z, starts-more p b.back (t ∷ []) b.rest.1))
  declares_by_keeps items p d (turn.Done (specs, list)) o b h =
      done items (item.Objects p specs list) o h.ranked (omega (arith, h.within))
      (all_pushed (lay_items items) (at p (lay_declaration specs list)) _ b
      (at_stands p (lay_declaration specs list) (b.back ++ t ∷ []) (starts-more p b.back (t ∷ []) b.rest.1) h.stands))
  declares_by_keeps items p d turn.Refused o b h = tt

  titled_keeps : (items : List Item) (p : Place) (f : Front) (g : DeclarationStage) → OkItems items → t.what ≡ token.Mark mark.LeftParen → spec.titled_by f g ≡ true
      → Behind (lay_items items) (λ us. OkDeclaration lim 1 (record { front = f; stage = g }) us × StartsAt p us) ts
      → KeepsSourced lim ts t (spec.titled_at items p f g)
  titled_keeps items p f (stage.Named d) o e h b =
      goes items (phase.Parameters p (spec.title_of f d) begin_parameters) 0 o (λ z. pushed ts t (lay_items items) _ _ b (record {
        behind = behind_now (lay_title (spec.title_of f d) ++ left_paren) _ (b.back ++ t ∷ [])
            (stand-append (lay_title (spec.title_of f d)) left_paren b.back (t ∷ [])
            (subst (λ x. Stand x b.back) (title_laid f d (no_items f.list (eqb-true (length f.list) 0 (and_left (nat_eq (length f.list) 0) _ h)))
            (no_items d.dims (eqb-true (length d.dims) 0 (and_right (nat_eq (length f.list) 0) _ h)))) b.rest.0.stage.stands)
            (one t (token.Mark mark.LeftParen) e))
            (begin_parameters_ok lim);
        starts = starts-more p b.back (t ∷ []) b.rest.1;
        specs = b.rest.0.front.specs;
      }))
  titled_keeps items p f _ o e h b = absurd (false_true h)

  declares_keeps : (items : List Item) (p : Place) (d : Declaration) → OkItems items
      → Behind (lay_items items) (λ us. OkDeclaration lim 1 d us × StartsAt p us) ts → KeepsSourced lim ts t (spec.declares items p d t)
  unfolding spec.declares spec.is_titled spec.titled
  declares_keeps items p d o b =
      sourced_cond (token_is_mark t.what mark.LeftParen && spec.titled_by d.front d.stage) _ _
      (λ h. titled_keeps items p d.front d.stage o (token_mark_is t.what mark.LeftParen (and_left (token_is_mark t.what mark.LeftParen) _ h)) (and_right (token_is_mark t.what mark.LeftParen) _ h) b)
      (λ h. declares_by_keeps items p d _ o b (declaration_keeps lim 1 b.back t d b.rest.0))

  -- parameters

  head_stands : (title : Title) (ps : Params) (us : List Token)
      → Stand ((lay_title title ++ left_paren) ++ (lay_params ps ++ plain (the_mark mark.RightParen))) us → Stand (lay_head (spec.head_of title ps)) us
  head_stands title ps us st =
      subst (λ x. Stand x us) (head_laid (plain (spell_specs title.specs)) (plain (spell_stars title.stars)) (at title.name_place (plain (the_name title.name))) left_paren
      (lay_params ps ++ plain (the_mark mark.RightParen))) st

  parameters_by_keeps : (items : List Item) (p : Place) (title : Title) (ps : Parameters) (m : Parametric) → OkItems items
      → (b : Behind (lay_items items) (OkTitle lim title ps p) ts) → KeepsParametric lim b.rest.behind.back t m → KeepsSourced lim ts t (spec.parameters_by items p title m)
  parameters_by_keeps items p title ps (turn.Goes q reach) o b h =
      goes items (phase.Parameters p title q) reach o (λ z. pushed ts t (lay_items items) _ _ b (record {
        behind = record {
          front = b.rest.behind.front;
          back = b.rest.behind.back ++ t ∷ [];
          is = ap (λ x. x ++ t ∷ []) b.rest.behind.is ∙ append_assoc b.rest.behind.front b.rest.behind.back (t ∷ []);
          stands = b.rest.behind.stands;
          rest = h z;
        };
        starts = starts-more p b.back (t ∷ []) b.rest.starts;
        specs = b.rest.specs;
      }))
  parameters_by_keeps items p title ps (turn.Done q) o b h =
      goes items (phase.Headed p (spec.head_of title q)) 0 o (λ z. (
        pushed ts t (lay_items items) _ _ b (record {
          stands = head_stands title q (b.back ++ t ∷ [])
              (subst (λ x. Stand ((lay_title title ++ left_paren) ++ (lay_params q ++ plain (the_mark mark.RightParen))) x)
              (sym (ap (λ x. x ++ t ∷ []) b.rest.behind.is ∙ append_assoc b.rest.behind.front b.rest.behind.back (t ∷ [])))
              (stand-append (lay_title title ++ left_paren) _ b.rest.behind.front (b.rest.behind.back ++ t ∷ []) b.rest.behind.stands h.stands));
          starts = starts-more p b.back (t ∷ []) b.rest.starts;
        }),
        ((b.rest.specs, h.ranked), omega (arith, h.within)),
      ))
  parameters_by_keeps items p title ps turn.Refused o b h = tt

  parameters_keep_on : (items : List Item) (p : Place) (title : Title) (ps : Parameters) → OkItems items → Behind (lay_items items) (OkTitle lim title ps p) ts
      → KeepsSourced lim ts t (spec.parameters items p title ps t)
  unfolding spec.parameters
  parameters_keep_on items p title ps o b =
      parameters_by_keeps items p title ps _ o b (parameters_keep lim b.rest.behind.back t ps b.rest.behind.rest)

  -- behind a head

  head_laid_at : (items : List Item) (p : Place) (h : Head) → Behind (lay_items items) (OkHead lim h p) ts → Stand (lay_items items ++ at p (lay_head h)) ts
  head_laid_at items p h b =
      behind_all (lay_items items) (at p (lay_head h)) _ ts b (at_stands p (lay_head h) b.back b.rest.starts b.rest.stands)

  mark_headed_keeps : (items : List Item) (p : Place) (h : Head) (m : Mark) → OkItems items → t.what ≡ token.Mark m → IsHead lim h
      → Behind (lay_items items) (OkHead lim h p) ts → KeepsSourced lim ts t (spec.mark_headed items p h m)
  unfolding spec.mark_headed
  mark_headed_keeps items p h mark.Semicolon o e i b =
      done items (item.Prototype p h) o i.0 i.1
      (stand-more (lay_items items) (at p (lay_head h)) (plain (the_mark mark.Semicolon)) ts (t ∷ []) (head_laid_at items p h b) (one t (token.Mark mark.Semicolon) e))
  mark_headed_keeps items p h mark.LeftBrace o e i b =
      goes items (phase.Body p h begin_body) 0 o (λ z. (
        behind_now (lay_items items ++ (at p (lay_head h) ++ left_brace)) _ (ts ++ t ∷ [])
            (stand-more (lay_items items) (at p (lay_head h)) left_brace ts (t ∷ []) (head_laid_at items p h b) (one t (token.Mark mark.LeftBrace) e)) (begin_body_ok lim),
        i,
      ))
  mark_headed_keeps items p h _ o e i b = tt

  kind_headed_keeps : (items : List Item) (p : Place) (h : Head) (k : TokenKind) → OkItems items → t.what ≡ k → IsHead lim h
      → Behind (lay_items items) (OkHead lim h p) ts → KeepsSourced lim ts t (spec.kind_headed items p h k)
  kind_headed_keeps items p h (token.Mark m) o e i b = mark_headed_keeps items p h m o e i b
  kind_headed_keeps items p h _ o e i b = tt

  -- in a function's block

  body_by_keeps : (items : List Item) (p : Place) (h : Head) (d : Body) (m : Stepped) → OkItems items → IsHead lim h
      → (b : Behind (lay_items items ++ (at p (lay_head h) ++ left_brace)) (OkBody lim d) ts) → KeepsStepped lim b.back t m
      → KeepsSourced lim ts t (spec.body_by items p h t.place m)
  body_by_keeps items p h d (turn.Goes q reach) o i b k =
      goes items (phase.Body p h q) reach o (λ z. (pushed ts t (lay_items items ++ (at p (lay_head h) ++ left_brace)) _ _ b (k z), i))
  body_by_keeps items p h d (turn.Done parts) o i b k =
      done items (item.Function p h parts t.place) o (i.0, k.0.0) (omega (arith, i.1, k.0.1))
      (three (lay_items items) (at p (lay_head h)) left_brace (lay_stmts parts ++ at t.place (plain (the_mark mark.RightBrace))) (ts ++ t ∷ [])
      (stand-more (lay_items items ++ (at p (lay_head h) ++ left_brace)) (lay_stmts parts) _ ts (t ∷ [])
      (behind_all (lay_items items ++ (at p (lay_head h) ++ left_brace)) (lay_stmts parts) _ ts b k.1) (one_at t (token.Mark mark.RightBrace) k.2)))
  body_by_keeps items p h d turn.Refused o i b k = tt

  phase_keeps : (items : List Item) (x : SourceStage) → OkItems items → OkPhase lim items x ts → KeepsSourced lim ts t (spec.stage_fed items x t)
  unfolding spec.starts spec.headed spec.in_body
  phase_keeps items phase.Starts o k = kind_starts_keeps items t.what o refl k
  phase_keeps items (phase.Declares p d) o k = declares_keeps items p d o k
  phase_keeps items (phase.Parameters p title ps) o k = parameters_keep_on items p title ps o k
  phase_keeps items (phase.Headed p h) o k = kind_headed_keeps items p h t.what o refl k.1 k.0
  phase_keeps items (phase.Body p h b) o k = body_by_keeps items p h b _ o k.1 k.0 (body_keeps lim k.0.back t b k.0.rest)

  pub source_keeps : (s : Source) → OkSource lim s ts → KeepsSourced lim ts t (spec.feed_source s t)
  unfolding spec.feed_source OkItems
  source_keeps s k = phase_keeps s.items s.stage (k.items, k.within) k.stage

pub begin_source_ok : (lim : ℕ) → OkSource lim spec.begin_source []
begin_source_ok lim = record { items = All-nil _; within = omega arith; stage = tt }
