-- Viable: a source that has been read so far can be ended within the limit, so its tokens begin one that the grammar gives.
use Rattle.std.proofs.Common.{ℕ, ◌≡◌, ◌≤◌, true, ◌&&◌, List, [], ◌∷◌, ◌++◌, sym, ◌∙◌, ap, subst, refl, arith}
use Rattle.std.proofs.lemmas.Bool.{cond_both, and_parts, false≢true}
use Rattle.k_parse_steps.specs.Types.{Place, Token, TokenKind, Mark, Word, Params, Head, Item, Declarator, Front, DeclarationStage, Declaration, Declared, Parameters, Parametric, Body, Stepped, Title, SourceStage, Source, Sourced}
use Rattle.k_tree.specs.Bare.{nowhere}
use Rattle.k_tree.specs.declared.tokens.TokenKind.TheVariants as token
use Rattle.k_tree.specs.declared.tokens.mark.Mark.TheVariants as mark
use Rattle.k_tree.specs.declared.tree.unit.Item.TheVariants as item
use Rattle.k_tree.specs.declared.tree.unit.Unit as source
use Rattle.k_parse_steps.specs.Operators.{is_spec_word}
use Rattle.k_parse_steps.specs.Declarations.{begin_declaration, feed_declaration, end, named, kind_named, stage_fed}
use Rattle.k_parse_steps.specs.declared.declaration.DeclarationStage.TheVariants as stage
use Rattle.k_parse_steps.specs.declared.turn.Turn.TheVariants as turn
use Rattle.k_parse_steps.specs.Parameters.{feed_parameters}
use Rattle.k_parse_steps.specs.Statements.{Parts, feed_body}
use Rattle.k_parse_steps.specs.Sources as spec
use Rattle.k_parse_steps.specs.declared.source.SourceStage.TheVariants as phase
use Rattle.k_parse_steps.proofs.DeclarationReach.{StageReached, DeclaredStays, declaration_stays}
use Rattle.k_parse_steps.proofs.DeclarationState.{OkDeclaration}
use Rattle.k_parse_steps.proofs.DeclarationViable.{Outcome, DeclarationGoes, DeclarationEnds, declaration_viable}
use Rattle.k_parse_steps.proofs.ExpressionViable.{mark_token}
use Rattle.k_parse_steps.proofs.ParameterSound.{OkParameters}
use Rattle.k_parse_steps.proofs.ParameterViable.{PartReached, ParametricStays, parameters_stay, ParametersGo, ParametersEnd, parameters_viable}
use Rattle.k_parse_steps.proofs.Runs.{Runs, run_ends, CanEnd, goes_then, runs_keep, inside_can_end}
use Rattle.k_parse_steps.proofs.SourceSound.{OkSource, OkPhase, IsUnit, KeepsSourced, source_keeps}
use Rattle.k_parse_steps.proofs.StatementReach.{BodyReached, BodyStays, body_stays}
use Rattle.k_parse_steps.proofs.StatementState.{OkBody}
use Rattle.k_parse_steps.proofs.StatementViable.{BodyGoes, BodyEnds, body_viable}
use Rattle.k_parse_steps.specs.Tokens.{is_mark, token_is_mark}

-- what a phase makes sure
abbrev pub PhaseReached : ℕ → SourceStage → Type 0
PhaseReached lim phase.Starts = Unit {0}
PhaseReached lim (phase.Declares p d) = StageReached lim d.front d.stage
PhaseReached lim (phase.Parameters p t ps) = PartReached lim ps.stage
PhaseReached lim (phase.Headed p h) = Unit {0}
PhaseReached lim (phase.Body p h b) = BodyReached lim b

abbrev pub SourcedStays : ℕ → Sourced → Type 0
SourcedStays lim (turn.Goes s reach) = reach ≤ lim → PhaseReached lim s.stage
SourcedStays lim _ = Unit {0}

module _ (lim : ℕ) (items : List Item) where
  starts_stays : (p : Place) (k : TokenKind) → SourcedStays lim (spec.kind_starts items p k)
  starts_stays p token.End = tt
  starts_stays p (token.Word w) =
      cond_both (is_spec_word w) (spec.goes_on items (phase.Declares p (begin_declaration w 1)) 0) turn.Refused (SourcedStays lim)
      (λ e le. tt) (λ e. tt)
  starts_stays p _ = tt

  titled_stays : (p : Place) (f : Front) (n : DeclarationStage) → SourcedStays lim (spec.titled_at items p f n)
  titled_stays p f (stage.Named d) = λ le. tt
  titled_stays p f _ = tt

  declared_stays : (p : Place) (x : Declared) → DeclaredStays lim x → SourcedStays lim (spec.declares_by items p x)
  declared_stays p (turn.Goes d reach) h = h
  declared_stays p (turn.Done (specs, list)) h = λ le. tt
  declared_stays p turn.Refused h = tt

  parameters_stays : (p : Place) (t : Title) (x : Parametric) → ParametricStays lim x → SourcedStays lim (spec.parameters_by items p t x)
  parameters_stays p t (turn.Goes ps reach) h = h
  parameters_stays p t (turn.Done ps) h = λ le. tt
  parameters_stays p t turn.Refused h = tt

  mark_headed_stays : (p : Place) (h : Head) (m : Mark) → SourcedStays lim (spec.mark_headed items p h m)
  unfolding spec.mark_headed
  mark_headed_stays p h mark.Semicolon = λ le. tt
  mark_headed_stays p h mark.LeftBrace = λ le. (tt, tt)
  mark_headed_stays p h _ = tt

  headed_stays : (p : Place) (h : Head) (k : TokenKind) → SourcedStays lim (spec.kind_headed items p h k)
  headed_stays p h (token.Mark m) = mark_headed_stays p h m
  headed_stays p h _ = tt

  in_body_stays : (p : Place) (h : Head) (q : Place) (x : Stepped) → BodyStays lim x → SourcedStays lim (spec.body_by items p h q x)
  in_body_stays p h q (turn.Goes b reach) k = k
  in_body_stays p h q (turn.Done parts) k = λ le. tt
  in_body_stays p h q turn.Refused k = tt

  phase_stays : (n : SourceStage) (t : Token) → PhaseReached lim n → SourcedStays lim (spec.stage_fed items n t)
  unfolding spec.starts spec.declares spec.titled spec.parameters spec.headed spec.in_body
  phase_stays phase.Starts t h = starts_stays t.place t.what
  phase_stays (phase.Declares p d) t h =
      cond_both (token_is_mark t.what mark.LeftParen && spec.is_titled d) (spec.titled_at items p d.front d.stage)
      (spec.declares_by items p (feed_declaration d t)) (SourcedStays lim) (λ e. titled_stays p d.front d.stage)
      (λ e. declared_stays p (feed_declaration d t) (declaration_stays lim d t h))
  phase_stays (phase.Parameters p title ps) t h =
      parameters_stays p title (feed_parameters ps t) (parameters_stay lim ps t h)
  phase_stays (phase.Headed p h) t k = headed_stays p h t.what
  phase_stays (phase.Body p h b) t k = in_body_stays p h t.place (feed_body b t) (body_stays lim b t k)

-- a token within the limit keeps it so
pub source_stays : (lim : ℕ) → (s : Source) (t : Token) → PhaseReached lim s.stage → SourcedStays lim (spec.feed_source s t)
unfolding spec.feed_source
source_stays lim s t h = phase_stays lim s.items s.stage t h

abbrev pub SourceGoes : Source → Token → Source → ℕ → Type 0
SourceGoes s t next reach = spec.feed_source s t ≡ turn.Goes next reach

abbrev pub SourceEnds : Source → Token → source.Unit → Type 0
SourceEnds s t u = spec.feed_source s t ≡ turn.Done u

-- tokens, each within the limit, that lead from a source to its end
abbrev pub SourceRuns : ℕ → Source → List Token → source.Unit → Type 0
SourceRuns lim = Runs Source source.Unit SourceGoes SourceEnds lim

abbrev pub SourceCanEnd : ℕ → Source → Type 0
SourceCanEnd lim = CanEnd Source source.Unit SourceGoes SourceEnds lim

-- what is read by such tokens is a source, which begins with those that were read before
pub source_runs_sound : (lim : ℕ) → (s : Source) (us : List Token) (u : source.Unit) (ts : List Token)
    → SourceRuns lim s us u → OkSource lim s ts → IsUnit lim u (ts ++ us)
source_runs_sound lim s us u ts runs ok =
    runs_keep Source source.Unit SourceGoes SourceEnds lim (OkSource lim) (IsUnit lim)
    (λ d t next reach ts e le k. (subst (λ z. KeepsSourced lim ts t z) e (source_keeps lim ts t d k)) le)
    (λ d t o ts e k. let q : KeepsSourced lim ts t (turn.Done o) = subst (λ z. KeepsSourced lim ts t z) e (source_keeps lim ts t d k) in q.0)
    s us u ts runs ok

-- `(` behind the name of a first declarator goes on with no declaration
kind_refused : (f : Front) (d : Declarator) (k : TokenKind) → token_is_mark k mark.LeftParen ≡ true → kind_named f d k ≡ turn.Refused
unfolding named end is_mark
kind_refused f d (token.Mark mark.LeftParen) h = refl
kind_refused f d _ h = absurd (false≢true h)

stage_refused : (f : Front) (n : DeclarationStage) (t : Token) → token_is_mark t.what mark.LeftParen ≡ true → spec.titled_by f n ≡ true
    → stage_fed f n t ≡ turn.Refused
stage_refused f (stage.Named d) t h e = kind_refused f d t.what h
stage_refused f (stage.Before stars) t h e = absurd (false≢true e)
stage_refused f (stage.Size d r) t h e = absurd (false≢true e)
stage_refused f (stage.Starts d s) t h e = absurd (false≢true e)
stage_refused f (stage.Value d s p r) t h e = absurd (false≢true e)
stage_refused f (stage.After d s) t h e = absurd (false≢true e)

title_refused : (d : Declaration) (t : Token) → (token_is_mark t.what mark.LeftParen && spec.is_titled d) ≡ true → feed_declaration d t ≡ turn.Refused
unfolding feed_declaration spec.is_titled
title_refused d t e =
    let b : (token_is_mark t.what mark.LeftParen ≡ true) × (spec.titled_by d.front d.stage ≡ true) =
    and_parts (token_is_mark t.what mark.LeftParen) (spec.titled_by d.front d.stage) e in
    stage_refused d.front d.stage t b.0 b.1

no_goes : (next : Declaration) (reach : ℕ) → ◌≡◌ {A = Declared} (turn.Goes next reach) turn.Refused → ⊥
no_goes next reach e = cc

no_done : (specs : List Word) (list : List Declarator) → ◌≡◌ {A = Declared} (turn.Done (specs, list)) turn.Refused → ⊥
no_done specs list e = cc

-- what a declaration makes of a token, an item makes too
declared_on : (items : List Item) (p : Place) (d : Declaration) (t : Token) (x : Declared) → feed_declaration d t ≡ x
    → (x ≡ turn.Refused → ⊥) → spec.declares items p d t ≡ spec.declares_by items p x
unfolding spec.declares
declared_on items p d t x e no_refusal =
    cond_both (token_is_mark t.what mark.LeftParen && spec.is_titled d) (spec.titled items p d) (spec.declares_by items p (feed_declaration d t))
    (λ z. z ≡ spec.declares_by items p x)
    (λ q. absurd (no_refusal (sym e ∙ title_refused d t q)))
    (λ q. ap (λ z. spec.declares_by items p z) e)

module _ (lim : ℕ) where
  end_token : Token
  end_token = record { what = token.End; place = nowhere }

  -- the end of the tokens
  starts_ended : (items : List Item) → SourceCanEnd lim (record { items = items; stage = phase.Starts })
  unfolding spec.feed_source spec.starts end_token
  starts_ended items = (
    end_token ∷ [],
    record { items = items; end = nowhere },
    run_ends (record { items = items; stage = phase.Starts }) end_token (record { items = items; end = nowhere }) refl,
  )

  -- `;` behind a head
  headed_ended : (items : List Item) (p : Place) (h : Head) → SourceCanEnd lim (record { items = items; stage = phase.Headed p h })
  unfolding spec.feed_source spec.headed spec.mark_headed
  headed_ended items p h =
      goes_then Source source.Unit SourceGoes SourceEnds lim (record { items = items; stage = phase.Headed p h })
      (record { items = items ++ item.Prototype p h ∷ []; stage = phase.Starts }) (mark_token mark.Semicolon) 0 refl (omega arith)
      (starts_ended (items ++ item.Prototype p h ∷ []))

  parameters_ended : (items : List Item) (p : Place) (t : Title) (ps : Parameters) (ts : List Token) → OkParameters lim ps ts
      → PartReached lim ps.stage → SourceCanEnd lim (record { items = items; stage = phase.Parameters p t ps })
  unfolding spec.feed_source spec.parameters
  parameters_ended items p t ps ts ok h =
      inside_can_end Parameters Params ParametersGo ParametersEnd Source source.Unit SourceGoes SourceEnds lim
      (λ q. record { items = items; stage = phase.Parameters p t q })
      (λ o c. record { items = items; stage = phase.Headed p (spec.head_of t o) })
      (λ q u next reach e. ap (λ z. spec.parameters_by items p t z) e) (λ q u o e. ap (λ z. spec.parameters_by items p t z) e)
      ps (parameters_viable lim ps ts ok h) (λ o c. headed_ended items p (spec.head_of t o))

  body_ended : (items : List Item) (p : Place) (h : Head) (b : Body) (ts : List Token) → OkBody lim b ts → BodyReached lim b
      → SourceCanEnd lim (record { items = items; stage = phase.Body p h b })
  unfolding spec.feed_source spec.in_body
  body_ended items p h b ts ok k =
      inside_can_end Body Parts BodyGoes BodyEnds Source source.Unit SourceGoes SourceEnds lim
      (λ q. record { items = items; stage = phase.Body p h q })
      (λ o c. record { items = items ++ item.Function p h o c.place ∷ []; stage = phase.Starts })
      (λ q u next reach e. ap (λ z. spec.body_by items p h u.place z) e) (λ q u o e. ap (λ z. spec.body_by items p h u.place z) e)
      b (body_viable lim b ts ok k) (λ o c. starts_ended (items ++ item.Function p h o c.place ∷ []))

  declares_ended : (items : List Item) (p : Place) (d : Declaration) (ts : List Token) → OkDeclaration lim 1 d ts
      → StageReached lim d.front d.stage → SourceCanEnd lim (record { items = items; stage = phase.Declares p d })
  unfolding spec.feed_source
  declares_ended items p d ts ok k =
      inside_can_end Declaration Outcome DeclarationGoes DeclarationEnds Source source.Unit SourceGoes SourceEnds lim
      (λ q. record { items = items; stage = phase.Declares p q })
      (λ o c. record { items = items ++ item.Objects p o.0 o.1 ∷ []; stage = phase.Starts })
      (λ q u next reach e. declared_on items p q u (turn.Goes next reach) e (λ z. no_goes next reach z))
      (λ q u o e. declared_on items p q u (turn.Done (o.0, o.1)) e (λ z. no_done o.0 o.1 z))
      d (declaration_viable lim 1 d ts ok k) (λ o c. starts_ended (items ++ item.Objects p o.0 o.1 ∷ []))

  phase_ended : (items : List Item) (n : SourceStage) (ts : List Token) → OkPhase lim items n ts → PhaseReached lim n
      → SourceCanEnd lim (record { items = items; stage = n })
  phase_ended items phase.Starts ts ok h = starts_ended items
  phase_ended items (phase.Declares p d) ts ok h = declares_ended items p d ok.back ok.rest.0 h
  phase_ended items (phase.Parameters p t ps) ts ok h = parameters_ended items p t ps ok.rest.behind.back ok.rest.behind.rest h
  phase_ended items (phase.Headed p x) ts ok h = headed_ended items p x
  phase_ended items (phase.Body p x b) ts ok h = body_ended items p x b ok.0.back ok.0.rest h

-- what was read of a source can be ended within the limit
pub source_viable : (lim : ℕ) → (s : Source) (ts : List Token) → OkSource lim s ts → PhaseReached lim s.stage → SourceCanEnd lim s
source_viable lim s ts ok h = phase_ended lim s.items s.stage ts ok.stage h

-- so there is a source that the grammar gives, within the limit, which begins with the tokens that were read
pub source_begins : (lim : ℕ) → (s : Source) (ts : List Token) → OkSource lim s ts → PhaseReached lim s.stage
    → (us : List Token) × (u : source.Unit) × IsUnit lim u (ts ++ us)
source_begins lim s ts ok h =
    let x : SourceCanEnd lim s = source_viable lim s ts ok h in
    (x.0, x.1, source_runs_sound lim s x.0 x.1 ts x.2 ok)
