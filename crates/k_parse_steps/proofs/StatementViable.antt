-- Viable: a function's block that has been read so far can be ended within the limit.
use Rattle.std.proofs.Common.{ℕ, suc, ◌≡◌, ◌≤◌, Bool, true, false, ◌&&◌, cond, List, [], ◌∷◌, ◌++◌, length, Option, Some, None, sym, ◌∙◌, ap, subst, refl, arith}
use Rattle.std.proofs.lemmas.Bool.{cond-false, cond_both, and_parts, false≢true}
use Rattle.k_parse_steps.specs.Types.{Place, Token, TokenKind, Word, Expr, First, Stmt, Site, Reading, Maybe, Declaration, Frame, Tested, BlockStage, Body, Stepped}
use Rattle.k_tree.specs.Bare.{nowhere}
use Rattle.k_tree.specs.declared.tokens.TokenKind.TheVariants as token
use Rattle.k_tree.specs.declared.tokens.mark.Mark.TheVariants as mark
use Rattle.k_tree.specs.declared.tokens.word.Word.TheVariants as word
use Rattle.k_tree.specs.declared.tree.statement.First.TheVariants as first
use Rattle.k_tree.specs.declared.tree.statement.Part.TheVariants as part_
use Rattle.k_tree.specs.Places.{stmt_place}
use Rattle.k_tree.specs.declared.tree.statement.Stmt.TheVariants as stmt
use Rattle.k_parse_steps.specs.Level.{plus}
use Rattle.k_parse_steps.specs.Operators.{is_spec_word}
use Rattle.k_parse_steps.specs.Expressions.{begin, is_before_type, type_begun, word_operand, operand, stage_fed, feed, goes, level}
use Rattle.k_parse_steps.specs.declared.expression.ExpressionStage.TheVariants as now
use Rattle.k_parse_steps.specs.declared.expression.Open.TheVariants as open_
use Rattle.k_parse_steps.specs.declared.turn.Turn.TheVariants as turn
use Rattle.k_parse_steps.specs.Readings.{is_fresh, closes, read_by, read_needed, maybe_by, read_maybe}
use Rattle.k_parse_steps.specs.declared.reading.Closer.TheVariants as closer
use Rattle.k_parse_steps.specs.Statements as spec
use Rattle.k_parse_steps.specs.Statements.{Parts, Frames}
use Rattle.k_parse_steps.specs.declared.statement.Frame.TheVariants as frame
use Rattle.k_parse_steps.specs.declared.statement.Tested.TheVariants as tested
use Rattle.k_parse_steps.specs.declared.statement.BlockStage.TheVariants as step
use Rattle.k_parse_steps.proofs.DeclarationReach.{StageReached}
use Rattle.k_parse_steps.proofs.DeclarationState.{OkDeclaration}
use Rattle.k_parse_steps.proofs.DeclarationViable.{Outcome, DeclarationGoes, DeclarationEnds, declaration_viable}
use Rattle.k_parse_steps.proofs.ExpressionViable.{mark_token}
use Rattle.k_parse_steps.proofs.ReadingReach.{Begun, fresh_is}
use Rattle.k_parse_steps.proofs.ReadingSound.{At, site, begin_at}
use Rattle.k_parse_steps.proofs.ReadingViable.{needed_goes, needed_ends, closing_ends, closing_closes, inner_can_end, maybe_can_end}
use Rattle.k_parse_steps.proofs.Runs.{run_ends, CanEnd, goes_then, inside_can_end}
use Rattle.k_parse_steps.proofs.StatementReach.{FramesReached, ReadingReached, StepReached, BodyReached}
use Rattle.k_parse_steps.proofs.SwitchTerms.{switch_split}
use Rattle.k_parse_steps.proofs.StatementState.{OkStep, OkBody}
use Rattle.k_parse_steps.specs.Tokens.{is_mark, is_word, token_is_word}

abbrev pub BodyGoes : Body → Token → Body → ℕ → Type 0
BodyGoes b t next reach = spec.feed_body b t ≡ turn.Goes next reach

abbrev pub BodyEnds : Body → Token → Parts → Type 0
BodyEnds b t o = spec.feed_body b t ≡ turn.Done o

abbrev pub BodyCanEnd : ℕ → Body → Type 0
BodyCanEnd lim = CanEnd Body Parts BodyGoes BodyEnds lim

-- a specifier where the first part of a `for` begins is none of an expression
not_sizeof : (w : Word) → is_spec_word w ≡ true → is_word w word.Sizeof ≡ false
unfolding is_spec_word is_word
not_sizeof word.Sizeof h = absurd (false≢true h)
not_sizeof _ h = refl

spec_refused : (g : Site) (w : Word) (p : Place) → is_spec_word w ≡ true → word_operand g [] w p ≡ turn.Refused
unfolding word_operand is_before_type
spec_refused g w p h =
    cond-false (is_word w word.Sizeof) (goes g (open_.Sizeof p ∷ []) now.Operand (level g []))
    (cond (is_spec_word w && false) (type_begun g [] w) turn.Refused) (not_sizeof w h)
    ∙ ap (λ b. cond (b && false) (type_begun g [] w) turn.Refused) h

fresh_refused : (r : Reading) (p : Place) (w : Word) → is_fresh r ≡ true → is_spec_word w ≡ true
    → feed r (record { what = token.Word w; place = p }) ≡ turn.Refused
unfolding feed is_fresh operand
fresh_refused r p w e h =
    let t : Token = record { what = token.Word w; place = p } in
    let q : (r.stage ≡ now.Operand) × (r.opens ≡ []) = fresh_is r.opens r.stage e in
    ap (λ n. stage_fed r.site r.opens n t) q.0 ∙ (ap (λ s. stage_fed r.site s now.Operand t) q.1 ∙ spec_refused r.site w p h)

no_token : (b : Bool) → (b && false) ≡ true → ⊥
no_token b e = false≢true (and_parts b false e).1

spec_read : (r : Reading) (p : Place) (w : Word) → is_fresh r ≡ true → is_spec_word w ≡ true
    → read_maybe r (record { what = token.Word w; place = p }) closer.Semicolon ≡ turn.Refused
unfolding read_maybe read_needed closes is_mark
spec_read r p w e h =
    let t : Token = record { what = token.Word w; place = p } in
    cond_both (is_fresh r && false) (turn.Done None) (maybe_by (read_by (feed r t) false)) (λ z. z ≡ turn.Refused)
    (λ q. absurd (no_token (is_fresh r) q)) (λ q. ap (λ z. maybe_by (read_by z false)) (fresh_refused r p w e h))

-- what is read of an expression begins no declaration
not_specifier : (r : Reading) (p : Place) (k : TokenKind) (m : Maybe) → read_maybe r (record { what = k; place = p }) closer.Semicolon ≡ m
    → (m ≡ turn.Refused → ⊥) → spec.specifier_by r k ≡ None
not_specifier r p (token.Word w) m e no_refusal =
    cond_both (is_spec_word w && is_fresh r) (Some w) None (λ z. z ≡ None)
    (λ q. let b : (is_spec_word w ≡ true) × (is_fresh r ≡ true) = and_parts (is_spec_word w) (is_fresh r) q in
    absurd (no_refusal (sym e ∙ spec_read r p w b.1 b.0)))
    (λ q. refl)
not_specifier r p _ m e no_refusal = refl

goes_on : (next : Reading) (reach : ℕ) → ◌≡◌ {A = Maybe} (turn.Goes next reach) turn.Refused → ⊥
goes_on next reach e = cc

closed_so : (v : Option Expr) → ◌≡◌ {A = Maybe} (turn.Done v) turn.Refused → ⊥
closed_so v e = cc

module _ (lim : ℕ) (ps : Parts) where
  abbrev body : Frames → BlockStage → Body
  body s n = record { parts = ps; frames = s; stage = n }

  abbrev Ended : Frames → BlockStage → Type 0
  Ended s n = BodyCanEnd lim (body s n)

  -- what a token makes can be ended
  abbrev Leads : Stepped → Type 0
  Leads (turn.Goes b reach) = (reach ≤ lim) × BodyCanEnd lim b
  Leads (turn.Done o) = Unit {0}
  Leads turn.Refused = ⊥

  ended_by : (b : Body) (t : Token) (x : Stepped) → spec.feed_body b t ≡ x → Leads x → BodyCanEnd lim b
  ended_by b t (turn.Goes next reach) e h = goes_then Body Parts BodyGoes BodyEnds lim b next t reach e h.0 h.1
  ended_by b t (turn.Done o) e h = (t ∷ [], o, run_ends b t o e)
  ended_by b t turn.Refused e h = absurd h

  -- a token behind a statement, and no `else`
  abbrev Behind : Frames → Stmt → Type 0
  Behind s x = (t : Token) × (token_is_word t.what word.Else ≡ false) × Leads (spec.behind ps s x t)

  whole_ended : (s : Frames) (x : Stmt) → Behind s x → Ended s (step.Whole x)
  unfolding spec.feed_body
  whole_ended s x h = ended_by (body s (step.Whole x)) h.0 (spec.behind ps s x h.0) refl h.2

  semicolon_ended : (s : Frames) (x : Stmt) → Behind s x → Ended s (step.Semicolon x)
  unfolding spec.feed_body spec.semicolon closes is_mark
  semicolon_ended s x h =
      ended_by (body s (step.Semicolon x)) (mark_token mark.Semicolon) (spec.whole ps s x) refl (omega arith, whole_ended s x h)

  -- a test in parentheses
  tested_body : Frames → Tested → Expr → Body
  tested_body s (tested.If p) e = body (frame.Then p e ∷ s) step.Begins
  tested_body s (tested.While p) e = body (frame.While p e ∷ s) step.Begins
  tested_body s (tested.Switch p) e = body s (step.Braces p e)
  tested_body s (tested.Do p b) e = body s (step.Semicolon (stmt.DoWhile p b e))

  tested_goes : (s : Frames) (x : Tested) (e : Expr) → spec.test_done ps s x e ≡ turn.Goes (tested_body s x e) 0
  unfolding spec.test_done tested_body
  tested_goes s (tested.If p) e = refl
  tested_goes s (tested.While p) e = refl
  tested_goes s (tested.Switch p) e = refl
  tested_goes s (tested.Do p b) e = refl

  test_ended : (s : Frames) (x : Tested) (r : Reading) (g : Site) (ts : List Token) → At lim g r ts → ReadingReached lim r
      → ((e : Expr) → BodyCanEnd lim (tested_body s x e)) → Ended s (step.Test x r)
  unfolding spec.feed_body spec.test
  test_ended s x r g ts a h rest =
      inner_can_end Body Parts BodyGoes BodyEnds lim mark.RightParen (closing_ends closer.Paren) g r ts a h
      (λ u. body s (step.Test x u)) (tested_body s x)
      (λ u t next reach e. ap (λ z. spec.test_by ps s x z) (needed_goes u t closer.Paren next reach e))
      (λ u e q. ap (λ z. spec.test_by ps s x z) (needed_ends u (mark_token mark.RightParen) closer.Paren e q (closing_closes closer.Paren))
      ∙ tested_goes s x e)
      rest

  keyword_ended : (s : Frames) (x : Tested) → spec.inner s ≤ lim → ((e : Expr) → BodyCanEnd lim (tested_body s x e)) → Ended s (step.Keyword x)
  unfolding spec.feed_body spec.opened is_mark
  keyword_ended s x h rest =
      ended_by (body s (step.Keyword x)) (mark_token mark.LeftParen) (spec.steps ps s (step.Test x (begin 0 (spec.inner s))) 0) refl
      (omega arith, test_ended s x (begin 0 (spec.inner s)) (site 0 (spec.inner s)) [] (begin_at lim 0 (spec.inner s) (omega arith)) h rest)

  while_token : Token
  while_token = record { what = token.Word word.While; place = nowhere }

  -- behind a statement: what ends with it ends, `}` closes a block, and `while` goes on with a `do`
  behind_ends : (s : Frames) (x : Stmt) → FramesReached lim s → Behind s x
  unfolding spec.behind spec.begins spec.mark_begins is_mark spec.block_ends spec.close spec.part spec.more spec.more_switched spec.do_while while_token tested_body is_word
  behind_ends [] x h = (mark_token mark.RightBrace, refl, tt)
  behind_ends (frame.Then p e ∷ s) x h =
      let n : Behind s (stmt.If p e x None) = behind_ends s (stmt.If p e x None) h.1 in
      (n.0, n.1, subst (λ b. Leads (spec.closed_by ps s (spec.close (frame.Then p e) x b) n.0 (λ y. spec.behind ps s y n.0))) (sym n.1) n.2)
  behind_ends (frame.Else p e a ∷ s) x h = behind_ends s (stmt.If p e a (Some x)) h.1
  behind_ends (frame.While p e ∷ s) x h = behind_ends s (stmt.While p e x) h.1
  behind_ends (frame.For p start test third ∷ s) x h = behind_ends s (stmt.For p start test third x) h.1
  behind_ends (frame.Do p ∷ s) x h = (
    while_token,
    refl,
    (
      omega arith,
      keyword_ended s (tested.Do p x) h.0
          (λ e. semicolon_ended s (stmt.DoWhile p x e) (behind_ends s (stmt.DoWhile p x e) h.1)),
    ),
  )
  behind_ends (frame.Block p parts ∷ s) x h = (
    mark_token mark.RightBrace,
    refl,
    (omega arith, whole_ended s (stmt.Block p (parts ++ x ∷ [])) (behind_ends s (stmt.Block p (parts ++ x ∷ [])) h.1)),
  )
  behind_ends (frame.Switch p e parts ∷ s) x h =
      let y : Stmt = stmt.Switch p e (parts ++ part_.Does (stmt_place x) x ∷ []) in (
        mark_token mark.RightBrace,
        refl,
        (omega arith, whole_ended s y (behind_ends s y h.1)),
      )

  closes_whole : (s : Frames) (x : Stmt) → FramesReached lim s → Ended s (step.Whole x)
  closes_whole s x h = whole_ended s x (behind_ends s x h)

  inner_level : (n : ℕ) → plus (plus 1 n) 1 ≤ lim → plus 1 (suc n) ≤ lim
  inner_level n le = omega arith

  -- `;` where the part of a statement is awaited
  part_ended : (s : Frames) (f : Frame) → spec.inner s ≤ lim → FramesReached lim (f ∷ s) → Ended (f ∷ s) step.Begins
  unfolding spec.feed_body spec.begins spec.mark_begins is_mark
  part_ended s f le h =
      ended_by (body (f ∷ s) step.Begins) (mark_token mark.Semicolon) (spec.empty ps (f ∷ s) nowhere) refl
      (inner_level (length s) le, closes_whole (f ∷ s) (stmt.Empty nowhere) h)

  begins_ended : (s : Frames) → FramesReached lim s → Ended s step.Begins
  unfolding spec.feed_body spec.begins spec.mark_begins is_mark spec.block_ends
  begins_ended [] h = (mark_token mark.RightBrace ∷ [], ps, run_ends (body [] step.Begins) (mark_token mark.RightBrace) ps refl)
  begins_ended (frame.Block p parts ∷ s) h =
      ended_by (body (frame.Block p parts ∷ s) step.Begins) (mark_token mark.RightBrace) (spec.whole ps s (stmt.Block p parts)) refl
      (omega arith, closes_whole s (stmt.Block p parts) h.1)
  begins_ended (frame.Switch p e parts ∷ s) h =
      ended_by (body (frame.Switch p e parts ∷ s) step.Begins) (mark_token mark.RightBrace) (spec.whole ps s (stmt.Switch p e parts)) refl
      (omega arith, closes_whole s (stmt.Switch p e parts) h.1)
  begins_ended (frame.Then p e ∷ s) h = part_ended s (frame.Then p e) h.0 h
  begins_ended (frame.Else p e a ∷ s) h = part_ended s (frame.Else p e a) h.0 h
  begins_ended (frame.While p e ∷ s) h = part_ended s (frame.While p e) h.0 h
  begins_ended (frame.For p start test third ∷ s) h = part_ended s (frame.For p start test third) h.0 h
  begins_ended (frame.Do p ∷ s) h = part_ended s (frame.Do p) h.0 h

  -- `{` where the braces of a `switch` are awaited
  braces_ended : (s : Frames) (p : Place) (e : Expr) → FramesReached lim s → Ended s (step.Braces p e)
  unfolding spec.feed_body spec.in_for spec.in_switch spec.braces is_mark
  braces_ended s p e h =
      ended_by (body s (step.Braces p e)) (mark_token mark.LeftBrace) (spec.await_part ps s (frame.Switch p e []) 0) refl
      (omega arith, begins_ended (frame.Switch p e [] ∷ s) (tt, h))

  tested_ended : (s : Frames) (x : Tested) (e : Expr) → FramesReached lim s → spec.inner s ≤ lim → BodyCanEnd lim (tested_body s x e)
  unfolding tested_body
  tested_ended s (tested.If p) e h i = begins_ended (frame.Then p e ∷ s) (i, h)
  tested_ended s (tested.While p) e h i = begins_ended (frame.While p e ∷ s) (i, h)
  tested_ended s (tested.Switch p) e h i = braces_ended s p e h
  tested_ended s (tested.Do p b) e h i = semicolon_ended s (stmt.DoWhile p b e) (behind_ends s (stmt.DoWhile p b e) h)

  -- labels

  abbrev Case_ended : Frames → Type 0
  Case_ended s = (p : Place) (r : Reading) (g : Site) (ts : List Token) → At lim g r ts → ReadingReached lim r → FramesReached lim s → Ended s (step.Case p r)

  case_ended : (s : Frames) → spec.is_in_switch s ≡ true → Case_ended s
  unfolding spec.feed_body spec.in_for spec.in_switch spec.case_value spec.labelled
  case_ended = switch_split Case_ended (λ q e parts s p r g ts a k h.
      let f : Frames = frame.Switch q e parts ∷ s in
      inner_can_end Body Parts BodyGoes BodyEnds lim mark.Colon (closing_ends closer.Colon) g r ts a k
      (λ u. body f (step.Case p u)) (λ v. body (frame.Switch q e (parts ++ part_.Case p v ∷ []) ∷ s) step.Begins)
      (λ u t next reach i. ap (λ z. spec.case_by ps f p z) (needed_goes u t closer.Colon next reach i))
      (λ u v i. ap (λ z. spec.case_by ps f p z) (needed_ends u (mark_token mark.Colon) closer.Colon v i (closing_closes closer.Colon)))
      (λ v. begins_ended (frame.Switch q e (parts ++ part_.Case p v ∷ []) ∷ s) h))

  abbrev Default_ended : Frames → Type 0
  Default_ended s = (p : Place) → FramesReached lim s → Ended s (step.Default p)

  default_ended : (s : Frames) → spec.is_in_switch s ≡ true → Default_ended s
  unfolding spec.feed_body spec.in_for spec.in_switch spec.default_label spec.labelled closes is_mark
  default_ended = switch_split Default_ended (λ q e parts s p h.
      let f : Frames = frame.Switch q e parts ∷ s in
      ended_by (body f (step.Default p)) (mark_token mark.Colon)
      (spec.steps ps (frame.Switch q e (parts ++ part_.Default p ∷ []) ∷ s) step.Begins 0) refl
      (omega arith, begins_ended (frame.Switch q e (parts ++ part_.Default p ∷ []) ∷ s) h))

  -- expressions and declarations that are statements

  value_ended : (s : Frames) (p : Place) (r : Reading) (g : Site) (ts : List Token) → At lim g r ts → ReadingReached lim r → FramesReached lim s
      → Ended s (step.Value p r)
  unfolding spec.feed_body spec.value
  value_ended s p r g ts a k h =
      inner_can_end Body Parts BodyGoes BodyEnds lim mark.Semicolon (closing_ends closer.Semicolon) g r ts a k
      (λ u. body s (step.Value p u)) (λ e. body s (step.Whole (stmt.Expr p e)))
      (λ u t next reach e. ap (λ z. spec.value_by ps s p z) (needed_goes u t closer.Semicolon next reach e))
      (λ u e q. ap (λ z. spec.value_by ps s p z) (needed_ends u (mark_token mark.Semicolon) closer.Semicolon e q (closing_closes closer.Semicolon)))
      (λ e. closes_whole s (stmt.Expr p e) h)

  return_ended : (s : Frames) (p : Place) (r : Reading) (g : Site) (ts : List Token) → At lim g r ts → Begun lim r → FramesReached lim s
      → Ended s (step.Return p r)
  unfolding spec.feed_body spec.in_return
  return_ended s p r g ts a k h =
      maybe_can_end Body Parts BodyGoes BodyEnds lim closer.Semicolon g r ts a k
      (λ u. body s (step.Return p u)) (λ v. body s (step.Whole (stmt.Return p v)))
      (λ u t next reach e. ap (λ z. spec.in_return_by ps s p z) e) (λ u t v e. ap (λ z. spec.in_return_by ps s p z) e)
      (λ v. closes_whole s (stmt.Return p v) h)

  local_ended : (s : Frames) (p : Place) (d : Declaration) (l : ℕ) (ts : List Token) → OkDeclaration lim l d ts
      → StageReached lim d.front d.stage → FramesReached lim s → Ended s (step.Local p d)
  unfolding spec.feed_body spec.local
  local_ended s p d l ts ok k h =
      inside_can_end Declaration Outcome DeclarationGoes DeclarationEnds Body Parts BodyGoes BodyEnds lim
      (λ u. body s (step.Local p u)) (λ o t. body s (step.Whole (stmt.Declare p o.0 o.1)))
      (λ u t next reach e. ap (λ z. spec.local_by ps s p z) e) (λ u t o e. ap (λ z. spec.local_by ps s p z) e)
      d (declaration_viable lim l d ts ok k) (λ o t. closes_whole s (stmt.Declare p o.0 o.1) h)

  -- the parts of a `for`

  third_ended : (s : Frames) (p : Place) (start : First) (test : Option Expr) (r : Reading) (g : Site) (ts : List Token) → At lim g r ts
      → ReadingReached lim r → FramesReached lim s → spec.inner s ≤ lim → Ended s (step.Third p start test r)
  unfolding spec.feed_body spec.in_for spec.third
  third_ended s p start test r g ts a k h i =
      maybe_can_end Body Parts BodyGoes BodyEnds lim closer.Paren g r ts a (λ e. k)
      (λ u. body s (step.Third p start test u)) (λ v. body (frame.For p start test v ∷ s) step.Begins)
      (λ u t next reach e. ap (λ z. spec.third_by ps s p start test z) e) (λ u t v e. ap (λ z. spec.third_by ps s p start test z) e)
      (λ v. begins_ended (frame.For p start test v ∷ s) (i, h))

  second_ended : (s : Frames) (p : Place) (start : First) (r : Reading) (g : Site) (ts : List Token) → At lim g r ts
      → ReadingReached lim r → FramesReached lim s → spec.inner s ≤ lim → Ended s (step.Second p start r)
  unfolding spec.feed_body spec.in_for spec.second
  second_ended s p start r g ts a k h i =
      maybe_can_end Body Parts BodyGoes BodyEnds lim closer.Semicolon g r ts a (λ e. k)
      (λ u. body s (step.Second p start u)) (λ v. body s (step.Third p start v (begin 0 (spec.inner s))))
      (λ u t next reach e. ap (λ z. spec.second_by ps s p start z) e) (λ u t v e. ap (λ z. spec.second_by ps s p start z) e)
      (λ v. third_ended s p start v (begin 0 (spec.inner s)) (site 0 (spec.inner s)) [] (begin_at lim 0 (spec.inner s) (omega arith)) i h i)

  seconds : (s : Frames) (p : Place) (start : First) → FramesReached lim s → spec.inner s ≤ lim
      → Ended s (step.Second p start (begin 0 (spec.inner s)))
  seconds s p start h i =
      second_ended s p start (begin 0 (spec.inner s)) (site 0 (spec.inner s)) [] (begin_at lim 0 (spec.inner s) (omega arith)) i h i

  start_ended : (s : Frames) (p : Place) (r : Reading) (g : Site) (ts : List Token) → At lim g r ts
      → ReadingReached lim r → FramesReached lim s → spec.inner s ≤ lim → Ended s (step.Start p r)
  unfolding spec.feed_body spec.in_for spec.start spec.specifier
  start_ended s p r g ts a k h i =
      maybe_can_end Body Parts BodyGoes BodyEnds lim closer.Semicolon g r ts a (λ e. k)
      (λ u. body s (step.Start p u)) (λ v. body s (step.Second p (spec.first_of v) (begin 0 (spec.inner s))))
      (λ u t next reach e.
      ap (λ w. spec.start_with ps s p u t w) (not_specifier u t.place t.what (turn.Goes next reach) e (goes_on next reach))
      ∙ ap (λ z. spec.start_by ps s p z) e)
      (λ u t v e.
      ap (λ w. spec.start_with ps s p u t w) (not_specifier u t.place t.what (turn.Done v) e (closed_so v))
      ∙ ap (λ z. spec.start_by ps s p z) e)
      (λ v. seconds s p (spec.first_of v) h i)

  for_ended : (s : Frames) (p : Place) → FramesReached lim s → spec.inner s ≤ lim → Ended s (step.For p)
  unfolding spec.feed_body spec.in_for spec.for_opened is_mark
  for_ended s p h i =
      ended_by (body s (step.For p)) (mark_token mark.LeftParen) (spec.steps ps s (step.Start p (begin 0 (spec.inner s))) 0) refl (
        omega arith,
        start_ended s p (begin 0 (spec.inner s)) (site 0 (spec.inner s)) [] (begin_at lim 0 (spec.inner s) (omega arith)) i h i,
      )

  declares_ended : (s : Frames) (p : Place) (d : Declaration) (l : ℕ) (ts : List Token) → OkDeclaration lim l d ts
      → StageReached lim d.front d.stage → FramesReached lim s → spec.inner s ≤ lim → Ended s (step.Declares p d)
  unfolding spec.feed_body spec.in_for spec.for_declares
  declares_ended s p d l ts ok k h i =
      inside_can_end Declaration Outcome DeclarationGoes DeclarationEnds Body Parts BodyGoes BodyEnds lim
      (λ u. body s (step.Declares p u)) (λ o t. body s (step.Second p (first.Declare o.0 o.1) (begin 0 (spec.inner s))))
      (λ u t next reach e. ap (λ z. spec.for_declares_by ps s p z) e) (λ u t o e. ap (λ z. spec.for_declares_by ps s p z) e)
      d (declaration_viable lim l d ts ok k) (λ o t. seconds s p (first.Declare o.0 o.1) h i)

  step_ended : (s : Frames) (n : BlockStage) (ts : List Token) → OkStep lim ps s n ts → FramesReached lim s → StepReached lim s n → Ended s n
  step_ended s step.Begins ts ok h k = begins_ended s h
  step_ended s (step.Whole x) ts ok h k = closes_whole s x h
  step_ended s (step.Value p r) ts ok h k = value_ended s p r (site 0 (spec.inner s)) ok.back ok.rest.0 k h
  step_ended s (step.Keyword x) ts ok h k = keyword_ended s x k (λ e. tested_ended s x e h k)
  step_ended s (step.Test x r) ts ok h k =
      test_ended s x r (site 0 (spec.inner s)) ok.0.back ok.0.rest k.1 (λ e. tested_ended s x e h k.0)
  step_ended s (step.Semicolon x) ts ok h k = semicolon_ended s x (behind_ends s x h)
  step_ended s (step.For p) ts ok h k = for_ended s p h k
  step_ended s (step.Start p r) ts ok h k = start_ended s p r (site 0 (spec.inner s)) ok.behind.back ok.behind.rest k.1 h k.0
  step_ended s (step.Declares p d) ts ok h k = declares_ended s p d (spec.inner s) ok.behind.back ok.behind.rest k.1 h k.0
  step_ended s (step.Second p start r) ts ok h k =
      second_ended s p start r (site 0 (spec.inner s)) ok.0.behind.back ok.0.behind.rest k.1 h k.0
  step_ended s (step.Third p start test r) ts ok h k =
      third_ended s p start test r (site 0 (spec.inner s)) ok.0.behind.back ok.0.behind.rest k.1 h k.0
  step_ended s (step.Braces p e) ts ok h k = braces_ended s p e h
  step_ended s (step.Case p r) ts ok h k = case_ended s ok.1 p r (site 2 (spec.level s)) ok.0.back ok.0.rest k h
  step_ended s (step.Default p) ts ok h k = default_ended s ok.1 p h
  step_ended s (step.Return p r) ts ok h k = return_ended s p r (site 0 (spec.inner s)) ok.behind.back ok.behind.rest k h
  step_ended s (step.Local p d) ts ok h k = local_ended s p d (spec.inner s) ok.0.behind.back ok.0.behind.rest.0 k h

-- what was read of a block can be ended within the limit
pub body_viable : (lim : ℕ) → (b : Body) (ts : List Token) → OkBody lim b ts → BodyReached lim b → BodyCanEnd lim b
body_viable lim b ts ok h = step_ended lim b.parts b.frames b.stage ts ok.stage h.0 h.1
