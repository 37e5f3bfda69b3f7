-- The levels that the tokens of a function's block make sure are within the limit.
use Rattle.std.proofs.Common.{ℕ, ◌≡◌, ◌≤◌, Bool, true, false, ◌&&◌, cond, [], ◌∷◌, ◌++◌, Option, Some, None, refl}
use Rattle.std.proofs.lemmas.Bool.{cond_both}
use Rattle.k_parse_steps.specs.Types.{Place, Token, TokenKind, Mark, Word, Expr, First, Part, Stmt, Reading, Fed, Read, Maybe, Declared, Frame, Tested, BlockStage, Body, Stepped}
use Rattle.k_tree.specs.declared.tokens.TokenKind.TheVariants as token
use Rattle.k_tree.specs.declared.tokens.word.Word.TheVariants as word
use Rattle.k_tree.specs.declared.tree.statement.Part.TheVariants as part_
use Rattle.k_tree.specs.Places.{stmt_place}
use Rattle.k_parse_steps.specs.Operators.{is_spec_word}
use Rattle.k_parse_steps.specs.Expressions.{begin, feed}
use Rattle.k_parse_steps.specs.declared.turn.Turn.TheVariants as turn
use Rattle.k_parse_steps.specs.Readings.{closes, read_needed, read_maybe}
use Rattle.k_parse_steps.specs.declared.reading.Closer.TheVariants as closer
use Rattle.k_parse_steps.specs.Declarations.{begin_declaration, feed_declaration}
use Rattle.k_parse_steps.specs.Statements as spec
use Rattle.k_parse_steps.specs.Statements.{Parts, Frames}
use Rattle.k_parse_steps.specs.declared.statement.Frame.TheVariants as frame
use Rattle.k_parse_steps.specs.declared.statement.Tested.TheVariants as tested
use Rattle.k_parse_steps.specs.declared.statement.BlockStage.TheVariants as step
use Rattle.k_parse_steps.proofs.DeclarationReach.{ReadStays, MaybeStays, needed_stays, maybe_stays, begin_begun, StageReached, DeclaredStays, declaration_stays}
use Rattle.k_parse_steps.proofs.ExpressionReach.{Reached}
use Rattle.k_parse_steps.proofs.ReadingReach.{Begun, feed_begun}
use Rattle.k_parse_steps.specs.Tokens.{is_mark, is_word, token_is_mark, token_is_word}
use Rattle.k_tree.specs.declared.tokens.mark.Mark.TheVariants as mark

-- a statement whose part is awaited makes a level more sure; a block doesn't, nor do the braces of a `switch`
abbrev pub FrameReached : ℕ → Frames → Frame → Type 0
FrameReached lim s (frame.Block p parts) = Unit {0}
FrameReached lim s (frame.Switch p e parts) = Unit {0}
FrameReached lim s _ = spec.inner s ≤ lim

abbrev pub FramesReached : ℕ → Frames → Type 0
FramesReached lim [] = Unit {0}
FramesReached lim (f ∷ s) = FrameReached lim s f × FramesReached lim s

abbrev pub ReadingReached : ℕ → Reading → Type 0
ReadingReached lim r = Reached lim r.site r.opens

abbrev pub StepReached : ℕ → Frames → BlockStage → Type 0
StepReached lim s (step.Value p r) = ReadingReached lim r
StepReached lim s (step.Keyword x) = spec.inner s ≤ lim
StepReached lim s (step.Test x r) = (spec.inner s ≤ lim) × ReadingReached lim r
StepReached lim s (step.For p) = spec.inner s ≤ lim
StepReached lim s (step.Start p r) = (spec.inner s ≤ lim) × ReadingReached lim r
StepReached lim s (step.Declares p d) = (spec.inner s ≤ lim) × StageReached lim d.front d.stage
StepReached lim s (step.Second p start r) = (spec.inner s ≤ lim) × ReadingReached lim r
StepReached lim s (step.Third p start test r) = (spec.inner s ≤ lim) × ReadingReached lim r
StepReached lim s (step.Case p r) = ReadingReached lim r
StepReached lim s (step.Return p r) = Begun lim r
StepReached lim s (step.Local p d) = StageReached lim d.front d.stage
StepReached lim s _ = Unit {0}

abbrev pub BodyReached : ℕ → Body → Type 0
BodyReached lim b = FramesReached lim b.frames × StepReached lim b.frames b.stage

abbrev pub BodyStays : ℕ → Stepped → Type 0
BodyStays lim (turn.Goes b reach) = reach ≤ lim → BodyReached lim b
BodyStays lim _ = Unit {0}

module _ (lim : ℕ) (ps : Parts) where
  -- the first token of a statement

  first_stays : (s : Frames) (p : Place) (x : Fed) → FramesReached lim s
      → ((next : Reading) (reach : ℕ) → x ≡ turn.Goes next reach → reach ≤ lim → ReadingReached lim next)
      → BodyStays lim (spec.expression_by ps s p x)
  first_stays s p (turn.Goes r reach) h k = λ le. (h, k r reach refl le)
  first_stays s p (turn.Done e) h k = tt
  first_stays s p turn.Refused h k = tt

  expression_stays : (s : Frames) (t : Token) → FramesReached lim s → BodyStays lim (spec.expression ps s t)
  unfolding spec.expression
  expression_stays s t h =
      first_stays s t.place (feed (begin 0 (spec.inner s)) t) h
      (λ next reach e le. (feed_begun lim (begin 0 (spec.inner s)) t next reach (begin_begun lim 0 (spec.inner s)) e le).1)

  declares_stays : (s : Frames) (w : Word) (p : Place) → FramesReached lim s → BodyStays lim (spec.declares ps s w p)
  unfolding spec.declares
  declares_stays s w p h =
      cond_both (is_spec_word w && spec.is_in_block s)
      (spec.steps ps s (step.Local p (begin_declaration w (spec.inner s))) (spec.level s)) turn.Refused (BodyStays lim)
      (λ e reach. (h, tt)) (λ e. tt)

  case_begins_stays : (s : Frames) (p : Place) → FramesReached lim s → BodyStays lim (spec.case_begins ps s p)
  unfolding spec.case_begins
  case_begins_stays s p h =
      cond_both (spec.is_in_switch s) (spec.steps ps s (step.Case p (begin 2 (spec.level s))) (spec.level s)) turn.Refused (BodyStays lim)
      (λ e reach. (h, reach)) (λ e. tt)

  default_begins_stays : (s : Frames) (p : Place) → FramesReached lim s → BodyStays lim (spec.default_begins ps s p)
  unfolding spec.default_begins
  default_begins_stays s p h =
      cond_both (spec.is_in_switch s) (spec.steps ps s (step.Default p) 0) turn.Refused (BodyStays lim) (λ e reach. (h, tt)) (λ e. tt)

  jump_stays : (s : Frames) (w : Word) (p : Place) → FramesReached lim s → BodyStays lim (spec.jump ps s w p)
  unfolding spec.jump
  jump_stays s word.If p h = λ reach. (h, reach)
  jump_stays s word.While p h = λ reach. (h, reach)
  jump_stays s word.Do p h = λ reach. ((reach, h), tt)
  jump_stays s word.For p h = λ reach. (h, reach)
  jump_stays s word.Switch p h = λ reach. (h, reach)
  jump_stays s word.Case p h = case_begins_stays s p h
  jump_stays s word.Default p h = default_begins_stays s p h
  jump_stays s word.Break p h = λ reach. (h, tt)
  jump_stays s word.Continue p h = λ reach. (h, tt)
  jump_stays s word.Return p h = λ reach. (h, begin_begun lim 0 (spec.inner s))
  jump_stays s _ p h = tt

  keyword_stays : (s : Frames) (w : Word) (p : Place) → FramesReached lim s → BodyStays lim (spec.keyword ps s w p)
  unfolding spec.keyword
  keyword_stays s w p h =
      cond_both (is_spec_word w) (spec.declares ps s w p) (spec.jump ps s w p) (BodyStays lim) (λ e. declares_stays s w p h) (λ e. jump_stays s w p h)

  block_ends_stays : (s : Frames) → FramesReached lim s → BodyStays lim (spec.block_ends ps s)
  unfolding spec.block_ends
  block_ends_stays [] h = tt
  block_ends_stays (frame.Block p parts ∷ s) h = λ reach. (h.1, tt)
  block_ends_stays (frame.Switch p e parts ∷ s) h = λ reach. (h.1, tt)
  block_ends_stays (_ ∷ s) h = tt

  mark_stays : (s : Frames) (t : Token) (m : Mark) → FramesReached lim s → BodyStays lim (spec.mark_begins ps s t m)
  unfolding spec.mark_begins
  mark_stays s t m h =
      cond_both (is_mark m mark.Semicolon) (spec.empty ps s t.place)
      (cond (is_mark m mark.LeftBrace) (spec.block_begins ps s t.place) (cond (is_mark m mark.RightBrace) (spec.block_ends ps s) (spec.expression ps s t)))
      (BodyStays lim) (λ e reach. (h, tt))
      (λ e. cond_both (is_mark m mark.LeftBrace) (spec.block_begins ps s t.place) (cond (is_mark m mark.RightBrace) (spec.block_ends ps s) (spec.expression ps s t))
      (BodyStays lim) (λ q reach. ((tt, h), tt))
      (λ q. cond_both (is_mark m mark.RightBrace) (spec.block_ends ps s) (spec.expression ps s t) (BodyStays lim)
      (λ k. block_ends_stays s h) (λ k. expression_stays s t h)))

  kind_stays : (s : Frames) (t : Token) (k : TokenKind) → FramesReached lim s → BodyStays lim (spec.begins_by ps s t k)
  kind_stays s t (token.Mark m) h = mark_stays s t m h
  kind_stays s t (token.Word w) h =
      cond_both (is_word w word.Sizeof) (spec.expression ps s t) (spec.keyword ps s w t.place) (BodyStays lim)
      (λ e. expression_stays s t h) (λ e. keyword_stays s w t.place h)
  kind_stays s t k h = expression_stays s t h

  begins_stays : (s : Frames) (t : Token) → FramesReached lim s → BodyStays lim (spec.begins ps s t)
  unfolding spec.begins
  begins_stays s t h = kind_stays s t t.what h

  -- expressions and declarations

  value_stays : (s : Frames) (p : Place) (x : Read) → FramesReached lim s → ReadStays lim x → BodyStays lim (spec.value_by ps s p x)
  value_stays s p (turn.Goes r reach) h k = λ le. (h, k le)
  value_stays s p (turn.Done e) h k = λ le. (h, tt)
  value_stays s p turn.Refused h k = tt

  in_return_stays : (s : Frames) (p : Place) (x : Maybe) → FramesReached lim s → MaybeStays lim x → BodyStays lim (spec.in_return_by ps s p x)
  in_return_stays s p (turn.Goes r reach) h k = λ le. (h, λ e. k le)
  in_return_stays s p (turn.Done e) h k = λ le. (h, tt)
  in_return_stays s p turn.Refused h k = tt

  local_stays : (s : Frames) (p : Place) (x : Declared) → FramesReached lim s → DeclaredStays lim x → BodyStays lim (spec.local_by ps s p x)
  local_stays s p (turn.Goes d reach) h k = λ le. (h, k le)
  local_stays s p (turn.Done (specs, list)) h k = λ le. (h, tt)
  local_stays s p turn.Refused h k = tt

  semicolon_stays : (s : Frames) (x : Stmt) (t : Token) → FramesReached lim s → BodyStays lim (spec.semicolon ps s x t)
  unfolding spec.semicolon
  semicolon_stays s x t h =
      cond_both (closes t closer.Semicolon) (spec.whole ps s x) turn.Refused (BodyStays lim) (λ e le. (h, tt)) (λ e. tt)

  opened_stays : (s : Frames) (x : Tested) (t : Token) → FramesReached lim s → spec.inner s ≤ lim → BodyStays lim (spec.opened ps s x t)
  unfolding spec.opened
  opened_stays s x t h i =
      cond_both (token_is_mark t.what mark.LeftParen) (spec.steps ps s (step.Test x (begin 0 (spec.inner s))) 0) turn.Refused (BodyStays lim)
      (λ e le. (h, (i, i))) (λ e. tt)

  test_stays : (s : Frames) (x : Tested) (y : Read) → FramesReached lim s → spec.inner s ≤ lim → ReadStays lim y
      → BodyStays lim (spec.test_by ps s x y)
  unfolding spec.test_done
  test_stays s x (turn.Goes r reach) h i k = λ le. (h, (i, k le))
  test_stays s (tested.If p) (turn.Done e) h i k = λ le. ((i, h), tt)
  test_stays s (tested.While p) (turn.Done e) h i k = λ le. ((i, h), tt)
  test_stays s (tested.Switch p) (turn.Done e) h i k = λ le. (h, tt)
  test_stays s (tested.Do p b) (turn.Done e) h i k = λ le. (h, tt)
  test_stays s x turn.Refused h i k = tt

  -- the token behind a statement

  do_stays : (s : Frames) (p : Place) (x : Stmt) (t : Token) → FramesReached lim s → spec.inner s ≤ lim
      → BodyStays lim (spec.do_while ps s p x t)
  unfolding spec.do_while
  do_stays s p x t h i =
      cond_both (token_is_word t.what word.While) (spec.steps ps s (step.Keyword (tested.Do p x)) 0) turn.Refused (BodyStays lim)
      (λ e le. (h, i)) (λ e. tt)

  closed_stays : (s : Frames) (f : Frame) (x : Stmt) (other : Bool) (t : Token) (again : Stmt → Stepped) → FramesReached lim (f ∷ s)
      → ((y : Stmt) → BodyStays lim (again y)) → BodyStays lim (spec.closed_by ps s (spec.close f x other) t again)
  unfolding spec.close spec.part spec.more spec.more_switched
  closed_stays s (frame.Then p e) x true t again h k = λ le. (h, tt)
  closed_stays s (frame.Then p e) x false t again h k = k _
  closed_stays s (frame.Else p e a) x other t again h k = k _
  closed_stays s (frame.While p e) x other t again h k = k _
  closed_stays s (frame.For p start test third) x other t again h k = k _
  closed_stays s (frame.Do p) x other t again h k = do_stays s p x t h.1 h.0
  closed_stays s (frame.Block p parts) x other t again h k = begins_stays (frame.Block p (parts ++ x ∷ []) ∷ s) t (tt, h.1)
  closed_stays s (frame.Switch p e parts) x other t again h k =
      begins_stays (frame.Switch p e (parts ++ part_.Does (stmt_place x) x ∷ []) ∷ s) t (tt, h.1)

  -- the parts of a `for`

  for_opened_stays : (s : Frames) (p : Place) (t : Token) → FramesReached lim s → spec.inner s ≤ lim → BodyStays lim (spec.for_opened ps s p t)
  unfolding spec.for_opened
  for_opened_stays s p t h i =
      cond_both (token_is_mark t.what mark.LeftParen) (spec.steps ps s (step.Start p (begin 0 (spec.inner s))) 0) turn.Refused (BodyStays lim)
      (λ e le. (h, (i, i))) (λ e. tt)

  start_stays : (s : Frames) (p : Place) (r : Reading) (t : Token) (w : Option Word) → FramesReached lim s → spec.inner s ≤ lim
      → ReadingReached lim r → BodyStays lim (spec.start_with ps s p r t w)
  start_stays s p r t (Some w) h i k = λ le. (h, (i, tt))
  start_stays s p r t None h i k = by (read_maybe r t closer.Semicolon) (maybe_stays lim r t closer.Semicolon (λ e. k))
    where
      by : (x : Maybe) → MaybeStays lim x → BodyStays lim (spec.start_by ps s p x)
      by (turn.Goes u reach) m = λ le. (h, (i, m le))
      by (turn.Done e) m = λ le. (h, (i, i))
      by turn.Refused m = tt

  for_declares_stays : (s : Frames) (p : Place) (x : Declared) → FramesReached lim s → spec.inner s ≤ lim → DeclaredStays lim x
      → BodyStays lim (spec.for_declares_by ps s p x)
  for_declares_stays s p (turn.Goes d reach) h i k = λ le. (h, (i, k le))
  for_declares_stays s p (turn.Done (specs, list)) h i k = λ le. (h, (i, i))
  for_declares_stays s p turn.Refused h i k = tt

  second_stays : (s : Frames) (p : Place) (start : First) (x : Maybe) → FramesReached lim s → spec.inner s ≤ lim → MaybeStays lim x
      → BodyStays lim (spec.second_by ps s p start x)
  second_stays s p start (turn.Goes r reach) h i k = λ le. (h, (i, k le))
  second_stays s p start (turn.Done e) h i k = λ le. (h, (i, i))
  second_stays s p start turn.Refused h i k = tt

  third_stays : (s : Frames) (p : Place) (start : First) (test : Option Expr) (x : Maybe) → FramesReached lim s → spec.inner s ≤ lim
      → MaybeStays lim x → BodyStays lim (spec.third_by ps s p start test x)
  third_stays s p start test (turn.Goes r reach) h i k = λ le. (h, (i, k le))
  third_stays s p start test (turn.Done e) h i k = λ le. ((i, h), tt)
  third_stays s p start test turn.Refused h i k = tt

  -- the braces of a `switch`

  braces_stays : (s : Frames) (p : Place) (e : Expr) (t : Token) → FramesReached lim s → BodyStays lim (spec.braces ps s p e t)
  unfolding spec.braces
  braces_stays s p e t h =
      cond_both (token_is_mark t.what mark.LeftBrace) (spec.await_part ps s (frame.Switch p e []) 0) turn.Refused (BodyStays lim) (λ q le. ((tt, h), tt)) (λ q. tt)

  labelled_stays : (s : Frames) (x : Part) → FramesReached lim s → BodyStays lim (spec.labelled ps s x)
  unfolding spec.labelled
  labelled_stays [] x h = tt
  labelled_stays (frame.Switch p e parts ∷ s) x h = λ le. (h, tt)
  labelled_stays (_ ∷ s) x h = tt

  case_stays : (s : Frames) (p : Place) (x : Read) → FramesReached lim s → ReadStays lim x → BodyStays lim (spec.case_by ps s p x)
  case_stays s p (turn.Goes r reach) h k = λ le. (h, k le)
  case_stays s p (turn.Done e) h k = labelled_stays s (part_.Case p e) h
  case_stays s p turn.Refused h k = tt

  default_stays : (s : Frames) (p : Place) (t : Token) → FramesReached lim s → BodyStays lim (spec.default_label ps s p t)
  unfolding spec.default_label
  default_stays s p t h =
      cond_both (closes t closer.Colon) (spec.labelled ps s (part_.Default p)) turn.Refused (BodyStays lim)
      (λ e. labelled_stays s (part_.Default p) h) (λ e. tt)

behind_stays : (lim : ℕ) → (ps : Parts) (s : Frames) (x : Stmt) (t : Token) → FramesReached lim s → BodyStays lim (spec.behind ps s x t)
unfolding spec.behind
behind_stays lim ps [] x t h = begins_stays lim (ps ++ x ∷ []) [] t h
behind_stays lim ps (f ∷ s) x t h =
    closed_stays lim ps s f x (token_is_word t.what word.Else) t (λ y. spec.behind ps s y t) h (λ y. behind_stays lim ps s y t h.1)

step_stays : (lim : ℕ) → (ps : Parts) (s : Frames) (n : BlockStage) (t : Token) → FramesReached lim s → StepReached lim s n
    → BodyStays lim (spec.stage_fed ps s n t)
unfolding spec.value spec.test spec.in_return spec.local spec.in_for spec.start spec.for_declares spec.second spec.third spec.in_switch spec.case_value
step_stays lim ps s step.Begins t h k = begins_stays lim ps s t h
step_stays lim ps s (step.Whole x) t h k = behind_stays lim ps s x t h
step_stays lim ps s (step.Value p r) t h k =
    value_stays lim ps s p (read_needed r t closer.Semicolon) h (needed_stays lim r t closer.Semicolon (λ e. k))
step_stays lim ps s (step.Keyword x) t h k = opened_stays lim ps s x t h k
step_stays lim ps s (step.Test x r) t h k =
    test_stays lim ps s x (read_needed r t closer.Paren) h k.0 (needed_stays lim r t closer.Paren (λ e. k.1))
step_stays lim ps s (step.Semicolon x) t h k = semicolon_stays lim ps s x t h
step_stays lim ps s (step.Return p r) t h k =
    in_return_stays lim ps s p (read_maybe r t closer.Semicolon) h (maybe_stays lim r t closer.Semicolon k)
step_stays lim ps s (step.Local p d) t h k = local_stays lim ps s p (feed_declaration d t) h (declaration_stays lim d t k)
step_stays lim ps s (step.For p) t h k = for_opened_stays lim ps s p t h k
step_stays lim ps s (step.Start p r) t h k = start_stays lim ps s p r t (spec.specifier r t) h k.0 k.1
step_stays lim ps s (step.Declares p d) t h k =
    for_declares_stays lim ps s p (feed_declaration d t) h k.0 (declaration_stays lim d t k.1)
step_stays lim ps s (step.Second p start r) t h k =
    second_stays lim ps s p start (read_maybe r t closer.Semicolon) h k.0 (maybe_stays lim r t closer.Semicolon (λ e. k.1))
step_stays lim ps s (step.Third p start test r) t h k =
    third_stays lim ps s p start test (read_maybe r t closer.Paren) h k.0 (maybe_stays lim r t closer.Paren (λ e. k.1))
step_stays lim ps s (step.Braces p e) t h k = braces_stays lim ps s p e t h
step_stays lim ps s (step.Case p r) t h k =
    case_stays lim ps s p (read_needed r t closer.Colon) h (needed_stays lim r t closer.Colon (λ e. k))
step_stays lim ps s (step.Default p) t h k = default_stays lim ps s p t h

-- a token within the limit keeps it so
pub body_stays : (lim : ℕ) → (b : Body) (t : Token) → BodyReached lim b → BodyStays lim (spec.feed_body b t)
unfolding spec.feed_body
body_stays lim b t h = step_stays lim b.parts b.frames b.stage t h.0 h.1
