-- Viable: parameters that have been read so far can be ended within the limit.
use Rattle.std.proofs.Common.{ℕ, ◌≡◌, ◌≤◌, Bool, true, false, ◌&&◌, cond, nat_eq, List, [], ◌∷◌, ◌++◌, length, None, ap, refl, arith}
use Rattle.std.proofs.lemmas.Bool.{cond_both}
use Rattle.k_parse_steps.specs.Types.{Place, Token, TokenKind, Mark, Param, Params, Stars, Reading, Maybe, ParameterStage, Parameters, Parametric}
use Rattle.k_tree.specs.Bare.{nowhere}
use Rattle.k_tree.specs.declared.tokens.TokenKind.TheVariants as token
use Rattle.k_tree.specs.declared.tokens.mark.Mark.TheVariants as mark
use Rattle.k_tree.specs.declared.tokens.word.Word.TheVariants as word_
use Rattle.k_tree.specs.declared.tree.declaration.Params.TheVariants as params
use Rattle.k_parse_steps.specs.Operators.{is_spec_word}
use Rattle.k_parse_steps.specs.Stars.{no_stars, star}
use Rattle.k_parse_steps.specs.Expressions.{begin}
use Rattle.k_parse_steps.specs.Readings.{read_maybe}
use Rattle.k_parse_steps.specs.declared.reading.Closer.TheVariants as closer
use Rattle.k_parse_steps.specs.declared.turn.Turn.TheVariants as turn
use Rattle.k_parse_steps.specs.Parameters as spec
use Rattle.k_parse_steps.specs.declared.parameter.ParameterStage.TheVariants as part_
use Rattle.k_parse_steps.proofs.DeclarationReach.{MaybeStays, maybe_stays, begin_begun}
use Rattle.k_parse_steps.proofs.ExpressionViable.{mark_token}
use Rattle.k_parse_steps.proofs.ParameterSound.{OkParameters, OkPart}
use Rattle.k_parse_steps.proofs.ReadingReach.{Begun}
use Rattle.k_parse_steps.proofs.ReadingSound.{At, site}
use Rattle.k_parse_steps.proofs.ReadingViable.{maybe_can_end}
use Rattle.k_parse_steps.proofs.Runs.{run_ends, CanEnd, goes_then}
use Rattle.k_parse_steps.proofs.TypeWords.{word_split}
use Rattle.k_parse_steps.specs.Tokens.{is_mark}

-- what a part makes sure
abbrev pub PartReached : ℕ → ParameterStage → Type 0
PartReached lim (part_.Size p r) = Begun lim r
PartReached lim _ = Unit {0}

abbrev pub ParametricStays : ℕ → Parametric → Type 0
ParametricStays lim (turn.Goes ps reach) = reach ≤ lim → PartReached lim ps.stage
ParametricStays lim _ = Unit {0}

module _ (lim : ℕ) where
  cond_stays : (b : Bool) (x y : Parametric) → (b ≡ true → ParametricStays lim x) → (b ≡ false → ParametricStays lim y)
      → ParametricStays lim (cond b x y)
  cond_stays b x y h k = cond_both b x y (ParametricStays lim) h k

  none_stays : (list : List Param) → ParametricStays lim (spec.none list)
  unfolding spec.none
  none_stays [] = tt
  none_stays (p ∷ list) = tt

  first_stays : (list : List Param) (p : Place) (k : TokenKind) → ParametricStays lim (spec.kind_first list p k)
  unfolding spec.starts spec.mark_first
  first_stays list p (token.Word w) =
      cond_stays (is_spec_word w)
      (spec.follows list (part_.Typed (record { place = p; specs = w ∷ []; stars = []; name = None; dims = [] }) no_stars) 0)
      turn.Refused (λ e reach. tt) (λ e. tt)
  first_stays list p (token.Mark mark.RightParen) = none_stays list
  first_stays list p _ = tt

  end_stays : (list : List Param) (p : Param) (m : Mark) → ParametricStays lim (spec.end list p m)
  unfolding spec.end
  end_stays list p mark.Comma = λ reach. tt
  end_stays list p mark.RightParen =
      cond_stays (nat_eq (length list) 0 && spec.is_void_alone p) (turn.Done params.Void)
      (turn.Done (params.List (list ++ p ∷ []))) (λ e. tt) (λ e. tt)
  end_stays list p _ = tt

  named_stays : (list : List Param) (p : Param) (m : Mark) → ParametricStays lim (spec.named list p m)
  unfolding spec.named
  named_stays list p m =
      cond_stays (is_mark m mark.LeftBracket) (spec.follows list (part_.Size p (begin 2 1)) 0) (spec.end list p m) (λ e reach. begin_begun lim 2 1)
      (λ e. end_stays list p m)

  kind_named_stays : (list : List Param) (p : Param) (k : TokenKind) → ParametricStays lim (spec.kind_named list p k)
  kind_named_stays list p (token.Mark m) = named_stays list p m
  kind_named_stays list p _ = tt

  typed_stays : (list : List Param) (p : Param) (stars : Stars) (k : TokenKind) → ParametricStays lim (spec.kind_typed list p stars k)
  unfolding spec.word spec.name spec.mark_typed
  typed_stays list p stars (token.Word w) =
      word_split (λ x. ParametricStays lim (spec.word_by list p x)) p.specs stars true w (λ e q reach. tt) (λ e q m r reach. tt) tt
  typed_stays list p stars (token.Name x) = λ reach. tt
  typed_stays list p stars (token.Mark m) =
      cond_stays (is_mark m mark.Star) (spec.follows list (part_.Typed p (star stars)) 0) (spec.named list (spec.starred p stars) m) (λ e reach. tt)
      (λ e. named_stays list (spec.starred p stars) m)
  typed_stays list p stars _ = tt

  size_stays : (list : List Param) (p : Param) (x : Maybe) → MaybeStays lim x → ParametricStays lim (spec.size_by list p x)
  size_stays list p (turn.Goes r reach) h = λ le e. h le
  size_stays list p (turn.Done v) h = λ le. tt
  size_stays list p turn.Refused h = tt

  part_stays : (list : List Param) (n : ParameterStage) (t : Token) → PartReached lim n → ParametricStays lim (spec.stage_fed list n t)
  unfolding spec.first_token spec.typed spec.size
  part_stays list part_.Starts t h = first_stays list t.place t.what
  part_stays list (part_.Typed p stars) t h = typed_stays list p stars t.what
  part_stays list (part_.Named p) t h = kind_named_stays list p t.what
  part_stays list (part_.Size p r) t h = size_stays list p (read_maybe r t closer.Bracket) (maybe_stays lim r t closer.Bracket h)

-- a token within the limit keeps it so
pub parameters_stay : (lim : ℕ) → (ps : Parameters) (t : Token) → PartReached lim ps.stage
    → ParametricStays lim (spec.feed_parameters ps t)
unfolding spec.feed_parameters
parameters_stay lim ps t h = part_stays lim ps.list ps.stage t h

abbrev pub ParametersGo : Parameters → Token → Parameters → ℕ → Type 0
ParametersGo ps t next reach = spec.feed_parameters ps t ≡ turn.Goes next reach

abbrev pub ParametersEnd : Parameters → Token → Params → Type 0
ParametersEnd ps t o = spec.feed_parameters ps t ≡ turn.Done o

abbrev pub ParametersCanEnd : ℕ → Parameters → Type 0
ParametersCanEnd lim = CanEnd Parameters Params ParametersGo ParametersEnd lim

module _ (lim : ℕ) (list : List Param) where
  -- `)` behind a parameter
  end_by : (p : Param) → (n : ParameterStage) → (b : Bool)
      → spec.feed_parameters (record { list = list; stage = n }) (mark_token mark.RightParen)
      ≡ cond b (turn.Done params.Void) (turn.Done (params.List (list ++ p ∷ [])))
      → ParametersCanEnd lim (record { list = list; stage = n })
  end_by p n true e = (mark_token mark.RightParen ∷ [], params.Void, run_ends _ (mark_token mark.RightParen) params.Void e)
  end_by p n false e = (
    mark_token mark.RightParen ∷ [],
    params.List (list ++ p ∷ []),
    run_ends _ (mark_token mark.RightParen) (params.List (list ++ p ∷ [])) e,
  )

  named_ended : (p : Param) → ParametersCanEnd lim (record { list = list; stage = part_.Named p })
  unfolding spec.feed_parameters spec.named spec.end is_mark
  named_ended p = end_by p (part_.Named p) (nat_eq (length list) 0 && spec.is_void_alone p) refl

  typed_ended : (p : Param) (stars : Stars) → ParametersCanEnd lim (record { list = list; stage = part_.Typed p stars })
  unfolding spec.feed_parameters spec.typed spec.mark_typed spec.named spec.end is_mark
  typed_ended p stars =
      end_by (spec.starred p stars) (part_.Typed p stars) (nat_eq (length list) 0 && spec.is_void_alone (spec.starred p stars)) refl

  int : Token
  int = record { what = token.Word word_.Int; place = nowhere }

  -- `int )`
  starts_ended : ParametersCanEnd lim (record { list = list; stage = part_.Starts })
  unfolding spec.feed_parameters spec.first_token spec.starts is_spec_word int
  starts_ended =
      let p : Param = record { place = nowhere; specs = word_.Int ∷ []; stars = []; name = None; dims = [] } in
      goes_then Parameters Params ParametersGo ParametersEnd lim (record { list = list; stage = part_.Starts })
      (record { list = list; stage = part_.Typed p no_stars }) int 0 refl (omega arith) (typed_ended p no_stars)

  size_ended : (p : Param) (r : Reading) (ts : List Token) → At lim (site 2 1) r ts → Begun lim r
      → ParametersCanEnd lim (record { list = list; stage = part_.Size p r })
  unfolding spec.feed_parameters spec.size
  size_ended p r ts a h =
      maybe_can_end Parameters Params ParametersGo ParametersEnd lim closer.Bracket (site 2 1) r ts a h
      (λ u. record { list = list; stage = part_.Size p u }) (λ v. record { list = list; stage = part_.Named (record p { dims = p.dims ++ v ∷ [] }) })
      (λ u t next reach e. ap (λ z. spec.size_by list p z) e) (λ u t v e. ap (λ z. spec.size_by list p z) e)
      (λ v. named_ended (record p { dims = p.dims ++ v ∷ [] }))

  part_ended : (n : ParameterStage) (ts : List Token) → OkPart lim list n ts → PartReached lim n → ParametersCanEnd lim (record { list = list; stage = n })
  part_ended part_.Starts ts k h = starts_ended
  part_ended (part_.Typed p stars) ts k h = typed_ended p stars
  part_ended (part_.Named p) ts k h = named_ended p
  part_ended (part_.Size p r) ts k h = size_ended p r _ k.behind.rest.0.rest h

-- what was read of parameters can be ended within the limit
pub parameters_viable : (lim : ℕ) → (ps : Parameters) (ts : List Token) → OkParameters lim ps ts → PartReached lim ps.stage
    → ParametersCanEnd lim ps
parameters_viable lim ps ts ok h = part_ended lim ps.list ps.stage ts ok.stage h
