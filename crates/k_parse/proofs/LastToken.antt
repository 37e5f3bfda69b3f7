-- Behind the end of a source no reading goes on.
use Rattle.std.proofs.Common.{ℕ, ◌≡◌, ◌+◌, ◌<◌, false, ◌&&◌, cond, List, [], ◌∷◌, ◌++◌, length, get_or, drop, None, refl, sym, ap, subst, ◌∙◌}
use Rattle.std.proofs.Math.Bool.{and-false}
use Rattle.k_parse_steps.specs.Types.{Place, Token, Stmt, Fed, Sourced, Param, Item}
use Rattle.k_parse_steps.specs.declared.expression.Term.{Term}
use Rattle.k_parse_steps.specs.declared.expression.ExpressionStage.{ExpressionStage}
use Rattle.k_parse_steps.specs.declared.expression.Site.{Site}
use Rattle.k_parse_steps.specs.declared.expression.Reading.{Reading}
use Rattle.k_parse_steps.specs.declared.expression.plug.Plugged.{Plugged}
use Rattle.k_parse_steps.specs.declared.reading.Closer.{Closer}
use Rattle.k_parse_steps.specs.declared.declaration.Front.{Front}
use Rattle.k_parse_steps.specs.declared.declaration.DeclarationStage.{DeclarationStage}
use Rattle.k_parse_steps.specs.declared.declaration.Declaration.{Declaration}
use Rattle.k_parse_steps.specs.declared.declaration.initialiser.Opened.{Opened}
use Rattle.k_parse_steps.specs.declared.parameter.ParameterStage.{ParameterStage}
use Rattle.k_parse_steps.specs.declared.parameter.Parameters.{Parameters}
use Rattle.k_parse_steps.specs.declared.statement.Frame.{Frame}
use Rattle.k_parse_steps.specs.declared.statement.BlockStage.{BlockStage}
use Rattle.k_parse_steps.specs.declared.statement.Body.{Body}
use Rattle.k_parse_steps.specs.declared.source.SourceStage.{SourceStage}
use Rattle.k_parse_steps.specs.declared.source.Source.{Source}
use Rattle.k_tree.specs.declared.tokens.TokenKind.TheVariants as token
use Rattle.k_tree.specs.declared.tree.statement.Part.TheVariants as labels
use Rattle.k_parse_steps.specs.Expressions as expressions
use Rattle.k_parse_steps.specs.Expressions.{Opens}
use Rattle.k_parse_steps.specs.Readings as readings
use Rattle.k_parse_steps.specs.Declarations as declarations
use Rattle.k_parse_steps.specs.Parameters as parameters
use Rattle.k_parse_steps.specs.Statements as statements
use Rattle.k_parse_steps.specs.Statements.{Parts, Frames}
use Rattle.k_parse_steps.specs.Sources as sources
use Rattle.k_parse_steps.specs.declared.expression.ExpressionStage.TheVariants as now
use Rattle.k_parse_steps.specs.declared.turn.Turn.TheVariants as turn
use Rattle.k_parse_steps.specs.declared.expression.plug.Plugged.TheVariants as plugged
use Rattle.k_parse_steps.specs.declared.reading.Closer.TheVariants as closer
use Rattle.k_parse_steps.specs.declared.declaration.DeclarationStage.TheVariants as stage
use Rattle.k_parse_steps.specs.Initialisers as inits
use Rattle.k_parse_steps.specs.declared.parameter.ParameterStage.TheVariants as part_
use Rattle.k_parse_steps.specs.declared.statement.Frame.TheVariants as frame
use Rattle.k_parse_steps.specs.declared.statement.BlockStage.TheVariants as step
use Rattle.k_parse_steps.specs.declared.source.SourceStage.TheVariants as phase
use Rattle.k_tree.specs.Closed.{EndsOnce}
use Rattle.k_parse_steps.proofs.CompleteLeads.{token_at}
use Rattle.k_parse.proofs.Turns.{drop_here}

-- an expression does not go on
abbrev pub FedStops : Fed → Type 0
FedStops (turn.Goes r reach) = ⊥
FedStops _ = Unit {0}

-- a source does not go on
abbrev pub SourcedStops : Sourced → Type 0
SourcedStops (turn.Goes s reach) = ⊥
SourcedStops _ = Unit {0}

module _ (p : Place) where
  -- the end of the source
  abbrev pub end : Token
  end = token_at p token.End

  plugged_stops : (g : Site) (s : Opens) (x : Plugged) (again : Term → Fed) → ((a : Term) → FedStops (again a))
      → FedStops (expressions.closed_by g s x token.End again)
  plugged_stops g s (plugged.Whole a) again h = h a
  plugged_stops g s (plugged.Part o a) again h = tt

  value_stops : (g : Site) (s : Opens) (a : Term) → FedStops (expressions.value g s a end)
  unfolding expressions.value
  value_stops g [] a = tt
  value_stops g (o ∷ s) a = plugged_stops g s (expressions.plug o a) (λ b. expressions.value g s b end) (λ b. value_stops g s b)

  now_stops : (g : Site) (s : Opens) (n : ExpressionStage) → FedStops (expressions.stage_fed g s n end)
  unfolding expressions.operand expressions.named expressions.in_type
  now_stops g s now.Operand = tt
  now_stops g s (now.Named q name) = value_stops g s _
  now_stops g s (now.Type specs stars) = tt
  now_stops g s (now.Value a) = value_stops g s a

  feed_stops : (r : Reading) → FedStops (expressions.feed r end)
  unfolding expressions.feed
  feed_stops r = now_stops r.site r.opens r.stage

  read_refused : (f : Fed) → FedStops f → readings.read_by f false ≡ turn.Refused
  read_refused (turn.Goes r reach) h = absurd h
  read_refused (turn.Done e) h = refl
  read_refused turn.Refused h = refl

  needed_refused : (r : Reading) (c : Closer) → readings.read_needed r end c ≡ turn.Refused
  unfolding readings.read_needed readings.closes
  needed_refused r c = read_refused (expressions.feed r end) (feed_stops r)

  not_closed : (c : Closer) → readings.closes end c ≡ false
  unfolding readings.closes
  not_closed c = refl

  maybe_refused : (r : Reading) (c : Closer) → readings.read_maybe r end c ≡ turn.Refused
  unfolding readings.read_maybe
  maybe_refused r c =
      ap (λ b. cond (readings.is_fresh r && b) (turn.Done None) (readings.maybe_by (readings.read_needed r end c))) (not_closed c)
      ∙ ap (λ b. cond b (turn.Done None) (readings.maybe_by (readings.read_needed r end c))) (and-false (readings.is_fresh r))
      ∙ ap readings.maybe_by (needed_refused r c)

  -- declarations

  first_refused : (f : Front) (o : Opened) (x : Fed) → FedStops x → declarations.first_by f o p x ≡ turn.Refused
  first_refused f o (turn.Goes r reach) h = absurd h
  first_refused f o (turn.Done e) h = refl
  first_refused f o turn.Refused h = refl

  after_refused : (f : Front) (o : Opened) → declarations.after f o end ≡ turn.Refused
  unfolding declarations.after
  after_refused f o = refl

  value_refused : (f : Front) (o : Opened) (q : Place) (x : Fed) → FedStops x → declarations.value_by f o q x end ≡ turn.Refused
  value_refused f o q (turn.Goes r reach) h = absurd h
  value_refused f o q (turn.Done e) h = after_refused f _
  value_refused f o q turn.Refused h = refl

  stage_refused : (f : Front) (s : DeclarationStage) → declarations.stage_fed f s end ≡ turn.Refused
  unfolding declarations.before declarations.size declarations.starts declarations.first_token declarations.value
  stage_refused f (stage.Before stars) = refl
  stage_refused f (stage.Named d) = refl
  stage_refused f (stage.Size d r) = ap (declarations.size_by f d) (maybe_refused r closer.Bracket)
  stage_refused f (stage.Starts d s) = first_refused f (inits.opened d s) (expressions.feed _ end) (feed_stops _)
  stage_refused f (stage.Value d s q r) = value_refused f (inits.opened d s) q (expressions.feed r end) (feed_stops r)
  stage_refused f (stage.After d s) = after_refused f (inits.opened d s)

  declaration_refused : (d : Declaration) → declarations.feed_declaration d end ≡ turn.Refused
  unfolding declarations.feed_declaration
  declaration_refused d = stage_refused d.front d.stage

  -- parameters

  part_refused : (list : List Param) (x : ParameterStage) → parameters.stage_fed list x end ≡ turn.Refused
  unfolding parameters.first_token parameters.typed parameters.size
  part_refused list part_.Starts = refl
  part_refused list (part_.Typed q stars) = refl
  part_refused list (part_.Named q) = refl
  part_refused list (part_.Size q r) = ap (parameters.size_by list q) (maybe_refused r closer.Bracket)

  parameters_refused : (ps : Parameters) → parameters.feed_parameters ps end ≡ turn.Refused
  unfolding parameters.feed_parameters
  parameters_refused ps = part_refused ps.list ps.stage

  -- statements

  expression_refused : (ps : Parts) (s : Frames) (x : Fed) → FedStops x → statements.expression_by ps s p x ≡ turn.Refused
  expression_refused ps s (turn.Goes r reach) h = absurd h
  expression_refused ps s (turn.Done e) h = refl
  expression_refused ps s turn.Refused h = refl

  begins_refused : (ps : Parts) (s : Frames) → statements.begins ps s end ≡ turn.Refused
  unfolding statements.begins statements.expression
  begins_refused ps s = expression_refused ps s (expressions.feed _ end) (feed_stops _)

  frame_refused : (ps : Parts) (s : Frames) (f : Frame) (x : Stmt) → ((y : Stmt) → statements.behind ps s y end ≡ turn.Refused)
      → statements.closed_by ps s (statements.close f x false) end (λ y. statements.behind ps s y end) ≡ turn.Refused
  unfolding statements.close statements.part statements.do_while statements.more statements.more_switched
  frame_refused ps s (frame.Then q e) x h = h _
  frame_refused ps s (frame.Else q e a) x h = h _
  frame_refused ps s (frame.While q e) x h = h _
  frame_refused ps s (frame.Do q) x h = refl
  frame_refused ps s (frame.For q start test step) x h = h _
  frame_refused ps s (frame.Switch q e parts) x h = begins_refused ps _
  frame_refused ps s (frame.Block q parts) x h = begins_refused ps _

  behind_refused : (ps : Parts) (s : Frames) (x : Stmt) → statements.behind ps s x end ≡ turn.Refused
  unfolding statements.behind
  behind_refused ps [] x = begins_refused (ps ++ x ∷ []) []
  behind_refused ps (f ∷ s) x = frame_refused ps s f x (λ y. behind_refused ps s y)

  switch_refused : (ps : Parts) (s : Frames) (x : BlockStage) → statements.in_switch ps s x end ≡ turn.Refused
  unfolding statements.in_switch statements.braces statements.case_value statements.default_label
  switch_refused ps s (step.Braces q e) = refl
  switch_refused ps s (step.Case q r) = ap (statements.case_by ps s q) (needed_refused r closer.Colon)
  switch_refused ps s (step.Default q) = ap (λ b. cond b (statements.labelled ps s (labels.Default q)) turn.Refused) (not_closed closer.Colon)
  switch_refused ps s _ = refl

  for_refused : (ps : Parts) (s : Frames) (x : BlockStage) → statements.in_for ps s x end ≡ turn.Refused
  unfolding statements.in_for statements.for_opened statements.start statements.specifier statements.for_declares statements.second statements.third
  for_refused ps s (step.For q) = refl
  for_refused ps s (step.Start q r) = ap (statements.start_by ps s q) (maybe_refused r closer.Semicolon)
  for_refused ps s (step.Declares q d) = ap (statements.for_declares_by ps s q) (declaration_refused d)
  for_refused ps s (step.Second q start r) = ap (statements.second_by ps s q start) (maybe_refused r closer.Semicolon)
  for_refused ps s (step.Third q start test r) = ap (statements.third_by ps s q start test) (maybe_refused r closer.Paren)
  for_refused ps s x = switch_refused ps s x

  step_refused : (ps : Parts) (s : Frames) (x : BlockStage) → statements.stage_fed ps s x end ≡ turn.Refused
  unfolding statements.value statements.opened statements.test statements.semicolon statements.in_return statements.local
  step_refused ps s step.Begins = begins_refused ps s
  step_refused ps s (step.Whole x) = behind_refused ps s x
  step_refused ps s (step.Value q r) = ap (statements.value_by ps s q) (needed_refused r closer.Semicolon)
  step_refused ps s (step.Keyword x) = refl
  step_refused ps s (step.Test x r) = ap (statements.test_by ps s x) (needed_refused r closer.Paren)
  step_refused ps s (step.Semicolon x) = ap (λ b. cond b (statements.whole ps s x) turn.Refused) (not_closed closer.Semicolon)
  step_refused ps s (step.Return q r) = ap (statements.in_return_by ps s q) (maybe_refused r closer.Semicolon)
  step_refused ps s (step.Local q d) = ap (statements.local_by ps s q) (declaration_refused d)
  step_refused ps s (step.For q) = for_refused ps s (step.For q)
  step_refused ps s (step.Start q r) = for_refused ps s (step.Start q r)
  step_refused ps s (step.Declares q d) = for_refused ps s (step.Declares q d)
  step_refused ps s (step.Second q start r) = for_refused ps s (step.Second q start r)
  step_refused ps s (step.Third q start test r) = for_refused ps s (step.Third q start test r)
  step_refused ps s (step.Braces q e) = for_refused ps s (step.Braces q e)
  step_refused ps s (step.Case q r) = for_refused ps s (step.Case q r)
  step_refused ps s (step.Default q) = for_refused ps s (step.Default q)

  body_refused : (b : Body) → statements.feed_body b end ≡ turn.Refused
  unfolding statements.feed_body
  body_refused b = step_refused b.parts b.frames b.stage

  -- sources

  phase_stops : (items : List Item) (x : SourceStage) → SourcedStops (sources.stage_fed items x end)
  unfolding sources.starts sources.declares sources.parameters sources.headed sources.in_body
  phase_stops items phase.Starts = tt
  phase_stops items (phase.Declares q d) =
      subst (λ v. SourcedStops (sources.declares_by items q v)) (sym (declaration_refused d)) tt
  phase_stops items (phase.Parameters q title ps) =
      subst (λ v. SourcedStops (sources.parameters_by items q title v)) (sym (parameters_refused ps)) tt
  phase_stops items (phase.Headed q h) = tt
  phase_stops items (phase.Body q h b) = subst (λ v. SourcedStops (sources.body_by items q h p v)) (sym (body_refused b)) tt

  source_stops : (s : Source) → SourcedStops (sources.feed_source s end)
  unfolding sources.feed_source
  source_stops s = phase_stops s.items s.stage

-- the source does not go on behind the end
pub end_stops : (s z : Source) (t : Token) (reach : ℕ) → t.what ≡ token.End → sources.feed_source s t ≡ turn.Goes z reach → ⊥
end_stops s z t reach e goes =
    subst SourcedStops (subst (λ kind. sources.feed_source s (token_at t.place kind) ≡ turn.Goes z reach) e goes) (source_stops t.place s)

-- where a list ends once, a token behind which the source goes on is not the last one
ends_rest : (t : Token) (ts : List Token) → EndsOnce (t ∷ ts) → (t.what ≡ token.End → ⊥) → EndsOnce ts
ends_rest t [] h other = other h
ends_rest t (u ∷ ts) h other = h.1

-- the rest of such a list behind a token behind which the source goes on
pub goes_ends : (s z : Source) (ts : List Token) (i : ℕ) (t : Token) (reach : ℕ) → i < length ts → t ≡ get_or ts i t
    → sources.feed_source s t ≡ turn.Goes z reach → EndsOnce (drop i ts) → EndsOnce (drop (i + 1) ts)
goes_ends s z ts i t reach h e goes once =
    ends_rest t (drop (i + 1) ts) (subst EndsOnce (drop_here ts i t h e) once) (λ is. end_stops s z t reach is goes)
