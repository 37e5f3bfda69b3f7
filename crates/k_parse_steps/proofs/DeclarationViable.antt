-- Viable: a declaration that has been read so far can be ended within the limit.
use Rattle.std.proofs.Common.{ℕ, suc, ◌≡◌, ◌≤◌, ◌+◌, true, false, nat_eq, List, [], ◌∷◌, ◌++◌, length, Some, None, sym, ap, subst, refl, arith}
use Rattle.std.proofs.lemmas.Bool.{cond-false, ne_eqb}
use Rattle.k_parse_steps.specs.Types.{Place, Token, Word, Init, Declarator, Stars, Site, Reading, Brace, Front, DeclarationStage, Declaration}
use Rattle.k_tree.specs.Bare.{nowhere}
use Rattle.k_tree.specs.declared.tokens.TokenKind.TheVariants as token
use Rattle.k_tree.specs.declared.tokens.mark.Mark.TheVariants as mark
use Rattle.k_tree.specs.declared.tree.declaration.Init.TheVariants as init
use Rattle.k_parse_steps.specs.Level.{plus}
use Rattle.k_parse_steps.specs.Operators.{binding}
use Rattle.k_parse_steps.specs.Stars.{all_stars}
use Rattle.k_parse_steps.specs.Expressions.{level, begin, operand, feed}
use Rattle.k_parse_steps.specs.declared.expression.ExpressionStage.TheVariants as now
use Rattle.k_parse_steps.specs.declared.turn.Turn.TheVariants as turn
use Rattle.k_parse_steps.specs.declared.reading.Closer.TheVariants as closer
use Rattle.k_parse_steps.specs.Initialisers as inits
use Rattle.k_parse_steps.specs.Declarations as spec
use Rattle.k_parse_steps.specs.declared.declaration.DeclarationStage.TheVariants as stage
use Rattle.k_parse_steps.proofs.DeclarationReach.{StageReached}
use Rattle.k_parse_steps.proofs.DeclarationState.{OkDeclaration, OkStage}
use Rattle.k_parse_steps.proofs.ExpressionState.{Keeps}
use Rattle.k_parse_steps.proofs.ExpressionReach.{Reached}
use Rattle.k_parse_steps.proofs.ExpressionViable.{mark_token, Ends_operand}
use Rattle.k_parse_steps.proofs.ReadingSound.{At, site, begin_at, at_keeps}
use Rattle.k_parse_steps.proofs.ReadingViable.{inner_can_end, inner_ends, maybe_can_end}
use Rattle.k_parse_steps.proofs.Runs.{run_ends, CanEnd, goes_then}
use Rattle.k_parse_steps.specs.Tokens.{is_mark}

-- specifiers and declarators
abbrev pub Outcome : Type 0
Outcome = List Word × List Declarator

abbrev pub DeclarationGoes : Declaration → Token → Declaration → ℕ → Type 0
DeclarationGoes d t next reach = spec.feed_declaration d t ≡ turn.Goes next reach

abbrev pub DeclarationEnds : Declaration → Token → Outcome → Type 0
DeclarationEnds d t o = spec.feed_declaration d t ≡ turn.Done (o.0, o.1)

abbrev pub DeclarationCanEnd : ℕ → Declaration → Type 0
DeclarationCanEnd lim = CanEnd Declaration Outcome DeclarationGoes DeclarationEnds lim

semicolon_ends : Ends_operand mark.Semicolon
unfolding binding is_mark
semicolon_ends = (refl, refl)

brace_ends : Ends_operand mark.RightBrace
unfolding binding is_mark
brace_ends = (refl, refl)

module _ (lim : ℕ) (f : Front) where
  abbrev Ended : DeclarationStage → Type 0
  Ended n = DeclarationCanEnd lim (spec.declaration_at f n)

  -- a mark or a name that leads on
  leads : (n next : DeclarationStage) (t : Token) → DeclarationGoes (spec.declaration_at f n) t (spec.declaration_at f next) 0 → Ended next → Ended n
  leads n next t e x =
      goes_then Declaration Outcome DeclarationGoes DeclarationEnds lim (spec.declaration_at f n) (spec.declaration_at f next) t 0 e (omega arith) x

  -- `;` behind a declarator
  named_ended : (d : Declarator) → Ended (stage.Named d)
  unfolding spec.feed_declaration spec.named spec.end is_mark
  named_ended d = (
    mark_token mark.Semicolon ∷ [],
    (f.specs, f.list ++ d ∷ []),
    run_ends (spec.declaration_at f (stage.Named d)) (mark_token mark.Semicolon) (f.specs, f.list ++ d ∷ []) refl,
  )

  a_name : Token
  a_name = record { what = token.Name (97 ∷ []); place = nowhere }

  -- a name behind specifiers and stars
  before_ended : (stars : Stars) → Ended (stage.Before stars)
  unfolding spec.feed_declaration spec.before spec.name a_name
  before_ended stars =
      let d : Declarator = record { place = nowhere; stars = all_stars stars; name = 97 ∷ []; dims = []; init = None } in
      leads (stage.Before stars) (stage.Named d) a_name refl (named_ended d)

  -- `]` behind a size
  size_ended : (d : Declarator) (r : Reading) (ts : List Token) → At lim (site 2 f.level) r ts → StageReached lim f (stage.Size d r)
      → Ended (stage.Size d r)
  unfolding spec.feed_declaration spec.size
  size_ended d r ts a h =
      maybe_can_end Declaration Outcome DeclarationGoes DeclarationEnds lim closer.Bracket (site 2 f.level) r ts a h
      (λ u. spec.declaration_at f (stage.Size d u)) (λ v. spec.declaration_at f (stage.Named (spec.sized d v)))
      (λ u t next reach e. ap (λ z. spec.size_by f d z) e) (λ u t v e. ap (λ z. spec.size_by f d z) e) (λ v. named_ended (spec.sized d v))

  -- `;` behind an initialiser
  whole_ended : (d : Declarator) → Ended (stage.After d [])
  unfolding spec.feed_declaration spec.after inits.after spec.end
  whole_ended d = (
    mark_token mark.Semicolon ∷ [],
    (f.specs, f.list ++ d ∷ []),
    run_ends (spec.declaration_at f (stage.After d [])) (mark_token mark.Semicolon) (f.specs, f.list ++ d ∷ []) refl,
  )

  -- closing braces, and then `;`
  braced_ended : (d : Declarator) (b : Brace) (s : List Brace) → Ended (stage.After d (b ∷ s))
  unfolding spec.feed_declaration spec.after inits.after
  braced_ended d b [] =
      leads (stage.After d (b ∷ [])) (stage.After (record d { init = Some (inits.listed b false) }) []) (mark_token mark.RightBrace) refl
      (whole_ended (record d { init = Some (inits.listed b false) }))
  braced_ended d b (c ∷ s) =
      leads (stage.After d (b ∷ (c ∷ s))) (stage.After d (record { place = c.place; items = c.items ++ inits.listed b false ∷ [] } ∷ s))
      (mark_token mark.RightBrace) refl (braced_ended d (record { place = c.place; items = c.items ++ inits.listed b false ∷ [] }) s)

  after_ended : (d : Declarator) (s : List Brace) → Ended (stage.After d s)
  after_ended d [] = whole_ended d
  after_ended d (b ∷ s) = braced_ended d b s

  -- an initialiser that ends in a brace, with the brace that closes
  closed_ended : (d : Declarator) (b : Brace) (s : List Brace) (i : Init)
      → Ended (stage.After (inits.plug_into d s (inits.listed (record { place = b.place; items = b.items ++ i ∷ [] }) false)).declarator
      (inits.plug_into d s (inits.listed (record { place = b.place; items = b.items ++ i ∷ [] }) false)).braces)
  closed_ended d b s i = after_ended _ _

  -- an expression that is an initialiser
  value_ended : (d : Declarator) (s : List Brace) (p : Place) (r : Reading) (g : Site) (ts : List Token) → At lim g r ts
      → Reached lim r.site r.opens → Ended (stage.Value d s p r)
  unfolding spec.feed_declaration spec.value spec.after inits.plug inits.after spec.end
  value_ended d [] p r g ts a h =
      inner_ends Declaration Outcome DeclarationGoes DeclarationEnds lim mark.Semicolon semicolon_ends g r ts a h
      (λ u. spec.declaration_at f (stage.Value d [] p u)) (λ e. (f.specs, f.list ++ record d { init = Some (init.One p e) } ∷ []))
      (λ u t next reach e. ap (λ z. spec.value_by f (inits.opened d []) p z t) e)
      (λ u e q. ap (λ z. spec.value_by f (inits.opened d []) p z (mark_token mark.Semicolon)) q)
  value_ended d (b ∷ s) p r g ts a h =
      inner_can_end Declaration Outcome DeclarationGoes DeclarationEnds lim mark.RightBrace brace_ends g r ts a h
      (λ u. spec.declaration_at f (stage.Value d (b ∷ s) p u))
      (λ e. spec.declaration_at f (stage.After
      (inits.plug_into d s (inits.listed (record { place = b.place; items = b.items ++ init.One p e ∷ [] }) false)).declarator
      (inits.plug_into d s (inits.listed (record { place = b.place; items = b.items ++ init.One p e ∷ [] }) false)).braces))
      (λ u t next reach e. ap (λ z. spec.value_by f (inits.opened d (b ∷ s)) p z t) e)
      (λ u e q. ap (λ z. spec.value_by f (inits.opened d (b ∷ s)) p z (mark_token mark.RightBrace)) q)
      (λ e. closed_ended d b s (init.One p e))

  level_of : (s : List Brace) → f.level + length s + 1 ≤ lim → plus (plus f.level (length s)) 1 ≤ lim
  level_of s le = omega arith

  level_above : (n : ℕ) → n ≤ lim → plus n 0 ≤ lim
  level_above n le = omega arith

  -- a name as an initialiser
  fresh_ended : (d : Declarator) (s : List Brace) → f.level + length s + 1 ≤ lim → Ended (stage.Starts d s)
  unfolding spec.feed_declaration spec.starts spec.first_token feed operand a_name
  fresh_ended d s le =
      let n : ℕ = plus (plus f.level (length s)) 1 in
      let g : Site = site 1 n in
      let r : Reading = record { site = g; opens = []; stage = now.Named nowhere (97 ∷ []) } in
      let low : n ≤ lim = level_of s le in
      let k : Keeps lim g [] a_name (turn.Goes r (level g [])) = at_keeps lim g [] a_name (begin 1 n) (begin_at lim 1 n (omega arith)) in
      let a : At lim g r (a_name ∷ []) = k (level_above n low) in
      goes_then Declaration Outcome DeclarationGoes DeclarationEnds lim (spec.declaration_at f (stage.Starts d s))
      (spec.declaration_at f (stage.Value d s nowhere r)) a_name (level g []) refl (level_above n low)
      (value_ended d s nowhere r g (a_name ∷ []) a low)

  -- `}` behind a comma
  comma_ended : (d : Declarator) (p : Place) (i : Init) (items : List Init) (s : List Brace)
      → Ended (stage.Starts d (record { place = p; items = i ∷ items } ∷ s))
  unfolding spec.feed_declaration spec.starts spec.mark_starts spec.last_comma inits.last_comma is_mark
  comma_ended d p i items s =
      let b : Brace = record { place = p; items = i ∷ items } in
      leads (stage.Starts d (b ∷ s))
      (stage.After (inits.plug_into d s (inits.listed b true)).declarator (inits.plug_into d s (inits.listed b true)).braces)
      (mark_token mark.RightBrace)
      (ap (λ z. spec.last_comma_by f z)
      (cond-false (nat_eq (suc (length items)) 0) None (Some (inits.plug_into d s (inits.listed b true)))
      (ne_eqb (suc (length items)) 0 (λ q. some q))))
      (after_ended (inits.plug_into d s (inits.listed b true)).declarator (inits.plug_into d s (inits.listed b true)).braces)
    where
      some : suc (length items) ≡ 0 → ⊥
      some q = omega arith

  starts_ended : (d : Declarator) (s : List Brace) → StageReached lim f (stage.Starts d s) → Ended (stage.Starts d s)
  starts_ended d [] h = fresh_ended d [] (omega arith)
  starts_ended d (b ∷ s) h = by b.items refl
    where
      by : (items : List Init) → b.items ≡ items → Ended (stage.Starts d (b ∷ s))
      by [] e = fresh_ended d (b ∷ s) (omega (arith, h e))
      by (i ∷ items) e =
          subst (λ z. Ended (stage.Starts d (record { place = b.place; items = z } ∷ s))) (sym e) (comma_ended d b.place i items s)

  stage_ended : (n : DeclarationStage) (ts : List Token) → OkStage lim f.level f n ts → StageReached lim f n → Ended n
  stage_ended (stage.Before stars) ts k h = before_ended stars
  stage_ended (stage.Named d) ts k h = named_ended d
  stage_ended (stage.Size d r) ts k h = size_ended d r k.behind.back k.behind.rest h
  stage_ended (stage.Starts d s) ts k h = starts_ended d s h
  stage_ended (stage.Value d s p r) ts k h =
      value_ended d s p r (site 1 (plus (plus f.level (length s)) 1)) k.behind.back k.behind.rest.0 h
  stage_ended (stage.After d s) ts k h = after_ended d s

-- what was read of a declaration can be ended within the limit
pub declaration_viable : (lim : ℕ) → (l : ℕ) (d : Declaration) (ts : List Token) → OkDeclaration lim l d ts
    → StageReached lim d.front d.stage → DeclarationCanEnd lim d
declaration_viable lim l d ts ok h =
    stage_ended lim d.front d.stage ts (subst (λ n. OkStage lim n d.front d.stage ts) (sym ok.front.level) ok.stage) h
