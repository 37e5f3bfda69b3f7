-- Each statement may stand anywhere in a function, where it is right where it stands.
use Rattle.std.proofs.Common.{ℕ, zero, suc, ◌≡◌, ◌+◌, ◌<◌, ◌&&◌, ◌||◌, Bool, true, false, List, [], ◌∷◌, map, length, slice_get, Option, Some, None, refl, sym, subst, ap, ◌∙◌, arith}
use Rattle.std.proofs.lemmas.Bool.{and_parts, eq-eqb, lt-ltb, ltb-true, or_from, or_left, or_parts, true≢false}
use Rattle.k_num.specs.declared.numbers.Kind.{Kind}
use Rattle.k_num.specs.declared.place.Place.{Place}
use Rattle.k_types_meaning.specs.declared.tree.declaration.TDeclarator.{TDeclarator}
use Rattle.k_types_meaning.specs.declared.tree.expression.TExpr.{TExpr}
use Rattle.k_types_meaning.specs.declared.tree.statement.Spot.{Spot}
use Rattle.k_types_meaning.specs.declared.tree.statement.TFirst.{TFirst}
use Rattle.k_types_meaning.specs.declared.tree.statement.TStmt.{TStmt, fold-roll-TStmt, ind-TStmt, map-TStmt}
use Rattle.k_types_meaning.specs.declared.tree.statement.TPart.{TPart, fold-TPart, fold-roll-TPart, map-TPart}
use Rattle.k_types_meaning.specs.declared.tree.statement.TPart.TheOpen.{TPart-F, TStmt-F}
use Rattle.k_marks_meaning.specs.declared.jumps.Jumps.{Jumps}
use Rattle.k_marks_meaning.specs.Jumps.{is_left, out_of_switch}
use Rattle.k_code.specs.declared.code.Code.{Code}
use Rattle.k_code.specs.declared.instruction.Arg.{Arg}
use Rattle.k_code.specs.declared.instruction.Do.TheVariants as act
use Rattle.k_code.specs.Balances.{is_met, goes_on, jumps_to}
use Rattle.k_code.specs.Named.{is_there}
use Rattle.k_code.specs.Valid.{stays_within, class_fits}
use Rattle.k_evaluation.specs.Loops.{loop_region}
use Rattle.k_evaluation.specs.Meanings.{flag}
use Rattle.k_evaluation.specs.States.{Program}
use Rattle.k_lower_code.specs.Declarations.{means, temporary, drops, starts_with}
use Rattle.k_lower_code.specs.Loops.{LoopParts, test_or_one, step_or_none, source_loop}
use Rattle.k_lower_code.specs.Pieces.{does, instruction}
use Rattle.k_lower_code.specs.Statements.{expression, compound, one_arm, two_arms, if_else, for_loop, break, continue, returns_value, return, declaration, lower_step, part_step, lowered}
use Rattle.k_lower_code.specs.Stretches.{Inside, Stretch, nothing_done, followed_by, in_order, settled_unless}
use Rattle.k_lower_code.specs.Switches.{PartLowered, ACase, ADefault, AStatement, statements_of, has_case, switches, switch}
use Rattle.k_lower_valid.specs.Names.{Where, in_block, in_statement, in_loop, in_switch, all_right, expr_named, option_named, first_named, declared_named, regions_there}
use Rattle.k_lower_valid.specs.Names as names
use Rattle.k_lower_valid.proofs.Texts.{Text, opened, Fine, as_before, HasTable, sound, jumps}
use Rattle.k_lower_valid.proofs.Stands.{Stands, only_stands, binds_stand}
use Rattle.k_lower_valid.proofs.Spans.{objects_are, Spans, piece_spans, nothing_spans}
use Rattle.k_lower_valid.proofs.Blocks.{settled_unless_spans, followed_by_spans, followed_by_opens, in_order_opens, in_order_spans, StretchesStand}
use Rattle.k_lower_valid.proofs.Declared.{value_stands, drops_stand, declares_all_spans, starts_with_spans, no_breaks, no_continues, starts_no_breaks, starts_no_continues}
use Rattle.k_lower_valid.proofs.Arms.{one_arm_spans, two_arms_spans}
use Rattle.k_lower_valid.proofs.Loops.{loop_spans}
use Rattle.k_lower_valid.proofs.Switches.{PartsStand, switches_spans}

-- a return is fine where what stands behind it has its balance
pub returns : (code : Code) (g : Text) (program : Program) (place : Place) (what : Option Arg) (n : ℕ) → HasTable program → g.before (n + 1) ≡ g.before n
    → Fine code g n (instruction program place (act.Return what))
unfolding goes_on jumps_to stays_within class_fits is_there is_met
returns code g program place what n table next = record {
  sound = sound code program place (act.Return what) table refl refl refl;
  next = λ holds. absurd (true≢false (sym holds));
  jumps = λ to holds. absurd (true≢false (sym holds));
  others = λ none. as_before next;
  met = refl;
  within = λ count k at all. refl;
}

module _ (code : Code) (w : Inside) (table : HasTable w.program) where
  -- A STATEMENT IS RIGHT where it stands: it may stand anywhere; it makes objects, breaks and continues only where it may
  pub record Fits (t : Stretch) (at : Where) : Type 0 where
    pub spans : Spans code t 0 t.opens
    pub opens : at.declares ≡ false → t.opens ≡ 0
    pub breaks : at.breaks ≡ false → t.jumps.breaks ≡ false
    pub continues : at.continues ≡ false → t.jumps.continues ≡ false

  -- where it opens nothing
  zero_spans : (t : Stretch) → t.opens ≡ 0 → Spans code t 0 t.opens → Spans code t 0 0
  zero_spans t none is = subst (λ n. Spans code t 0 n) none is

  quiet_fits : (t : Stretch) (at : Where) → t.opens ≡ 0 → t.jumps.breaks ≡ false → t.jumps.continues ≡ false → Spans code t 0 0 → Fits t at
  quiet_fits t at none no_break no_continue is = record { spans = subst (λ n. Spans code t 0 n) (sym none) is; opens = λ x. none; breaks = λ x. no_break; continues = λ x. no_continue }

  pub expression_fits : (spot : Spot) (e : TExpr) (at : Where) → expr_named w.program code e ≡ true → Fits (expression w spot e) at
  unfolding expression
  expression_fits spot e at named = quiet_fits (expression w spot e) at refl refl refl (piece_spans code spot.place (drops w e) (drops_stand code w table e named))

  pub empty_fits : (place : Place) (at : Where) → Fits (nothing_done place) at
  empty_fits place at = quiet_fits (nothing_done place) at refl refl refl (nothing_spans code place)

  -- several statements
  abbrev pub AllFit : List Stretch → Where → Type 0
  AllFit [] at = Unit {0}
  AllFit (t ∷ ts) at = Fits t at × AllFit ts at

  all_spans : (ts : List Stretch) (at : Where) → AllFit ts at → StretchesStand code w.program table ts
  all_spans [] at all = tt
  all_spans (t ∷ ts) at all = (all.0.spans, all_spans ts at all.1)

  followed_breaks : (s rest : Stretch) (n : ℕ) → s.jumps.breaks ≡ false → rest.jumps.breaks ≡ false → (followed_by w.program s n rest).jumps.breaks ≡ false
  followed_breaks s rest zero x y = or_from s.jumps.breaks rest.jumps.breaks x y
  followed_breaks s rest (suc n) x y = or_from s.jumps.breaks rest.jumps.breaks x y

  followed_continues : (s rest : Stretch) (n : ℕ) → s.jumps.continues ≡ false → rest.jumps.continues ≡ false → (followed_by w.program s n rest).jumps.continues ≡ false
  followed_continues s rest zero x y = or_from s.jumps.continues rest.jumps.continues x y
  followed_continues s rest (suc n) x y = or_from s.jumps.continues rest.jumps.continues x y

  order_breaks : (place : Place) (ts : List Stretch) (at : Where) → AllFit ts at → at.breaks ≡ false → (in_order w.program place ts).jumps.breaks ≡ false
  order_breaks place [] at all none = refl
  order_breaks place (t ∷ ts) at all none = followed_breaks t (in_order w.program place ts) t.opens (all.0.breaks none) (order_breaks place ts at all.1 none)

  order_continues : (place : Place) (ts : List Stretch) (at : Where) → AllFit ts at → at.continues ≡ false → (in_order w.program place ts).jumps.continues ≡ false
  order_continues place [] at all none = refl
  order_continues place (t ∷ ts) at all none = followed_continues t (in_order w.program place ts) t.opens (all.0.continues none) (order_continues place ts at all.1 none)

  pub order_fits : (place : Place) (ts : List Stretch) (at : Where) → AllFit ts (in_block at) → Fits (in_order w.program place ts) at
  order_fits place ts at all = record {
    spans = subst (λ n. Spans code (in_order w.program place ts) 0 n) (sym (in_order_opens code w.program table place ts)) (in_order_spans code w.program table place ts (all_spans ts (in_block at) all));
    opens = λ x. in_order_opens code w.program table place ts;
    breaks = λ none. order_breaks place ts (in_block at) all none;
    continues = λ none. order_continues place ts (in_block at) all none;
  }

  pub compound_fits : (spot : Spot) (ts : List Stretch) (at : Where) → AllFit ts (in_block at) → Fits (compound w spot ts) at
  unfolding compound
  compound_fits spot ts at all = order_fits spot.place ts at all

  -- `if`
  test_stands : (e : TExpr) → expr_named w.program code e ≡ true → Stands code ((means w e).value true (temporary w))
  test_stands e named = (value_stands code w table e named).value true (temporary w)

  settled_jumps : (unless : Bool) (t : Stretch) → (settled_unless unless w.program t).jumps ≡ t.jumps
  settled_jumps true t = refl
  settled_jumps false t = refl

  settled_opens : (unless : Bool) (t : Stretch) → (settled_unless unless w.program t).opens ≡ t.opens
  settled_opens true t = refl
  settled_opens false t = refl

  settled_fits : (unless : Bool) (t : Stretch) (at : Where) → (unless ≡ false → t.jumps.breaks ≡ false) → (unless ≡ false → t.jumps.continues ≡ false) → t.opens ≡ 0
      → (at.breaks ≡ false → t.jumps.breaks ≡ false) → (at.continues ≡ false → t.jumps.continues ≡ false) → Spans code t 0 0 → Fits (settled_unless unless w.program t) at
  settled_fits unless t at no_break no_continue none breaks continues is = record {
    spans = subst (λ n. Spans code (settled_unless unless w.program t) 0 n) (sym (settled_opens unless t ∙ none)) (settled_unless_spans code w.program table unless t no_break no_continue is);
    opens = λ x. settled_opens unless t ∙ none;
    breaks = λ x. ap (λ (j : Jumps). j.breaks) (settled_jumps unless t) ∙ breaks x;
    continues = λ x. ap (λ (j : Jumps). j.continues) (settled_jumps unless t) ∙ continues x;
  }

  left_breaks : (j : Jumps) → is_left j ≡ false → j.breaks ≡ false
  left_breaks j none = (or_parts j.breaks (j.continues || j.returns) none).0

  left_continues : (j : Jumps) → is_left j ≡ false → j.continues ≡ false
  left_continues j none = (or_parts j.continues j.returns (or_parts j.breaks (j.continues || j.returns) none).1).0

  abbrev OptionFits : Option Stretch → Where → Type 0
  OptionFits None at = Unit {0}
  OptionFits (Some t) at = Fits t at

  abbrev both_of : Spot → TExpr → Stretch → Stretch → Stretch
  both_of spot test one other = two_arms w.program spot.place ((means w test).value true (temporary w)) one other

  pub if_fits : (spot : Spot) (test : TExpr) (one : Stretch) (other : Option Stretch) (at : Where) → expr_named w.program code test ≡ true → Fits one (in_statement at) → OptionFits other (in_statement at)
      → Fits (if_else w spot test one other) at
  unfolding if_else
  if_fits spot test one None at named first second =
      settled_fits (is_left one.jumps) (one_arm w.program spot.place ((means w test).value true (temporary w)) one) at (left_breaks one.jumps) (left_continues one.jumps) refl first.breaks first.continues
      (one_arm_spans code w.program table spot.place ((means w test).value true (temporary w)) one (test_stands test named) (zero_spans one (first.opens refl) first.spans))
  if_fits spot test one (Some other) at named first second =
      settled_fits (is_left (both_of spot test one other).jumps) (both_of spot test one other) at (left_breaks (both_of spot test one other).jumps) (left_continues (both_of spot test one other).jumps) refl
      (λ none. or_from one.jumps.breaks other.jumps.breaks (first.breaks none) (second.breaks none)) (λ none. or_from one.jumps.continues other.jumps.continues (first.continues none) (second.continues none))
      (two_arms_spans code w.program table spot.place ((means w test).value true (temporary w)) one other (test_stands test named) (zero_spans one (first.opens refl) first.spans) (zero_spans other (second.opens refl) second.spans))

  -- loops
  test_or_one_stands : (test : Option TExpr) → option_named w.program code test ≡ true → Stands code (test_or_one w test)
  test_or_one_stands None named = only_stands code _
  test_or_one_stands (Some e) named = test_stands e named

  step_or_none_stands : (step : Option TExpr) → option_named w.program code step ≡ true → Stands code (step_or_none w step)
  step_or_none_stands None named = only_stands code tt
  step_or_none_stands (Some e) named = drops_stand code w table e named

  abbrev parts_of : Spot → ℕ → Option TExpr → Option TExpr → Stretch → Bool → LoopParts
  parts_of spot number test step body tested = record {
    place = spot.place;
    region = loop_region w.function number;
    test = test_or_one w test;
    step = step_or_none w step;
    body = body;
    counted = flag (slice_get w.program.marks.counted number);
    tested = tested;
  }

  enters : (region : ℕ) → region < length code.regions → is_there code (act.Enter region) ≡ true
  unfolding is_there
  enters region there = lt-ltb region (length code.regions) there

  loop_opens : (unless : Bool) (t : Stretch) → t.opens ≡ 0 → t.jumps.breaks ≡ false → t.jumps.continues ≡ false
      → ((settled_unless unless w.program t).opens ≡ 0) × ((settled_unless unless w.program t).jumps.breaks ≡ false) × ((settled_unless unless w.program t).jumps.continues ≡ false)
  loop_opens true t a b c = (a, b, c)
  loop_opens false t a b c = (a, b, c)

  pub source_loop_fits : (spot : Spot) (number : ℕ) (test step : Option TExpr) (body : Stretch) (tested : Bool) (at : Where) → regions_there code w.function number ≡ true
      → option_named w.program code test ≡ true → option_named w.program code step ≡ true → Fits body in_loop → Fits (source_loop w spot number test step body tested) at
  source_loop_fits spot number test step body tested at there test_named step_named is =
      (let below : loop_region w.function number + 1 < length code.regions = ltb-true (loop_region w.function number + 1) (length code.regions) there in
      (let quiet : ((source_loop w spot number test step body tested).opens ≡ 0) × ((source_loop w spot number test step body tested).jumps.breaks ≡ false) × ((source_loop w spot number test step body tested).jumps.continues ≡ false) = loop_opens _ _ refl refl refl in
      quiet_fits (source_loop w spot number test step body tested) at quiet.0 quiet.1 quiet.2
      (loop_spans code w.program table (parts_of spot number test step body tested) (zero_spans body (is.opens refl) is.spans) (enters (loop_region w.function number + 1) below)
      (test_or_one_stands test test_named) (step_or_none_stands step step_named) (enters (loop_region w.function number) (omega (arith, below))))))

  pub for_fits : (spot : Spot) (number : ℕ) (start : TFirst) (test step : Option TExpr) (body : Stretch) (at : Where) → regions_there code w.function number ≡ true
      → first_named w.program code start ≡ true → option_named w.program code test ≡ true → option_named w.program code step ≡ true → Fits body in_loop → Fits (for_loop w spot number start test step body) at
  unfolding for_loop
  for_fits spot number start test step body at there start_named test_named step_named is =
      (let inner : Fits (source_loop w spot number test step body true) in_loop = source_loop_fits spot number test step body true in_loop there test_named step_named is in
      (let quiet : ((source_loop w spot number test step body true).opens ≡ 0) × ((source_loop w spot number test step body true).jumps.breaks ≡ false) × ((source_loop w spot number test step body true).jumps.continues ≡ false) = loop_opens _ _ refl refl refl in
      quiet_fits (followed_by w.program (starts_with w spot.place start) (starts_with w spot.place start).opens (source_loop w spot number test step body true)) at
      (followed_by_opens code w.program table (starts_with w spot.place start) (source_loop w spot number test step body true) (starts_with w spot.place start).opens refl quiet.0)
      (followed_breaks (starts_with w spot.place start) (source_loop w spot number test step body true) (starts_with w spot.place start).opens (starts_no_breaks code w table spot.place start) quiet.1)
      (followed_continues (starts_with w spot.place start) (source_loop w spot number test step body true) (starts_with w spot.place start).opens (starts_no_continues code w table spot.place start) quiet.2)
      (followed_by_spans code w.program table (starts_with w spot.place start) (source_loop w spot number test step body true) (starts_with w spot.place start).opens refl
      (starts_with_spans code w table spot.place start start_named) (zero_spans (source_loop w spot number test step body true) quiet.0 inner.spans))))

  -- `switch`
  abbrev PartFits : PartLowered → Where → Type 0
  PartFits (ACase place z) at = Unit {0}
  PartFits ADefault at = Unit {0}
  PartFits (AStatement t) at = Fits t at

  abbrev PartsFit : List PartLowered → Where → Type 0
  PartsFit [] at = Unit {0}
  PartsFit (p ∷ ps) at = PartFits p at × PartsFit ps at

  parts_stand : (ps : List PartLowered) (at : Where) → at.declares ≡ false → PartsFit ps at → PartsStand code w.program table ps
  parts_stand [] at none all = tt
  parts_stand (ACase place z ∷ ps) at none all = (tt, parts_stand ps at none all.1)
  parts_stand (ADefault ∷ ps) at none all = (tt, parts_stand ps at none all.1)
  parts_stand (AStatement t ∷ ps) at none all = ((all.0.opens none, zero_spans t (all.0.opens none) all.0.spans), parts_stand ps at none all.1)

  parts_continues : (place : Place) (ps : List PartLowered) (at : Where) → PartsFit ps at → at.continues ≡ false → (in_order w.program place (statements_of ps)).jumps.continues ≡ false
  parts_continues place [] at all none = refl
  parts_continues place (ACase p z ∷ ps) at all none = parts_continues place ps at all.1 none
  parts_continues place (ADefault ∷ ps) at all none = parts_continues place ps at all.1 none
  parts_continues place (AStatement t ∷ ps) at all none = followed_continues t (in_order w.program place (statements_of ps)) t.opens (all.0.continues none) (parts_continues place ps at all.1 none)

  pub switch_fits : (spot : Spot) (kind : Kind) (on : TExpr) (ps : List PartLowered) (at : Where) → expr_named w.program code on ≡ true → PartsFit ps (in_switch at) → Fits (switch w spot kind on ps) at
  unfolding switch
  switch_fits spot kind on ps at named all =
      settled_fits (is_left (out_of_switch (in_order w.program spot.place (statements_of ps)).jumps))
      (switches w.program spot.place kind (temporary w) ps ((means w on).value (has_case ps) (temporary w))) at
      (λ none. refl) (left_continues (out_of_switch (in_order w.program spot.place (statements_of ps)).jumps)) refl (λ none. refl) (parts_continues spot.place ps (in_switch at) all)
      (switches_spans code w.program table spot.place kind (temporary w) ps ((means w on).value (has_case ps) (temporary w)) ((value_stands code w table on named).value (has_case ps) (temporary w))
      (parts_stand ps (in_switch at) refl all))

  -- jumps
  break_spans : (spot : Spot) → Spans code (break w spot) 0 0
  unfolding break
  break_spans spot = record {
    sized = λ site first. refl;
    marks = λ s o r. opened s o r ∷ [];
    long = λ s o r. refl;
    begins = λ g s o r a z first enters leaves labels end. labels.0 ∙ objects_are s r o a (omega (arith, enters));
    fine = λ g site s o r z first enters leaves saved has labels end low high breaks continues. (
      jumps code g w.program spot.place site.breaks first (opened s o r) table labels.0 (breaks refl).2 (let e : first < site.breaks = omega (arith, (breaks refl).0) in e) (breaks refl).1
          (as_before (end ∙ objects_are s r z o (omega (arith, leaves)) ∙ sym labels.0)),
      tt,
    );
    comes = λ site first holds. absurd (true≢false (sym holds));
  }

  continue_spans : (spot : Spot) → Spans code (continue w spot) 0 0
  unfolding continue jumps_to
  continue_spans spot = record {
    sized = λ site first. refl;
    marks = λ s o r. opened s o r ∷ [];
    long = λ s o r. refl;
    begins = λ g s o r a z first enters leaves labels end. labels.0 ∙ objects_are s r o a (omega (arith, enters));
    fine = λ g site s o r z first enters leaves saved has labels end low high breaks continues. (
      jumps code g w.program spot.place site.continues first (opened s o r) table labels.0 (continues refl).2 (let e : first < site.continues = omega (arith, (continues refl).0) in e) (continues refl).1
          (as_before (end ∙ objects_are s r z o (omega (arith, leaves)) ∙ sym labels.0)),
      tt,
    );
    comes = λ site first holds. or_left (Rattle.std.proofs.Common.nat_eq site.continues site.continues) false (eq-eqb site.continues site.continues refl);
  }

  pub break_fits : (spot : Spot) (at : Where) → at.breaks ≡ true → Fits (break w spot) at
  unfolding break
  break_fits spot at here = record { spans = break_spans spot; opens = λ x. refl; breaks = λ none. absurd (true≢false (sym here ∙ none)); continues = λ x. refl }

  pub continue_fits : (spot : Spot) (at : Where) → at.continues ≡ true → Fits (continue w spot) at
  unfolding continue
  continue_fits spot at here = record { spans = continue_spans spot; opens = λ x. refl; breaks = λ x. refl; continues = λ none. absurd (true≢false (sym here ∙ none)) }

  pub return_alone_stands : (place : Place) (what : Option Arg) → Stands code (does w.program place (act.Return what))
  return_alone_stands place what = record {
    sized = λ first. refl;
    marks = λ s o r. opened s o r ∷ [];
    long = λ s o r. refl;
    begins = λ g s o r first labels end. labels.0;
    fine = λ g s o r first has labels end low high. (returns code g w.program place what first table (end ∙ sym labels.0), tt);
  }

  returns_value_stands : (place : Place) (value : Option TExpr) → option_named w.program code value ≡ true → Stands code (returns_value w place value)
  returns_value_stands place None named = return_alone_stands place None
  returns_value_stands place (Some e) named =
      binds_stand code ((means w e).value true (temporary w)) (λ a. does w.program place (act.Return (Some a))) (test_stands e named) (return_alone_stands place (Some ((means w e).value true (temporary w)).gives))

  pub return_fits : (spot : Spot) (value : Option TExpr) (at : Where) → option_named w.program code value ≡ true → Fits (return w spot value) at
  unfolding return
  return_fits spot value at named =
      (let is : Spans code (Rattle.k_lower_code.specs.Stretches.of_piece spot.place (returns_value w spot.place value)) 0 0 = piece_spans code spot.place (returns_value w spot.place value) (returns_value_stands spot.place value named) in
      record {
        spans = record { sized = is.sized; marks = is.marks; long = is.long; begins = is.begins; fine = is.fine; comes = is.comes };
        opens = λ x. refl;
        breaks = λ x. refl;
        continues = λ x. refl;
      })

  pub declaration_fits : (spot : Spot) (list : List TDeclarator) (at : Where) → declared_named w.program code list ≡ true → at.declares ≡ true → Fits (declaration w spot list) at
  unfolding declaration
  declaration_fits spot list at named here = record {
    spans = declares_all_spans code w table spot.place list named;
    opens = λ none. absurd (true≢false (sym here ∙ none));
    breaks = λ x. no_breaks code w table spot.place list;
    continues = λ x. no_continues code w table spot.place list;
  }

  -- THE TREE
  abbrev made : TStmt → Stretch
  made = lowered w

  abbrev made_part : TPart → PartLowered
  made_part = fold-TPart PartLowered Stretch part_step (lower_step w)

  abbrev right : TStmt → Where → Bool
  right = names.stmt_right w.program code w.function

  abbrev right_part : TPart → Where → Bool
  right_part = fold-TPart (Where → Bool) (Where → Bool) names.part_step (names.stmt_step w.program code w.function)

  abbrev RightStmt : TStmt → Type 0
  RightStmt s = (at : Where) → right s at ≡ true → Fits (made s) at

  abbrev RightPart : TPart → Type 0
  RightPart p = (at : Where) → right_part p at ≡ true → PartFits (made_part p) at

  all_fit : {B : Type 0} (items : List B) (stmt : B → TStmt) → ((b : B) → RightStmt (stmt b)) → (at : Where) → all_right at (map right (map stmt items)) ≡ true
      → AllFit (map made (map stmt items)) at
  all_fit [] stmt each at all = tt
  all_fit (b ∷ items) stmt each at all =
      (each b at (and_parts (right (stmt b) at) (all_right at (map right (map stmt items))) all).0, all_fit items stmt each at (and_parts (right (stmt b) at) (all_right at (map right (map stmt items))) all).1)

  parts_fit : {B : Type 0} (items : List B) (part : B → TPart) → ((b : B) → RightPart (part b)) → (at : Where) → all_right at (map right_part (map part items)) ≡ true
      → PartsFit (map made_part (map part items)) at
  parts_fit [] part each at all = tt
  parts_fit (b ∷ items) part each at all = (
    each b at (and_parts (right_part (part b) at) (all_right at (map right_part (map part items))) all).0,
    parts_fit items part each at (and_parts (right_part (part b) at) (all_right at (map right_part (map part items))) all).1,
  )

  abbrev PartLayer : TPart-F TPart TStmt → Type 0
  PartLayer z = (at : Where) → names.part_step (map-TPart TPart TStmt (Where → Bool) (Where → Bool) right_part right z) at ≡ true
      → PartFits (part_step (map-TPart TPart TStmt PartLowered Stretch made_part made z)) at

  abbrev StmtLayer : TStmt-F TPart TStmt → Type 0
  StmtLayer z = (at : Where) → names.stmt_step w.program code w.function (map-TStmt TPart TStmt (Where → Bool) (Where → Bool) right_part right z) at ≡ true
      → Fits (lower_step w (map-TStmt TPart TStmt PartLowered Stretch made_part made z)) at

  part_by : (y : TPart-F ((p : TPart) × RightPart p) ((s : TStmt) × RightStmt s))
      → PartLayer (map-TPart _ _ TPart TStmt (λ (x : (p : TPart) × RightPart p). x.0) (λ (x : (s : TStmt) × RightStmt s). x.0) y)
  part_by (TPart-F.Case p z) at all = tt
  part_by (TPart-F.Default p) at all = tt
  part_by (TPart-F.Does p s) at all = s.1 at all

  stmt_by : (y : TStmt-F ((p : TPart) × RightPart p) ((s : TStmt) × RightStmt s))
      → StmtLayer (map-TStmt _ _ TPart TStmt (λ (x : (p : TPart) × RightPart p). x.0) (λ (x : (s : TStmt) × RightStmt s). x.0) y)
  stmt_by (TStmt-F.Expr spot e) at all = expression_fits spot e at all
  stmt_by (TStmt-F.Empty spot) at all = empty_fits spot.place at
  stmt_by (TStmt-F.Block spot parts) at all = compound_fits spot _ at (all_fit parts (λ x. x.0) (λ x. x.1) (in_block at) all)
  stmt_by (TStmt-F.If spot test a None) at all =
      if_fits spot test (made a.0) None at (and_parts (expr_named w.program code test) (right a.0 (in_statement at) && true) all).0
      (a.1 (in_statement at) (and_parts (right a.0 (in_statement at)) true (and_parts (expr_named w.program code test) (right a.0 (in_statement at) && true) all).1).0) tt
  stmt_by (TStmt-F.If spot test a (Some b)) at all =
      if_fits spot test (made a.0) (Some (made b.0)) at (and_parts (expr_named w.program code test) (right a.0 (in_statement at) && right b.0 (in_statement at)) all).0
      (a.1 (in_statement at) (and_parts (right a.0 (in_statement at)) (right b.0 (in_statement at)) (and_parts (expr_named w.program code test) (right a.0 (in_statement at) && right b.0 (in_statement at)) all).1).0)
      (b.1 (in_statement at) (and_parts (right a.0 (in_statement at)) (right b.0 (in_statement at)) (and_parts (expr_named w.program code test) (right a.0 (in_statement at) && right b.0 (in_statement at)) all).1).1)
  stmt_by (TStmt-F.While spot number test a) at all =
      (let rest : (expr_named w.program code test && right a.0 in_loop) ≡ true = (and_parts (regions_there code w.function number) (expr_named w.program code test && right a.0 in_loop) all).1 in
      source_loop_fits spot number (Some test) None (made a.0) true at (and_parts (regions_there code w.function number) (expr_named w.program code test && right a.0 in_loop) all).0
      (and_parts (expr_named w.program code test) (right a.0 in_loop) rest).0 refl (a.1 in_loop (and_parts (expr_named w.program code test) (right a.0 in_loop) rest).1))
  stmt_by (TStmt-F.DoWhile spot number a test) at all =
      (let rest : (expr_named w.program code test && right a.0 in_loop) ≡ true = (and_parts (regions_there code w.function number) (expr_named w.program code test && right a.0 in_loop) all).1 in
      source_loop_fits spot number (Some test) None (made a.0) false at (and_parts (regions_there code w.function number) (expr_named w.program code test && right a.0 in_loop) all).0
      (and_parts (expr_named w.program code test) (right a.0 in_loop) rest).0 refl (a.1 in_loop (and_parts (expr_named w.program code test) (right a.0 in_loop) rest).1))
  stmt_by (TStmt-F.For spot number start test step a) at all =
      (let one : (first_named w.program code start && (option_named w.program code test && (option_named w.program code step && right a.0 in_loop))) ≡ true =
      (and_parts (regions_there code w.function number) (first_named w.program code start && (option_named w.program code test && (option_named w.program code step && right a.0 in_loop))) all).1 in
      (let two : (option_named w.program code test && (option_named w.program code step && right a.0 in_loop)) ≡ true =
      (and_parts (first_named w.program code start) (option_named w.program code test && (option_named w.program code step && right a.0 in_loop)) one).1 in
      (let three : (option_named w.program code step && right a.0 in_loop) ≡ true = (and_parts (option_named w.program code test) (option_named w.program code step && right a.0 in_loop) two).1 in
      for_fits spot number start test step (made a.0) at
      (and_parts (regions_there code w.function number) (first_named w.program code start && (option_named w.program code test && (option_named w.program code step && right a.0 in_loop))) all).0
      (and_parts (first_named w.program code start) (option_named w.program code test && (option_named w.program code step && right a.0 in_loop)) one).0
      (and_parts (option_named w.program code test) (option_named w.program code step && right a.0 in_loop) two).0
      (and_parts (option_named w.program code step) (right a.0 in_loop) three).0
      (a.1 in_loop (and_parts (option_named w.program code step) (right a.0 in_loop) three).1))))
  stmt_by (TStmt-F.Switch spot kind on parts) at all =
      switch_fits spot kind on _ at (and_parts (expr_named w.program code on) _ all).0 (parts_fit parts (λ x. x.0) (λ x. x.1) (in_switch at) (and_parts (expr_named w.program code on) _ all).1)
  stmt_by (TStmt-F.Break spot) at all = break_fits spot at all
  stmt_by (TStmt-F.Continue spot) at all = continue_fits spot at all
  stmt_by (TStmt-F.Return spot value) at all = return_fits spot value at all
  stmt_by (TStmt-F.Declare spot list) at all = declaration_fits spot list at (and_parts (declared_named w.program code list) at.declares all).0 (and_parts (declared_named w.program code list) at.declares all).1

  -- A STATEMENT
  pub statement_fits : (s : TStmt) → RightStmt s
  statement_fits =
      ind-TStmt RightPart RightStmt
      (λ x y is at all.
      subst (λ p. PartFits p at) (sym (fold-roll-TPart PartLowered Stretch part_step (lower_step w) x))
      (subst PartLayer is (part_by y) at (subst (λ (f : Where → Bool). f at ≡ true) (fold-roll-TPart (Where → Bool) (Where → Bool) names.part_step (names.stmt_step w.program code w.function) x) all)))
      (λ x y is at all.
      subst (λ t. Fits t at) (sym (fold-roll-TStmt PartLowered Stretch part_step (lower_step w) x))
      (subst StmtLayer is (stmt_by y) at (subst (λ (f : Where → Bool). f at ≡ true) (fold-roll-TStmt (Where → Bool) (Where → Bool) names.part_step (names.stmt_step w.program code w.function) x) all)))
