-- The extent of each construct of statements, by those of its parts.
use Rattle.std.proofs.Common.{ℕ, zero, suc, ◌≡◌, ◌+◌, nat_eq, not, Bool, true, false, List, [], ◌∷◌, map, slice_get, Option, Some, None, refl, sym, ap, ◌∙◌, arith}
use Rattle.std.specs.Prelude.{if◌then◌else◌}
use Rattle.std.specs.Option.{option_map}
use Rattle.std.proofs.lemmas.Bool.{ne_eqb}
use Rattle.k_num.specs.declared.numbers.Kind.{Kind}
use Rattle.k_num.specs.declared.place.Place.{Place}
use Rattle.k_types_meaning.specs.declared.tree.declaration.TDeclarator.{TDeclarator}
use Rattle.k_types_meaning.specs.declared.tree.declaration.TInit.{TInit}
use Rattle.k_types_meaning.specs.declared.tree.declaration.TInit.TheVariants as init
use Rattle.k_types_meaning.specs.declared.tree.declaration.TItem.{TItem}
use Rattle.k_types_meaning.specs.declared.tree.declaration.TItem.TheVariants as item
use Rattle.k_types_meaning.specs.declared.tree.expression.TExpr.{TExpr}
use Rattle.k_types_meaning.specs.declared.tree.statement.Spot.{Spot}
use Rattle.k_types_meaning.specs.declared.tree.statement.TFirst.{TFirst}
use Rattle.k_types_meaning.specs.declared.tree.statement.TFirst.TheVariants as first
use Rattle.k_marks_meaning.specs.Jumps.{no_jumps, a_break, a_continue, a_return, is_left, out_of_loop, out_of_switch}
use Rattle.k_code.specs.declared.instruction.Arg.{Arg}
use Rattle.k_evaluation.specs.Declarations.{elements_of}
use Rattle.k_evaluation.specs.Loops.{loop_region, stays_behind_loop}
use Rattle.k_evaluation.specs.Meanings.{flag}
use Rattle.k_evaluation.specs.States.{Program}
use Rattle.k_lower_code.specs.Declarations.{means, temporary, drops, begins_register, stores_items, begins_object, declares_by, declares, declares_all, starts_with}
use Rattle.k_lower_code.specs.Loops.{LoopParts, inside_loop, test_or_one, step_or_none, source_loop}
use Rattle.k_lower_code.specs.Pieces.{Piece}
use Rattle.k_lower_code.specs.Statements.{expression, compound, arms, if_else, for_loop, break, continue, returns_value, return, declaration}
use Rattle.k_lower_code.specs.Stretches.{Inside, Stretch, of_piece, followed_by, in_order, settled_unless}
use Rattle.k_lower_code.specs.Switches.{PartLowered, ACase, ADefault, AStatement, statements_of, has_case, cases_size, before_default, skips_size, switches, switch}
use Rattle.k_lower_extents.specs.declared.extent.Extent.{Extent}
use Rattle.k_lower_extents.specs.declared.loops.Turns.{Turns}
use Rattle.k_lower_extents.specs.declared.switches.PartExtent.{PartExtent}
use Rattle.k_lower_extents.specs.declared.switches.PartExtent.TheVariants as part
use Rattle.k_lower_extents.specs.ExpressionSums.{summed}
use Rattle.k_lower_extents.specs.Extents.{extent_of}
use Rattle.k_lower_extents.specs.StatementSums as sums
use Rattle.k_lower_extents.proofs.ExpressionExtents.{summed_has}

-- a part of a switch by its extent
abbrev pub part_extent : PartLowered → PartExtent
part_extent (ACase place z) = part.Case
part_extent ADefault = part.Default
part_extent (AStatement s) = part.Statement (extent_of s)

-- one behind the other
followed_row : (program : Program) (s : Stretch) (n : ℕ) (rest : Stretch) → extent_of (followed_by program s n rest) ≡ sums.followed_by (extent_of s) n (extent_of rest)
followed_row program s zero rest = refl
followed_row program s (suc n) rest = refl

pub order_row : (program : Program) (place : Place) (ss : List Stretch) → extent_of (in_order program place ss) ≡ sums.in_order (map extent_of ss)
order_row program place [] = refl
order_row program place (s ∷ ss) =
    followed_row program s s.opens (in_order program place ss) ∙ ap (sums.followed_by (extent_of s) s.opens) (order_row program place ss)

settled_row : (stays : Bool) (program : Program) (s : Stretch) → extent_of (settled_unless stays program s) ≡ sums.settled_unless stays (extent_of s)
settled_row true program s = refl
settled_row false program s = refl

pub piece_row : (place : Place) (piece : Piece (Unit {0})) (n : ℕ) → piece.size ≡ n → extent_of (of_piece place piece) ≡ sums.of_size n
piece_row place piece n is = ap sums.of_size is

module _ (w : Inside) where
  -- expressions
  used_size : (e : TExpr) → ((means w e).value true (temporary w)).size ≡ (summed w.vars e).used
  used_size e = (summed_has w.vars e w.program).used (temporary w)

  unused_size : (e : TExpr) → ((means w e).value false (temporary w)).size ≡ (summed w.vars e).unused
  unused_size e = (summed_has w.vars e w.program).unused (temporary w)

  drops_size : (e : TExpr) → (drops w e).size ≡ (summed w.vars e).unused
  drops_size e = (let one : ((means w e).value false (temporary w)).size ≡ (summed w.vars e).unused = unused_size e in omega (arith, one))

  pub expression_row : (spot : Spot) (e : TExpr) → extent_of (expression w spot e) ≡ sums.of_size (summed w.vars e).unused
  unfolding expression
  expression_row spot e = piece_row spot.place (drops w e) (summed w.vars e).unused (drops_size e)

  pub compound_row : (spot : Spot) (ss : List Stretch) → extent_of (compound w spot ss) ≡ sums.in_order (map extent_of ss)
  unfolding compound
  compound_row spot ss = order_row w.program spot.place ss

  -- `if`
  arms_row : (place : Place) (test : Piece Arg) (n : ℕ) (one : Stretch) (other : Option Stretch) → test.size ≡ n
      → extent_of (arms w.program place test one other) ≡ sums.arms n (extent_of one) (option_map extent_of other)
  arms_row place test n one None is = ap (λ m. sums.arms m (extent_of one) None) is
  arms_row place test n one (Some other) is = ap (λ m. sums.arms m (extent_of one) (Some (extent_of other))) is

  pub if_row : (spot : Spot) (test : TExpr) (one : Stretch) (other : Option Stretch)
      → extent_of (if_else w spot test one other) ≡ sums.if_else (summed w.vars test).used (extent_of one) (option_map extent_of other)
  unfolding if_else
  if_row spot test one other =
      (let text : Stretch = arms w.program spot.place ((means w test).value true (temporary w)) one other in
      settled_row (is_left text.jumps) w.program text
      ∙ ap (λ (x : Extent). sums.settled_unless (is_left x.jumps) x) (arms_row spot.place ((means w test).value true (temporary w)) (summed w.vars test).used one other (used_size test)))

  -- loops
  inside_row : (l : LoopParts) (test step : ℕ) → l.test.size ≡ test → l.step.size ≡ step
      → extent_of (inside_loop w.program l) ≡ sums.inside_loop (record { counted = l.counted; tested = l.tested; test = test; step = step }) (extent_of l.body)
  inside_row l test step test_is step_is =
      (let t : Turns = record { counted = l.counted; tested = l.tested; test = test; step = step } in
      (let size : (inside_loop w.program l).size ≡ (sums.inside_loop t (extent_of l.body)).size = omega (arith, test_is, step_is) in
      (λ i. record { size = size i; jumps = out_of_loop l.body.jumps; opens = 0 })))

  test_sized : (test : Option TExpr) → (test_or_one w test).size ≡ sums.test_size w.vars test
  test_sized None = refl
  test_sized (Some e) = used_size e

  step_sized : (step : Option TExpr) → (step_or_none w step).size ≡ sums.step_size w.vars step
  step_sized None = refl
  step_sized (Some e) = drops_size e

  pub loop_row : (spot : Spot) (number : ℕ) (test step : Option TExpr) (body : Stretch) (tested : Bool)
      → extent_of (source_loop w spot number test step body tested)
      ≡ sums.source_loop w.program.marks.counted number tested (sums.test_size w.vars test) (sums.step_size w.vars step) (extent_of body)
  loop_row spot number test step body tested =
      (let counted : Bool = flag (slice_get w.program.marks.counted number) in
      (let l : LoopParts = record {
        place = spot.place;
        region = loop_region w.function number;
        test = test_or_one w test;
        step = step_or_none w step;
        body = body;
        counted = counted;
        tested = tested;
      } in
      settled_row (stays_behind_loop counted body.jumps) w.program (inside_loop w.program l)
      ∙ ap (sums.settled_unless (stays_behind_loop counted body.jumps)) (inside_row l (sums.test_size w.vars test) (sums.step_size w.vars step) (test_sized test) (step_sized step))))

  -- declarations
  register_sized : (d : TDeclarator) (i : TInit) → (begins_register w d i).size ≡ sums.register_size w.vars i
  register_sized d init.Nothing = refl
  register_sized d (init.Value e) = (let one : ((means w e).value true (temporary w)).size ≡ (summed w.vars e).used = used_size e in omega (arith, one))
  register_sized d (init.Elements items) = refl

  items_sized : (object : ℕ) (items : List TItem) → (stores_items w object items).size ≡ sums.items_size w.vars items
  items_sized object [] = refl
  items_sized object (item.Bytes n bytes ∷ items) =
      (let rest : (stores_items w object items).size ≡ sums.items_size w.vars items = items_sized object items in omega (arith, rest))
  items_sized object (item.Value place n e ∷ items) =
      (let one : ((means w e).value true (temporary w)).size ≡ (summed w.vars e).used = used_size e in
      (let rest : (stores_items w object items).size ≡ sums.items_size w.vars items = items_sized object items in
      omega (arith, one, rest)))

  object_sized : (d : TDeclarator) (object : ℕ) (i : TInit) → (begins_object w d object i).size ≡ sums.object_size w.vars i
  object_sized d object init.Nothing = refl
  object_sized d object (init.Value e) = (let one : ((means w e).value true (temporary w)).size ≡ (summed w.vars e).used = used_size e in omega (arith, one))
  object_sized d object (init.Elements items) =
      (let rest : (stores_items w object items).size ≡ sums.items_size w.vars items = items_sized object items in omega (arith, rest))

  declared_by_row : (d : TDeclarator) (n : ℕ) → extent_of (declares_by w d n) ≡ sums.declared_by w.vars d.init n
  declared_by_row d zero = piece_row d.place (begins_register w d d.init) (sums.register_size w.vars d.init) (register_sized d d.init)
  declared_by_row d (suc n) =
      (let one : (begins_object w d 0 d.init).size ≡ sums.object_size w.vars d.init = object_sized d 0 d.init in
      (let size : (declares_by w d (suc n)).size ≡ sums.object_size w.vars d.init + 2 = omega (arith, one) in
      (λ i. record { size = size i; jumps = no_jumps; opens = 1 })))

  declared_row : (d : TDeclarator) → extent_of (declares w d) ≡ sums.declared w.vars d
  unfolding declares
  declared_row d = declared_by_row d (elements_of (slice_get w.vars d.variable))

  all_declared_row : (place : Place) (ds : List TDeclarator) → extent_of (declares_all w place ds) ≡ sums.all_declared w.vars ds
  all_declared_row place [] = refl
  all_declared_row place (d ∷ ds) =
      ap (λ (x : Extent). sums.behind x (extent_of (declares_all w place ds))) (declared_row d)
      ∙ ap (sums.behind (sums.declared w.vars d)) (all_declared_row place ds)

  pub declaration_row : (spot : Spot) (ds : List TDeclarator) → extent_of (declaration w spot ds) ≡ sums.all_declared w.vars ds
  unfolding declaration
  declaration_row spot ds = all_declared_row spot.place ds

  -- `for`
  pub started_row : (place : Place) (start : TFirst) → extent_of (starts_with w place start) ≡ sums.started w.vars start
  started_row place first.Nothing = refl
  started_row place (first.Value e) = piece_row place (drops w e) (summed w.vars e).unused (drops_size e)
  started_row place (first.Declare list) = all_declared_row place list

  pub for_row : (spot : Spot) (number : ℕ) (start : TFirst) (test step : Option TExpr) (body : Stretch)
      → extent_of (for_loop w spot number start test step body) ≡ sums.for_loop w.vars w.program.marks.counted number start test step (extent_of body)
  unfolding for_loop
  for_row spot number start test step body =
      (let front : Stretch = starts_with w spot.place start in
      (let text : Stretch = source_loop w spot number test step body true in
      followed_row w.program front front.opens text
      ∙ (ap (λ (x : Extent). sums.followed_by x x.opens (extent_of text)) (started_row spot.place start)
      ∙ ap (sums.followed_by (sums.started w.vars start) (sums.started w.vars start).opens) (loop_row spot number test step body true))))

  -- `switch`
  statements_same : (ps : List PartLowered) → map extent_of (statements_of ps) ≡ sums.statements_in (map part_extent ps)
  statements_same [] = refl
  statements_same (ACase place z ∷ ps) = statements_same ps
  statements_same (ADefault ∷ ps) = statements_same ps
  statements_same (AStatement s ∷ ps) = ap (λ (xs : List Extent). extent_of s ∷ xs) (statements_same ps)

  cases_same : (ps : List PartLowered) → cases_size ps ≡ sums.cases_size (map part_extent ps)
  cases_same [] = refl
  cases_same (ACase place z ∷ ps) = (let rest : cases_size ps ≡ sums.cases_size (map part_extent ps) = cases_same ps in omega (arith, rest))
  cases_same (ADefault ∷ ps) = (let rest : cases_size ps ≡ sums.cases_size (map part_extent ps) = cases_same ps in omega (arith, rest))
  cases_same (AStatement s ∷ ps) = (let rest : cases_size ps ≡ sums.cases_size (map part_extent ps) = cases_same ps in omega (arith, rest))

  before_same : (ps : List PartLowered) → before_default ps ≡ sums.before_default (map part_extent ps)
  before_same [] = refl
  before_same (ACase place z ∷ ps) = (let rest : before_default ps ≡ sums.before_default (map part_extent ps) = before_same ps in omega (arith, rest))
  before_same (ADefault ∷ ps) = refl
  before_same (AStatement s ∷ ps) = (let rest : before_default ps ≡ sums.before_default (map part_extent ps) = before_same ps in omega (arith, rest))

  case_there : (ps : List PartLowered) → nat_eq (cases_size ps) 0 ≡ not (has_case ps)
  case_there [] = refl
  case_there (ACase place z ∷ ps) = ne_eqb (2 + cases_size ps) 0 (λ is. absurd (omega (arith, is)))
  case_there (ADefault ∷ ps) = case_there ps
  case_there (AStatement s ∷ ps) = case_there ps

  value_by : (on : TExpr) (used : Bool) → ((means w on).value used (temporary w)).size ≡ (if not used then (summed w.vars on).unused else (summed w.vars on).used)
  value_by on true = used_size on
  value_by on false = unused_size on

  value_sized : (on : TExpr) (ps : List PartLowered) → ((means w on).value (has_case ps) (temporary w)).size
      ≡ (if nat_eq (sums.cases_size (map part_extent ps)) 0 then (summed w.vars on).unused else (summed w.vars on).used)
  value_sized on ps =
      value_by on (has_case ps)
      ∙ ap (λ (b : Bool). if b then (summed w.vars on).unused else (summed w.vars on).used) (sym (case_there ps) ∙ ap (λ n. nat_eq n 0) (cases_same ps))

  skips_by : (n : ℕ) → skips_size n ≡ (if nat_eq n 0 then 0 else 1)
  skips_by zero = refl
  skips_by (suc n) = ap (λ (b : Bool). if b then 0 else 1) (sym (ne_eqb (suc n) 0 (λ is. absurd (omega (arith, is)))))

  switches_row : (spot : Spot) (kind : Kind) (on : TExpr) (ps : List PartLowered)
      → extent_of (switches w.program spot.place kind (temporary w) ps ((means w on).value (has_case ps) (temporary w))) ≡ (record {
        size = (if nat_eq (sums.cases_size (map part_extent ps)) 0 then (summed w.vars on).unused else (summed w.vars on).used)
            + sums.cases_size (map part_extent ps) + (if nat_eq (sums.before_default (map part_extent ps)) 0 then 0 else 1)
            + (sums.in_order (sums.statements_in (map part_extent ps))).size;
        jumps = out_of_switch (sums.in_order (sums.statements_in (map part_extent ps))).jumps;
        opens = 0;
      })
  switches_row spot kind on ps =
      (let text : extent_of (in_order w.program spot.place (statements_of ps)) ≡ sums.in_order (sums.statements_in (map part_extent ps)) =
      order_row w.program spot.place (statements_of ps) ∙ ap sums.in_order (statements_same ps) in
      (let skips : skips_size (before_default ps) ≡ (if nat_eq (sums.before_default (map part_extent ps)) 0 then 0 else 1) =
      skips_by (before_default ps) ∙ ap (λ n. if nat_eq n 0 then 0 else 1) (before_same ps) in
      (λ i. record {
        size = value_sized on ps i + cases_same ps i + skips i + (text i).size;
        jumps = out_of_switch (text i).jumps;
        opens = 0;
      })))

  pub switch_row : (spot : Spot) (kind : Kind) (on : TExpr) (ps : List PartLowered)
      → extent_of (switch w spot kind on ps) ≡ sums.switch (summed w.vars on) (map part_extent ps)
  unfolding switch
  switch_row spot kind on ps =
      (let text : Stretch = switches w.program spot.place kind (temporary w) ps ((means w on).value (has_case ps) (temporary w)) in
      settled_row (is_left text.jumps) w.program text
      ∙ ap (λ (x : Extent). sums.settled_unless (is_left x.jumps) x) (switches_row spot kind on ps))

  -- jumps
  pub break_row : (spot : Spot) → extent_of (break w spot) ≡ sums.one_jump a_break
  unfolding break
  break_row spot = refl

  pub continue_row : (spot : Spot) → extent_of (continue w spot) ≡ sums.one_jump a_continue
  unfolding continue
  continue_row spot = refl

  pub return_row : (spot : Spot) (value : Option TExpr) → extent_of (return w spot value) ≡ sums.return_extent w.vars value
  unfolding return
  return_row spot None = refl
  return_row spot (Some e) =
      (let one : ((means w e).value true (temporary w)).size ≡ (summed w.vars e).used = used_size e in
      (let size : (returns_value w spot.place (Some e)).size ≡ (summed w.vars e).used + 1 = omega (arith, one) in
      (λ i. record { size = size i; jumps = a_return; opens = 0 })))
