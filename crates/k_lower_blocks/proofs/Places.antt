-- Where a statement stands once it is lowered.
use Rattle.std.proofs.Common.{ℕ, zero, suc, ◌≡◌, Bool, true, false, List, ◌∷◌, map, slice_get, Option, Some, None, refl, sym, ap, ◌∙◌}
use Rattle.k_num.specs.declared.numbers.Kind.{Kind}
use Rattle.k_num.specs.declared.place.Place.{Place}
use Rattle.k_types_meaning.specs.declared.tree.declaration.TDeclarator.{TDeclarator}
use Rattle.k_types_meaning.specs.declared.tree.expression.TExpr.{TExpr}
use Rattle.k_types_meaning.specs.declared.tree.statement.Spot.{Spot}
use Rattle.k_types_meaning.specs.declared.tree.statement.TFirst.{TFirst}
use Rattle.k_types_meaning.specs.declared.tree.statement.TPart.{TPart}
use Rattle.k_types_meaning.specs.declared.tree.statement.TPart.TheOpen.{TStmt-F}
use Rattle.k_types_meaning.specs.declared.tree.statement.TStmt.{TStmt, fold_out-TStmt, map-TStmt, out-TStmt, out-roll-TStmt}
use Rattle.k_types_meaning.specs.declared.tree.statement.TStmt.TheVariants as stmt
use Rattle.k_evaluation.specs.Declarations.{elements_of}
use Rattle.k_evaluation.specs.Loops.{loop_region, stays_behind_loop}
use Rattle.k_evaluation.specs.Meanings.{flag}
use Rattle.k_evaluation.specs.States.{Program}
use Rattle.k_lower_code.specs.Declarations.{declares, declares_all, declares_by, means, starts_with, temporary}
use Rattle.k_lower_code.specs.Loops.{LoopParts, inside_loop, loop, source_loop, step_or_none, test_or_one}
use Rattle.k_lower_code.specs.Pieces.{Piece}
use Rattle.k_lower_code.specs.Statements.{arms, break, compound, continue, declaration, expression, for_loop, if_else, lower_step, lowered, part_step, return}
use Rattle.k_lower_code.specs.Stretches.{Inside, Stretch, followed_by, in_order, settled_unless}
use Rattle.k_lower_code.specs.Switches.{PartLowered, switch, switches}
use Rattle.k_lower_extents.specs.Extents.{lowered_part}
use Rattle.k_lower_blocks.specs.Places.{place_by}

-- what stands around a stretch stands where it does
settled_place : (stays : Bool) (program : Program) (s : Stretch) → (settled_unless stays program s).place ≡ s.place
settled_place true program s = refl
settled_place false program s = refl

followed_place : (program : Program) (s rest : Stretch) (n : ℕ) → (followed_by program s n rest).place ≡ s.place
followed_place program s rest zero = refl
followed_place program s rest (suc n) = refl

-- STATEMENTS ONE BEHIND ANOTHER stand where the first does
pub order_place : (program : Program) (place : Place) (s : Stretch) (ss : List Stretch) → (in_order program place (s ∷ ss)).place ≡ s.place
order_place program place s ss = followed_place program s (in_order program place ss) s.opens

loop_stands : (program : Program) (l : LoopParts) → (loop program l).place ≡ l.place
loop_stands program l = settled_place (stays_behind_loop l.counted l.body.jumps) program (inside_loop program l)

module _ (w : Inside) where
  declared_by : (d : TDeclarator) (n : ℕ) → (declares_by w d n).place ≡ d.place
  declared_by d zero = refl
  declared_by d (suc n) = refl

  -- a declarator
  pub declared_place : (d : TDeclarator) → (declares w d).place ≡ d.place
  unfolding declares
  declared_place d = declared_by d (elements_of (slice_get w.vars d.variable))

  -- declarators stand where the first does
  pub list_stands : (place : Place) (d : TDeclarator) (more list : List TDeclarator) → list ≡ d ∷ more → d.place ≡ (declares_all w place list).place
  list_stands place d more list is =
      sym (declared_place d) ∙ ap (λ (l : List TDeclarator). (declares_all w place l).place) (sym is)

  -- the statements of a block too
  pub block_stands : (place : Place) (p : Place) (s : TStmt) (more parts : List TStmt) → parts ≡ s ∷ more → p ≡ (lowered w s).place
      → p ≡ (in_order w.program place (map (lowered w) parts)).place
  block_stands place p s more parts is p_is =
      p_is ∙ (sym (order_place w.program place (lowered w s) (map (lowered w) more))
      ∙ ap (λ (l : List TStmt). (in_order w.program place (map (lowered w) l)).place) (sym is))

  arms_place : (place : Place) (test : Piece _) (one : Stretch) (other : Option Stretch) → (arms w.program place test one other).place ≡ place
  arms_place place test one None = refl
  arms_place place test one (Some other) = refl

  if_place : (spot : Spot) (test : TExpr) (one : Stretch) (other : Option Stretch) → (if_else w spot test one other).place ≡ spot.place
  unfolding if_else
  if_place spot test one other =
      settled_place _ w.program (arms w.program spot.place ((means w test).value true (temporary w)) one other)
      ∙ arms_place spot.place ((means w test).value true (temporary w)) one other

  loop_place : (spot : Spot) (number : ℕ) (test step : Option TExpr) (body : Stretch) (tested : Bool) → (source_loop w spot number test step body tested).place ≡ spot.place
  loop_place spot number test step body tested = loop_stands w.program (record {
    place = spot.place;
    region = loop_region w.function number;
    test = test_or_one w test;
    step = step_or_none w step;
    body = body;
    counted = flag (slice_get w.program.marks.counted number);
    tested = tested;
  })

  for_place : (spot : Spot) (number : ℕ) (start : TFirst) (test step : Option TExpr) (body : Stretch)
      → (for_loop w spot number start test step body).place ≡ (starts_with w spot.place start).place
  unfolding for_loop
  for_place spot number start test step body =
      followed_place w.program (starts_with w spot.place start) (source_loop w spot number test step body true) (starts_with w spot.place start).opens

  switch_place : (spot : Spot) (kind : Kind) (on : TExpr) (parts : List PartLowered) → (switch w spot kind on parts).place ≡ spot.place
  unfolding switch
  switch_place spot kind on parts = settled_place _ w.program (switches w.program spot.place kind (temporary w) parts _)

  abbrev Layer : TStmt-F TPart TStmt → Type 0
  Layer z = (lower_step w (map-TStmt TPart TStmt PartLowered Stretch (lowered_part w) (lowered w) z)).place ≡ place_by w z

  by_layer : (z : TStmt-F TPart TStmt) → Layer z
  unfolding expression compound break continue return declaration
  by_layer (TStmt-F.Expr spot e) = refl
  by_layer (TStmt-F.Empty spot) = refl
  by_layer (TStmt-F.Block spot parts) = refl
  by_layer (TStmt-F.If spot test a None) = if_place spot test (lowered w a) None
  by_layer (TStmt-F.If spot test a (Some b)) = if_place spot test (lowered w a) (Some (lowered w b))
  by_layer (TStmt-F.While spot n test body) = loop_place spot n (Some test) None (lowered w body) true
  by_layer (TStmt-F.DoWhile spot n body test) = loop_place spot n (Some test) None (lowered w body) false
  by_layer (TStmt-F.For spot n start test step body) = for_place spot n start test step (lowered w body)
  by_layer (TStmt-F.Switch spot kind on parts) = switch_place spot kind on (map (lowered_part w) parts)
  by_layer (TStmt-F.Break spot) = refl
  by_layer (TStmt-F.Continue spot) = refl
  by_layer (TStmt-F.Return spot value) = refl
  by_layer (TStmt-F.Declare spot list) = refl

  -- A STATEMENT stands where its form says
  pub place_is : (s : TStmt) → (lowered w s).place ≡ place_by w (out-TStmt s)
  place_is s =
      ap (λ (t : Stretch). t.place) (fold_out-TStmt PartLowered Stretch part_step (lower_step w) s) ∙ by_layer (out-TStmt s)

  -- a block
  pub block_is : (p : Place) (spot : Spot) (parts : List TStmt) (s : TStmt) → s ≡ stmt.Block spot parts
      → p ≡ (in_order w.program spot.place (map (lowered w) parts)).place → p ≡ place_by w (out-TStmt s)
  block_is p spot parts s is p_is =
      p_is ∙ sym (ap (place_by w) (ap out-TStmt is ∙ (ap out-TStmt (sym (stmt.rolls-Block spot parts)) ∙ out-roll-TStmt (TStmt-F.Block spot parts))))
