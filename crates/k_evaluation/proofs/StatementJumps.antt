-- The jumps that *Evaluation* finds in a statement are those that *Marks* finds in it, whatever else its steps do.
use Rattle.std.proofs.Common.{◌≡◌, ◌∙◌, List, [], ◌∷◌, ◌++◌, map, Option, Some, None, unwrap_or, refl, sym, ap, subst}
use Rattle.k_types_meaning.specs.declared.tree.statement.Spot.{Spot}
use Rattle.k_types_meaning.specs.declared.tree.statement.TPart.{TPart, fold-TPart, fold-roll-TPart, map-TPart}
use Rattle.k_types_meaning.specs.declared.tree.statement.TPart.TheOpen.{TPart-F, TStmt-F}
use Rattle.k_types_meaning.specs.declared.tree.statement.TStmt.{TStmt, fold-TStmt, fold-roll-TStmt, fold_out-TStmt, ind-TStmt, map-TStmt, out-TStmt}
use Rattle.k_marks_meaning.specs.declared.jumps.Jumps.{Jumps}
use Rattle.k_marks_meaning.specs.declared.jumps.StatementJumps.{StatementJumps}
use Rattle.k_marks_meaning.specs.Jumps.{no_jumps, a_break, a_continue, a_return, jumps_of_both, out_of_loop, out_of_switch}
use Rattle.k_marks_meaning.specs.Contents.{Inside, both, inside, inside_step, only, part_inside, row, with_jumps}
use Rattle.k_marks_meaning.specs.Contents as contents
use Rattle.k_marks_meaning.specs.Reductions.{action_uses}
use Rattle.k_marks_meaning.specs.Uses.{declared_uses, option_uses, uses_of}
use Rattle.k_evaluation.specs.Flows.{Doing, Within, jumps_of_all}
use Rattle.k_evaluation.specs.JumpLaws.{StatementsAreListed, spot_in, spot_of}
use Rattle.k_evaluation.specs.Loops.{while_loop, do_loop}
use Rattle.k_evaluation.specs.Statements.{break, compound, continue, declaration, does, does_step, empty, expression, for_loop, if_else, if_jumps, part_step, return}
use Rattle.k_evaluation.specs.Switches.{PartDoing, ACase, ADefault, AStatement, statements_of, switch, switch_jumps}

-- the jumps of a part of a switch
abbrev jumps_of_part : PartDoing → Jumps
jumps_of_part (ACase place z) = no_jumps
jumps_of_part ADefault = no_jumps
jumps_of_part (AStatement s) = s.jumps

-- those of a part, and of the parts behind it
more_parts : (p : PartDoing) (parts : List PartDoing)
    → jumps_of_all (statements_of (p ∷ parts)) ≡ jumps_of_both (jumps_of_part p) (jumps_of_all (statements_of parts))
more_parts (ACase place z) parts = refl
more_parts ADefault parts = refl
more_parts (AStatement s) parts = refl

-- the jumps of a statement, by those of its statements and parts
abbrev jumps_by : TStmt-F PartDoing Doing → Jumps
jumps_by (TStmt-F.Expr spot e) = no_jumps
jumps_by (TStmt-F.Empty spot) = no_jumps
jumps_by (TStmt-F.Block spot parts) = jumps_of_all parts
jumps_by (TStmt-F.If spot test a b) = if_jumps a b
jumps_by (TStmt-F.While spot number test body) = out_of_loop body.jumps
jumps_by (TStmt-F.DoWhile spot number body test) = out_of_loop body.jumps
jumps_by (TStmt-F.For spot number start test step body) = out_of_loop body.jumps
jumps_by (TStmt-F.Switch spot kind on parts) = switch_jumps parts
jumps_by (TStmt-F.Break spot) = a_break
jumps_by (TStmt-F.Continue spot) = a_continue
jumps_by (TStmt-F.Return spot value) = a_return
jumps_by (TStmt-F.Declare spot list) = no_jumps

-- a step gives these
abbrev HasJumps : (TStmt-F PartDoing Doing → Doing) → Type 0
HasJumps step = (y : TStmt-F PartDoing Doing) → (step y).jumps ≡ jumps_by y

module _ (step : TStmt-F PartDoing Doing → Doing) (has : HasJumps step) where
  abbrev meant : TStmt → Doing
  meant = fold-TStmt PartDoing Doing part_step step

  abbrev part_meant : TPart → PartDoing
  part_meant = fold-TPart PartDoing Doing part_step step

  abbrev SameStmt : TStmt → Type 0
  SameStmt s = (meant s).jumps ≡ (inside s).jumps

  abbrev SamePart : TPart → Type 0
  SamePart p = jumps_of_part (part_meant p) ≡ (part_inside p).jumps

  abbrev stmt_trees : List ((s : TStmt) × SameStmt s) → List TStmt
  stmt_trees xs = map (λ (x : (s : TStmt) × SameStmt s). x.0) xs

  abbrev part_trees : List ((p : TPart) × SamePart p) → List TPart
  part_trees xs = map (λ (x : (p : TPart) × SamePart p). x.0) xs

  all_of : (xs : List ((s : TStmt) × SameStmt s)) → jumps_of_all (map meant (stmt_trees xs)) ≡ (row (map inside (stmt_trees xs))).jumps
  all_of [] = refl
  all_of (x ∷ xs) = λ i. jumps_of_both (x.1 i) (all_of xs i)

  parts_of : (xs : List ((p : TPart) × SamePart p))
      → jumps_of_all (statements_of (map part_meant (part_trees xs))) ≡ (row (map part_inside (part_trees xs))).jumps
  parts_of [] = refl
  parts_of (x ∷ xs) = more_parts (part_meant x.0) (map part_meant (part_trees xs)) ∙ (λ i. jumps_of_both (x.1 i) (parts_of xs i))

  abbrev PartLayer : TPart-F TPart TStmt → Type 0
  PartLayer z =
      jumps_of_part (part_step (map-TPart TPart TStmt PartDoing Doing part_meant meant z))
      ≡ (contents.part_step (map-TPart TPart TStmt Inside Inside part_inside inside z)).jumps

  abbrev StmtLayer : TStmt-F TPart TStmt → Type 0
  StmtLayer z =
      (step (map-TStmt TPart TStmt PartDoing Doing part_meant meant z)).jumps
      ≡ (inside_step (map-TStmt TPart TStmt Inside Inside part_inside inside z)).jumps

  part_by : (y : TPart-F ((p : TPart) × SamePart p) ((s : TStmt) × SameStmt s))
      → PartLayer (map-TPart _ _ TPart TStmt (λ (x : (p : TPart) × SamePart p). x.0) (λ (x : (s : TStmt) × SameStmt s). x.0) y)
  part_by (TPart-F.Case p z) = refl
  part_by (TPart-F.Default p) = refl
  part_by (TPart-F.Does p s) = s.1

  stmt_by : (y : TStmt-F ((p : TPart) × SamePart p) ((s : TStmt) × SameStmt s))
      → StmtLayer (map-TStmt _ _ TPart TStmt (λ (x : (p : TPart) × SamePart p). x.0) (λ (x : (s : TStmt) × SameStmt s). x.0) y)
  stmt_by (TStmt-F.Expr spot e) = has (TStmt-F.Expr spot e)
  stmt_by (TStmt-F.Empty spot) = has (TStmt-F.Empty spot)
  stmt_by (TStmt-F.Block spot parts) = has (TStmt-F.Block spot (map meant (stmt_trees parts))) ∙ all_of parts
  stmt_by (TStmt-F.If spot test a None) = has (TStmt-F.If spot test (meant a.0) None) ∙ ap (λ (j : Jumps). jumps_of_both j no_jumps) a.1
  stmt_by (TStmt-F.If spot test a (Some b)) = has (TStmt-F.If spot test (meant a.0) (Some (meant b.0))) ∙ (λ i. jumps_of_both (a.1 i) (b.1 i))
  stmt_by (TStmt-F.While spot number test a) = has (TStmt-F.While spot number test (meant a.0)) ∙ ap out_of_loop a.1
  stmt_by (TStmt-F.DoWhile spot number a test) = has (TStmt-F.DoWhile spot number (meant a.0) test) ∙ ap out_of_loop a.1
  stmt_by (TStmt-F.For spot number start test by a) = has (TStmt-F.For spot number start test by (meant a.0)) ∙ ap out_of_loop a.1
  stmt_by (TStmt-F.Switch spot kind on parts) = has (TStmt-F.Switch spot kind on (map part_meant (part_trees parts))) ∙ ap out_of_switch (parts_of parts)
  stmt_by (TStmt-F.Break spot) = has (TStmt-F.Break spot)
  stmt_by (TStmt-F.Continue spot) = has (TStmt-F.Continue spot)
  stmt_by (TStmt-F.Return spot e) = has (TStmt-F.Return spot e)
  stmt_by (TStmt-F.Declare spot list) = has (TStmt-F.Declare spot list)

  -- A STATEMENT
  jumps_same : (s : TStmt) → (fold-TStmt PartDoing Doing part_step step s).jumps ≡ (inside s).jumps
  jumps_same =
      ind-TStmt SamePart SameStmt
      (λ x y is.
      ap jumps_of_part (fold-roll-TPart PartDoing Doing part_step step x) ∙ subst PartLayer is (part_by y)
      ∙ ap (λ (i : Inside). i.jumps) (sym (fold-roll-TPart Inside Inside contents.part_step inside_step x)))
      (λ x y is.
      ap (λ (d : Doing). d.jumps) (fold-roll-TStmt PartDoing Doing part_step step x) ∙ subst StmtLayer is (stmt_by y)
      ∙ ap (λ (i : Inside). i.jumps) (sym (fold-roll-TStmt Inside Inside contents.part_step inside_step x)))

-- the steps of *Evaluation* give them
does_has : (w : Within) → HasJumps (does_step w)
unfolding expression empty compound if_else while_loop do_loop for_loop switch break continue return declaration
does_has w (TStmt-F.Expr spot e) = refl
does_has w (TStmt-F.Empty spot) = refl
does_has w (TStmt-F.Block spot parts) = refl
does_has w (TStmt-F.If spot test a b) = refl
does_has w (TStmt-F.While spot number test body) = refl
does_has w (TStmt-F.DoWhile spot number body test) = refl
does_has w (TStmt-F.For spot number start test step body) = refl
does_has w (TStmt-F.Switch spot kind on parts) = refl
does_has w (TStmt-F.Break spot) = refl
does_has w (TStmt-F.Continue spot) = refl
does_has w (TStmt-F.Return spot value) = refl
does_has w (TStmt-F.Declare spot list) = refl

-- the jumps that lead out of a statement, by *Evaluation* and by *Marks*
found_same : (w : Within) (s : TStmt) → (does w s).jumps ≡ (inside s).jumps
found_same w = jumps_same (does_step w) (does_has w)

-- WHAT IS LISTED: a statement itself stands last
abbrev Listed : Inside → Spot → Type 0
Listed i spot = (within : List StatementJumps) × (parts : Jumps) × (i.statements ≡ within ++ with_jumps spot parts i.jumps ∷ [])

listed_by : (spot : Spot) (parts : Inside) (inner jumps : Jumps) → Listed (contents.statement spot parts inner jumps) spot
listed_by spot parts inner jumps = (parts.statements, inner, refl)

listed_step : (y : TStmt-F Inside Inside) → Listed (inside_step y) (spot_in y)
listed_step (TStmt-F.Expr spot e) = listed_by spot (only (action_uses e)) no_jumps no_jumps
listed_step (TStmt-F.Empty spot) = listed_by spot contents.nothing no_jumps no_jumps
listed_step (TStmt-F.Block spot parts) = listed_by spot (row parts) (row parts).jumps (row parts).jumps
listed_step (TStmt-F.If spot test a b) =
    let other = unwrap_or b contents.nothing in
    listed_by spot (both (only (uses_of test)) (both a other)) (jumps_of_both a.jumps other.jumps) (jumps_of_both a.jumps other.jumps)
listed_step (TStmt-F.While spot number test body) = (body.statements, body.jumps, refl)
listed_step (TStmt-F.DoWhile spot number body test) = (body.statements, body.jumps, refl)
listed_step (TStmt-F.For spot number start test by body) = (body.statements, body.jumps, refl)
listed_step (TStmt-F.Switch spot kind on parts) = listed_by spot (both (only (uses_of on)) (row parts)) (row parts).jumps (out_of_switch (row parts).jumps)
listed_step (TStmt-F.Break spot) = listed_by spot contents.nothing no_jumps a_break
listed_step (TStmt-F.Continue spot) = listed_by spot contents.nothing no_jumps a_continue
listed_step (TStmt-F.Return spot value) = listed_by spot (only (option_uses value)) no_jumps a_return
listed_step (TStmt-F.Declare spot list) = listed_by spot (only (declared_uses list)) no_jumps no_jumps

-- the spot stays where its parts are seen
spot_kept : (z : TStmt-F TPart TStmt) → spot_in (map-TStmt TPart TStmt Inside Inside part_inside inside z) ≡ spot_in z
spot_kept (TStmt-F.Expr spot e) = refl
spot_kept (TStmt-F.Empty spot) = refl
spot_kept (TStmt-F.Block spot parts) = refl
spot_kept (TStmt-F.If spot test a b) = refl
spot_kept (TStmt-F.While spot number test body) = refl
spot_kept (TStmt-F.DoWhile spot number body test) = refl
spot_kept (TStmt-F.For spot number start test by body) = refl
spot_kept (TStmt-F.Switch spot kind on parts) = refl
spot_kept (TStmt-F.Break spot) = refl
spot_kept (TStmt-F.Continue spot) = refl
spot_kept (TStmt-F.Return spot value) = refl
spot_kept (TStmt-F.Declare spot list) = refl

listed : (s : TStmt) → Listed (inside s) (spot_of s)
listed s =
    let seen : TStmt-F Inside Inside = map-TStmt TPart TStmt Inside Inside part_inside inside (out-TStmt s) in
    subst (λ (i : Inside). Listed i (spot_of s)) (sym (fold_out-TStmt Inside Inside contents.part_step inside_step s))
    (subst (λ (spot : Spot). Listed (inside_step seen) spot) (spot_kept (out-TStmt s)) (listed_step seen))

-- EACH STATEMENT is listed with the jumps that *Evaluation* finds in it
pub statements_listed : StatementsAreListed
statements_listed w s =
    let it : Listed (inside s) (spot_of s) = listed s in
    (it.0, it.1, it.2 ∙ ap (λ (j : Jumps). it.0 ++ with_jumps (spot_of s) it.1 j ∷ []) (sym (found_same w s)))
