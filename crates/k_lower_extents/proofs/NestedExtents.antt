-- What a table that has the extents of a statement has of the statement itself, and of the statements in it.
use Rattle.std.proofs.Common.{ℕ, zero, suc, ◌≡◌, ◌<◌, arith, get_or, length, List, [], ◌∷◌, ◌++◌, map, Option, Some, None, refl, sym, ap, subst, ◌∙◌}
use Rattle.k_num.specs.declared.numbers.Kind.{Kind}
use Rattle.k_num.specs.declared.place.Place.{Place}
use Rattle.k_types_meaning.specs.declared.tree.expression.TExpr.{TExpr}
use Rattle.k_types_meaning.specs.declared.tree.statement.Spot.{Spot}
use Rattle.k_types_meaning.specs.declared.tree.statement.TFirst.{TFirst}
use Rattle.k_types_meaning.specs.declared.tree.statement.TPart.{TPart, fold-roll-TPart, map-TPart}
use Rattle.k_types_meaning.specs.declared.tree.statement.TPart.TheOpen.{TPart-F, TStmt-F}
use Rattle.k_types_meaning.specs.declared.tree.statement.TPart.TheVariants as part
use Rattle.k_types_meaning.specs.declared.tree.statement.TStmt.{TStmt, fold-roll-TStmt, fold_out-TStmt, ind-TStmt, map-TStmt, out-TStmt}
use Rattle.k_types_meaning.specs.declared.tree.statement.TStmt.TheVariants as stmt
use Rattle.k_types_meaning.proofs.Folds.{done_Block, done_alone, done_else, done_While, done_DoWhile, done_For, done_Switch, part_Does}
use Rattle.k_evaluation.specs.JumpLaws.{spot_in, spot_of}
use Rattle.k_lower_code.specs.Statements.{lower_step, part_step, lowered}
use Rattle.k_lower_code.specs.Stretches.{Inside, Stretch}
use Rattle.k_lower_code.specs.Switches.{PartLowered}
use Rattle.k_lower_extents.specs.declared.extent.Extent.{Extent}
use Rattle.k_lower_extents.specs.declared.extent.NumberedExtent.{NumberedExtent}
use Rattle.k_lower_extents.specs.Extents.{AreAllExtents, AreEntries, AreExtents, ArePartsExtents, IsEntry, Listed, PartListed, all_extents, extent_of, extents_within, listed, listed_part, listed_part_step, listed_step, lowered_part, parts_extents}

-- entries in front of others, and behind them
pub front : (t : List (Option Extent)) (xs ys : List NumberedExtent) → AreEntries t (xs ++ ys) → AreEntries t xs
front t [] ys all = tt
front t (x ∷ xs) ys all = (all.0, front t xs ys all.1)

pub rest : (t : List (Option Extent)) (xs ys : List NumberedExtent) → AreEntries t (xs ++ ys) → AreEntries t ys
rest t [] ys all = all
rest t (x ∷ xs) ys all = rest t xs ys all.1

module _ (w : Inside) where
  -- A STATEMENT THAT IS LISTED is lowered as it is without the list
  abbrev SameStmt : TStmt → Type 0
  SameStmt s = (listed w s).itself ≡ lowered w s

  abbrev SamePart : TPart → Type 0
  SamePart p = (listed_part w p).part ≡ lowered_part w p

  abbrev PartLayer : TPart-F TPart TStmt → Type 0
  PartLayer z = (listed_part_step (map-TPart TPart TStmt PartListed Listed (listed_part w) (listed w) z)).part
      ≡ part_step (map-TPart TPart TStmt PartLowered Stretch (lowered_part w) (lowered w) z)

  abbrev StmtLayer : TStmt-F TPart TStmt → Type 0
  StmtLayer z = (listed_step w (map-TStmt TPart TStmt PartListed Listed (listed_part w) (listed w) z)).itself
      ≡ lower_step w (map-TStmt TPart TStmt PartLowered Stretch (lowered_part w) (lowered w) z)

  statements_same : (ss : List ((s : TStmt) × SameStmt s))
      → map (λ (l : Listed). l.itself) (map (listed w) (map (λ (x : (s : TStmt) × SameStmt s). x.0) ss))
      ≡ map (lowered w) (map (λ (x : (s : TStmt) × SameStmt s). x.0) ss)
  statements_same [] = refl
  statements_same (s ∷ ss) = λ i. s.1 i ∷ statements_same ss i

  parts_same : (ps : List ((p : TPart) × SamePart p))
      → map (λ (p : PartListed). p.part) (map (listed_part w) (map (λ (x : (p : TPart) × SamePart p). x.0) ps))
      ≡ map (lowered_part w) (map (λ (x : (p : TPart) × SamePart p). x.0) ps)
  parts_same [] = refl
  parts_same (p ∷ ps) = λ i. p.1 i ∷ parts_same ps i

  part_by : (y : TPart-F ((p : TPart) × SamePart p) ((s : TStmt) × SameStmt s))
      → PartLayer (map-TPart _ _ TPart TStmt (λ (x : (p : TPart) × SamePart p). x.0) (λ (x : (s : TStmt) × SameStmt s). x.0) y)
  part_by (TPart-F.Case place z) = refl
  part_by (TPart-F.Default place) = refl
  part_by (TPart-F.Does place s) = ap (λ (t : Stretch). part_step (TPart-F.Does place t)) s.1

  stmt_by : (y : TStmt-F ((p : TPart) × SamePart p) ((s : TStmt) × SameStmt s))
      → StmtLayer (map-TStmt _ _ TPart TStmt (λ (x : (p : TPart) × SamePart p). x.0) (λ (x : (s : TStmt) × SameStmt s). x.0) y)
  stmt_by (TStmt-F.Expr spot e) = refl
  stmt_by (TStmt-F.Empty spot) = refl
  stmt_by (TStmt-F.Block spot parts) = ap (λ (ts : List Stretch). lower_step w (TStmt-F.Block spot ts)) (statements_same parts)
  stmt_by (TStmt-F.If spot test a None) = ap (λ (t : Stretch). lower_step w (TStmt-F.If spot test t None)) a.1
  stmt_by (TStmt-F.If spot test a (Some b)) = λ i. lower_step w (TStmt-F.If spot test (a.1 i) (Some (b.1 i)))
  stmt_by (TStmt-F.While spot n test a) = ap (λ (t : Stretch). lower_step w (TStmt-F.While spot n test t)) a.1
  stmt_by (TStmt-F.DoWhile spot n a test) = ap (λ (t : Stretch). lower_step w (TStmt-F.DoWhile spot n t test)) a.1
  stmt_by (TStmt-F.For spot n start test step a) = ap (λ (t : Stretch). lower_step w (TStmt-F.For spot n start test step t)) a.1
  stmt_by (TStmt-F.Switch spot kind on parts) = ap (λ (ps : List PartLowered). lower_step w (TStmt-F.Switch spot kind on ps)) (parts_same parts)
  stmt_by (TStmt-F.Break spot) = refl
  stmt_by (TStmt-F.Continue spot) = refl
  stmt_by (TStmt-F.Return spot value) = refl
  stmt_by (TStmt-F.Declare spot list) = refl

  pub itself_is : (s : TStmt) → (listed w s).itself ≡ lowered w s
  itself_is =
      ind-TStmt SamePart SameStmt
      (λ x y is.
      ap (λ (p : PartListed). p.part) (fold-roll-TPart PartListed Listed listed_part_step (listed_step w) x)
      ∙ (subst PartLayer is (part_by y) ∙ sym (fold-roll-TPart PartLowered Stretch part_step (lower_step w) x)))
      (λ x y is.
      ap (λ (l : Listed). l.itself) (fold-roll-TStmt PartListed Listed listed_part_step (listed_step w) x)
      ∙ (subst StmtLayer is (stmt_by y) ∙ sym (fold-roll-TStmt PartLowered Stretch part_step (lower_step w) x)))

  -- ITS OWN EXTENT stands last in the list
  spot_kept : (z : TStmt-F TPart TStmt) → spot_in (map-TStmt TPart TStmt PartListed Listed (listed_part w) (listed w) z) ≡ spot_in z
  spot_kept (TStmt-F.Expr spot e) = refl
  spot_kept (TStmt-F.Empty spot) = refl
  spot_kept (TStmt-F.Block spot parts) = refl
  spot_kept (TStmt-F.If spot test a b) = refl
  spot_kept (TStmt-F.While spot n test body) = refl
  spot_kept (TStmt-F.DoWhile spot n body test) = refl
  spot_kept (TStmt-F.For spot n start test step body) = refl
  spot_kept (TStmt-F.Switch spot kind on parts) = refl
  spot_kept (TStmt-F.Break spot) = refl
  spot_kept (TStmt-F.Continue spot) = refl
  spot_kept (TStmt-F.Return spot value) = refl
  spot_kept (TStmt-F.Declare spot list) = refl

  abbrev own : TStmt → NumberedExtent
  own s = record { number = (spot_of s).number; extent = extent_of (lowered w s) }

  own_last : (s : TStmt) → (xs : List NumberedExtent) × ((listed w s).extents ≡ xs ++ own s ∷ [])
  own_last s =
      (let seen : TStmt-F PartListed Listed = map-TStmt TPart TStmt PartListed Listed (listed_part w) (listed w) (out-TStmt s) in
      (let it : listed w s ≡ listed_step w seen = fold_out-TStmt PartListed Listed listed_part_step (listed_step w) s in
      (let spot : spot_in seen ≡ spot_of s = spot_kept (out-TStmt s) in
      (let itself : (listed_step w seen).itself ≡ lowered w s = ap (λ (l : Listed). l.itself) (sym it) ∙ itself_is s in (
        extents_within seen,
        ap (λ (l : Listed). l.extents) it
            ∙ (λ i. extents_within seen ++ record { number = (spot i).number; extent = extent_of (itself i) } ∷ []),
      )))))

  pub own_entry : (t : List (Option Extent)) (s : TStmt) → AreExtents t w s → IsEntry t (own s)
  own_entry t s all =
      (let last : (xs : List NumberedExtent) × ((listed w s).extents ≡ xs ++ own s ∷ []) = own_last s in
      (rest t last.0 (own s ∷ []) (subst (AreEntries t) last.1 all)).0)

  -- THE STATEMENTS IN A STATEMENT
  module _ (t : List (Option Extent)) where
    within : (s : TStmt) (y : TStmt-F PartListed Listed) → listed w s ≡ listed_step w y → AreExtents t w s → AreEntries t (extents_within y)
    within s y is all =
        front t (extents_within y) (record { number = (spot_in y).number; extent = extent_of (listed_step w y).itself } ∷ []) (subst (λ (l : Listed). AreEntries t l.extents) is all)

    pub block_parts : (spot : Spot) (parts : List TStmt) → AreExtents t w (stmt.Block spot parts) → AreAllExtents t w parts
    block_parts spot parts all =
        within (stmt.Block spot parts) (TStmt-F.Block spot (map (listed w) parts)) (done_Block PartListed Listed listed_part_step (listed_step w) spot parts) all

    pub only_arm : (spot : Spot) (test : TExpr) (a : TStmt) → AreExtents t w (stmt.If spot test a None) → AreExtents t w a
    only_arm spot test a all =
        front t (listed w a).extents []
        (within (stmt.If spot test a None) (TStmt-F.If spot test (listed w a) None) (done_alone PartListed Listed listed_part_step (listed_step w) spot test a) all)

    pub first_arm : (spot : Spot) (test : TExpr) (a b : TStmt) → AreExtents t w (stmt.If spot test a (Some b)) → AreExtents t w a
    first_arm spot test a b all =
        front t (listed w a).extents (listed w b).extents
        (within (stmt.If spot test a (Some b)) (TStmt-F.If spot test (listed w a) (Some (listed w b))) (done_else PartListed Listed listed_part_step (listed_step w) spot test a b) all)

    pub second_arm : (spot : Spot) (test : TExpr) (a b : TStmt) → AreExtents t w (stmt.If spot test a (Some b)) → AreExtents t w b
    second_arm spot test a b all =
        rest t (listed w a).extents (listed w b).extents
        (within (stmt.If spot test a (Some b)) (TStmt-F.If spot test (listed w a) (Some (listed w b))) (done_else PartListed Listed listed_part_step (listed_step w) spot test a b) all)

    pub while_body : (spot : Spot) (n : ℕ) (test : TExpr) (a : TStmt) → AreExtents t w (stmt.While spot n test a) → AreExtents t w a
    while_body spot n test a all =
        within (stmt.While spot n test a) (TStmt-F.While spot n test (listed w a)) (done_While PartListed Listed listed_part_step (listed_step w) spot n test a) all

    pub do_body : (spot : Spot) (n : ℕ) (a : TStmt) (test : TExpr) → AreExtents t w (stmt.DoWhile spot n a test) → AreExtents t w a
    do_body spot n a test all =
        within (stmt.DoWhile spot n a test) (TStmt-F.DoWhile spot n (listed w a) test) (done_DoWhile PartListed Listed listed_part_step (listed_step w) spot n a test) all

    pub for_body : (spot : Spot) (n : ℕ) (start : TFirst) (test step : Option TExpr) (a : TStmt) → AreExtents t w (stmt.For spot n start test step a) → AreExtents t w a
    for_body spot n start test step a all =
        within (stmt.For spot n start test step a) (TStmt-F.For spot n start test step (listed w a))
        (done_For PartListed Listed listed_part_step (listed_step w) spot n start test step a) all

    pub switch_parts : (spot : Spot) (kind : Kind) (on : TExpr) (parts : List TPart) → AreExtents t w (stmt.Switch spot kind on parts) → ArePartsExtents t w parts
    switch_parts spot kind on parts all =
        within (stmt.Switch spot kind on parts) (TStmt-F.Switch spot kind on (map (listed_part w) parts))
        (done_Switch PartListed Listed listed_part_step (listed_step w) spot kind on parts) all

    pub part_statement : (place : Place) (s : TStmt) → AreEntries t (listed_part w (part.Does place s)).extents → AreExtents t w s
    part_statement place s all = subst (λ (p : PartListed). AreEntries t p.extents) (part_Does PartListed Listed listed_part_step (listed_step w) place s) all

    -- of several statements, the first and those behind it, and the same of parts
    pub first_statement : (s : TStmt) (ss : List TStmt) → AreAllExtents t w (s ∷ ss) → AreExtents t w s
    first_statement s ss all = front t (listed w s).extents (all_extents (map (listed w) ss)) all

    pub later_statements : (s : TStmt) (ss : List TStmt) → AreAllExtents t w (s ∷ ss) → AreAllExtents t w ss
    later_statements s ss all = rest t (listed w s).extents (all_extents (map (listed w) ss)) all

    pub first_part : (p : TPart) (ps : List TPart) → ArePartsExtents t w (p ∷ ps) → AreEntries t (listed_part w p).extents
    first_part p ps all = front t (listed_part w p).extents (parts_extents (map (listed_part w) ps)) all

    pub later_parts : (p : TPart) (ps : List TPart) → ArePartsExtents t w (p ∷ ps) → ArePartsExtents t w ps
    later_parts p ps all = rest t (listed_part w p).extents (parts_extents (map (listed_part w) ps)) all

    -- the statement of a number, and the part of a number
    pub statement_there : (ss : List TStmt) (i : ℕ) (s : TStmt) → i < length ss → s ≡ get_or ss i s → AreAllExtents t w ss → AreExtents t w s
    statement_there [] i s below is all = absurd (omega (arith, below))
    statement_there (x ∷ ss) zero s below is all = subst (AreExtents t w) (sym is) (first_statement x ss all)
    statement_there (x ∷ ss) (suc i) s below is all = statement_there ss i s (omega (arith, below)) is (later_statements x ss all)

    pub part_there : (ps : List TPart) (i : ℕ) (p : TPart) → i < length ps → p ≡ get_or ps i p → ArePartsExtents t w ps
        → AreEntries t (listed_part w p).extents
    part_there [] i p below is all = absurd (omega (arith, below))
    part_there (x ∷ ps) zero p below is all = subst (λ (q : TPart). AreEntries t (listed_part w q).extents) (sym is) (first_part x ps all)
    part_there (x ∷ ps) (suc i) p below is all = part_there ps i p (omega (arith, below)) is (later_parts x ps all)
