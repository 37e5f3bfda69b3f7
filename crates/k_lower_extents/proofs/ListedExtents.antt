-- The extents that the code lists are those of statements as they are lowered.
use Rattle.std.proofs.Common.{◌≡◌, Bool, true, false, List, [], ◌∷◌, ◌++◌, map, Some, None, refl, sym, ap, subst, ◌∙◌}
use Rattle.k_types_meaning.specs.declared.tree.statement.Spot.{Spot}
use Rattle.k_types_meaning.specs.declared.tree.statement.TPart.{TPart, fold-roll-TPart, map-TPart}
use Rattle.k_types_meaning.specs.declared.tree.statement.TPart.TheOpen.{TPart-F, TStmt-F}
use Rattle.k_types_meaning.specs.declared.tree.statement.TStmt.{TStmt, fold-roll-TStmt, ind-TStmt, map-TStmt}
use Rattle.k_types_meaning.specs.declared.tree.unit.TVariable.{TVariable}
use Rattle.k_lower_code.specs.Stretches.{Inside}
use Rattle.k_lower_extents.specs.declared.extent.Extent.{Extent}
use Rattle.k_lower_extents.specs.declared.extent.NumberedExtent.{NumberedExtent}
use Rattle.k_lower_extents.specs.declared.switches.PartExtent.{PartExtent}
use Rattle.k_lower_extents.specs.Extents.{Listed, PartListed, all_extents, parts_extents, extent_of, listed, listed_part, listed_part_step, listed_step}
use Rattle.k_lower_extents.specs.StatementSums.{Summed, PartSummed, all_within, parts_themselves, parts_within, summed_at, summed_part, summed_part_step, summed_step, summed_stmt, themselves, in_order, switch}
use Rattle.k_lower_extents.specs.ExpressionSums.{summed}
use Rattle.k_lower_extents.proofs.StatementRows.{part_extent, expression_row, compound_row, if_row, loop_row, declaration_row, for_row, switch_row, break_row, continue_row, return_row}

-- what is added up of a statement that is listed
abbrev pub forget : Listed → Summed
forget l = record { itself = extent_of l.itself; extents = l.extents }

-- the same of a part of a switch
abbrev pub forget_part : PartListed → PartSummed
forget_part p = record { part = part_extent p.part; extents = p.extents }

-- lists of statements and of parts
themselves_same : (ls : List Listed) → themselves (map forget ls) ≡ map extent_of (map (λ (l : Listed). l.itself) ls)
themselves_same [] = refl
themselves_same (l ∷ ls) = ap (λ (xs : List Extent). extent_of l.itself ∷ xs) (themselves_same ls)

within_same : (ls : List Listed) → all_within (map forget ls) ≡ all_extents ls
within_same [] = refl
within_same (l ∷ ls) = ap (λ (xs : List NumberedExtent). l.extents ++ xs) (within_same ls)

parts_same : (ps : List PartListed) → parts_themselves (map forget_part ps) ≡ map part_extent (map (λ (p : PartListed). p.part) ps)
parts_same [] = refl
parts_same (p ∷ ps) = ap (λ (xs : List PartExtent). part_extent p.part ∷ xs) (parts_same ps)

parts_within_same : (ps : List PartListed) → parts_within (map forget_part ps) ≡ parts_extents ps
parts_within_same [] = refl
parts_within_same (p ∷ ps) = ap (λ (xs : List NumberedExtent). p.extents ++ xs) (parts_within_same ps)

module _ (w : Inside) where
  abbrev vs : List TVariable
  vs = w.vars

  abbrev counted : List Bool
  counted = w.program.marks.counted

  -- each construct, of whose parts it is known
  at : (spot : Spot) (xs ys : List NumberedExtent) (x y : Extent) → xs ≡ ys → x ≡ y → summed_at spot xs x ≡ summed_at spot ys y
  at spot xs ys x y same is = λ i. summed_at spot (same i) (is i)

  row : (z : TStmt-F PartListed Listed)
      → summed_step vs counted (map-TStmt PartListed Listed PartSummed Summed forget_part forget z) ≡ forget (listed_step w z)
  row (TStmt-F.Expr spot e) = at spot [] [] _ _ refl (sym (expression_row w spot e))
  row (TStmt-F.Empty spot) = refl
  row (TStmt-F.Block spot parts) =
      at spot _ _ _ _ (within_same parts) (ap in_order (themselves_same parts) ∙ sym (compound_row w spot (map (λ (l : Listed). l.itself) parts)))
  row (TStmt-F.If spot test a None) = at spot _ _ _ _ refl (sym (if_row w spot test a.itself None))
  row (TStmt-F.If spot test a (Some b)) = at spot _ _ _ _ refl (sym (if_row w spot test a.itself (Some b.itself)))
  row (TStmt-F.While spot n test body) = at spot _ _ _ _ refl (sym (loop_row w spot n (Some test) None body.itself true))
  row (TStmt-F.DoWhile spot n body test) = at spot _ _ _ _ refl (sym (loop_row w spot n (Some test) None body.itself false))
  row (TStmt-F.For spot n start test step body) = at spot _ _ _ _ refl (sym (for_row w spot n start test step body.itself))
  row (TStmt-F.Switch spot kind on parts) =
      at spot _ _ _ _ (parts_within_same parts) (ap (switch (summed vs on)) (parts_same parts) ∙ sym (switch_row w spot kind on (map (λ (p : PartListed). p.part) parts)))
  row (TStmt-F.Break spot) = at spot [] [] _ _ refl (sym (break_row w spot))
  row (TStmt-F.Continue spot) = at spot [] [] _ _ refl (sym (continue_row w spot))
  row (TStmt-F.Return spot value) = at spot [] [] _ _ refl (sym (return_row w spot value))
  row (TStmt-F.Declare spot list) = at spot [] [] _ _ refl (sym (declaration_row w spot list))

  part_row : (z : TPart-F PartListed Listed) → summed_part_step (map-TPart PartListed Listed PartSummed Summed forget_part forget z) ≡ forget_part (listed_part_step z)
  part_row (TPart-F.Case place z) = refl
  part_row (TPart-F.Default place) = refl
  part_row (TPart-F.Does place s) = refl

  -- THE TREE
  abbrev sums : TStmt → Summed
  sums = summed_stmt vs counted

  abbrev sums_part : TPart → PartSummed
  sums_part = summed_part vs counted

  abbrev SameStmt : TStmt → Type 0
  SameStmt s = sums s ≡ forget (listed w s)

  abbrev SamePart : TPart → Type 0
  SamePart p = sums_part p ≡ forget_part (listed_part w p)

  abbrev PartLayer : TPart-F TPart TStmt → Type 0
  PartLayer z = summed_part_step (map-TPart TPart TStmt PartSummed Summed sums_part sums z) ≡ forget_part (listed_part_step (map-TPart TPart TStmt PartListed Listed (listed_part w) (listed w) z))

  abbrev StmtLayer : TStmt-F TPart TStmt → Type 0
  StmtLayer z = summed_step vs counted (map-TStmt TPart TStmt PartSummed Summed sums_part sums z) ≡ forget (listed_step w (map-TStmt TPart TStmt PartListed Listed (listed_part w) (listed w) z))

  part_by : (y : TPart-F ((p : TPart) × SamePart p) ((s : TStmt) × SameStmt s))
      → PartLayer (map-TPart _ _ TPart TStmt (λ (x : (p : TPart) × SamePart p). x.0) (λ (x : (s : TStmt) × SameStmt s). x.0) y)
  part_by (TPart-F.Case place z) = refl
  part_by (TPart-F.Default place) = refl
  part_by (TPart-F.Does place s) = ap (λ (x : Summed). summed_part_step (TPart-F.Does place x)) s.1

  stmt_by : (y : TStmt-F ((p : TPart) × SamePart p) ((s : TStmt) × SameStmt s))
      → StmtLayer (map-TStmt _ _ TPart TStmt (λ (x : (p : TPart) × SamePart p). x.0) (λ (x : (s : TStmt) × SameStmt s). x.0) y)
  stmt_by (TStmt-F.Expr spot e) = row (TStmt-F.Expr spot e)
  stmt_by (TStmt-F.Empty spot) = row (TStmt-F.Empty spot)
  stmt_by (TStmt-F.Block spot parts) =
      ap (λ (ss : List Summed). summed_step vs counted (TStmt-F.Block spot ss)) (all_summed parts)
      ∙ row (TStmt-F.Block spot (map (listed w) (map (λ (x : (s : TStmt) × SameStmt s). x.0) parts)))
    where
      all_summed : (ss : List ((s : TStmt) × SameStmt s)) → map sums (map (λ (x : (s : TStmt) × SameStmt s). x.0) ss)
          ≡ map forget (map (listed w) (map (λ (x : (s : TStmt) × SameStmt s). x.0) ss))
      all_summed [] = refl
      all_summed (s ∷ ss) = λ i. s.1 i ∷ all_summed ss i
  stmt_by (TStmt-F.If spot test a None) =
      ap (λ (x : Summed). summed_step vs counted (TStmt-F.If spot test x None)) a.1 ∙ row (TStmt-F.If spot test (listed w a.0) None)
  stmt_by (TStmt-F.If spot test a (Some b)) =
      (λ i. summed_step vs counted (TStmt-F.If spot test (a.1 i) (Some (b.1 i)))) ∙ row (TStmt-F.If spot test (listed w a.0) (Some (listed w b.0)))
  stmt_by (TStmt-F.While spot n test a) =
      ap (λ (x : Summed). summed_step vs counted (TStmt-F.While spot n test x)) a.1 ∙ row (TStmt-F.While spot n test (listed w a.0))
  stmt_by (TStmt-F.DoWhile spot n a test) =
      ap (λ (x : Summed). summed_step vs counted (TStmt-F.DoWhile spot n x test)) a.1 ∙ row (TStmt-F.DoWhile spot n (listed w a.0) test)
  stmt_by (TStmt-F.For spot n start test step a) =
      ap (λ (x : Summed). summed_step vs counted (TStmt-F.For spot n start test step x)) a.1 ∙ row (TStmt-F.For spot n start test step (listed w a.0))
  stmt_by (TStmt-F.Switch spot kind on parts) =
      ap (λ (ps : List PartSummed). summed_step vs counted (TStmt-F.Switch spot kind on ps)) (all_summed parts)
      ∙ row (TStmt-F.Switch spot kind on (map (listed_part w) (map (λ (x : (p : TPart) × SamePart p). x.0) parts)))
    where
      all_summed : (ps : List ((p : TPart) × SamePart p)) → map sums_part (map (λ (x : (p : TPart) × SamePart p). x.0) ps)
          ≡ map forget_part (map (listed_part w) (map (λ (x : (p : TPart) × SamePart p). x.0) ps))
      all_summed [] = refl
      all_summed (p ∷ ps) = λ i. p.1 i ∷ all_summed ps i
  stmt_by (TStmt-F.Break spot) = row (TStmt-F.Break spot)
  stmt_by (TStmt-F.Continue spot) = row (TStmt-F.Continue spot)
  stmt_by (TStmt-F.Return spot value) = row (TStmt-F.Return spot value)
  stmt_by (TStmt-F.Declare spot list) = row (TStmt-F.Declare spot list)

  -- A STATEMENT
  pub summed_listed : (s : TStmt) → summed_stmt vs counted s ≡ forget (listed w s)
  summed_listed =
      ind-TStmt SamePart SameStmt
      (λ x y is.
      fold-roll-TPart PartSummed Summed summed_part_step (summed_step vs counted) x
      ∙ (subst PartLayer is (part_by y) ∙ sym (ap forget_part (fold-roll-TPart PartListed Listed listed_part_step (listed_step w) x))))
      (λ x y is.
      fold-roll-TStmt PartSummed Summed summed_part_step (summed_step vs counted) x
      ∙ (subst StmtLayer is (stmt_by y) ∙ sym (ap forget (fold-roll-TStmt PartListed Listed listed_part_step (listed_step w) x))))
