-- What the walk lists of a statement, by what it lists of its parts.
use Rattle.std.proofs.Common.{◌≡◌, Bool, List, [], ◌∷◌, ◌++◌, Option, Some, None, Result, Ok, Err, IfOk, OnOk, refl, sym, ap, ◌∙◌, append_assoc, append-nil}
use Rattle.std.proofs.lemmas.Result.{IfOk-weaker, on_ok_weaker}
use Rattle.std.specs.Option.{option_map}
use Rattle.k_evaluation.specs.JumpLaws.{spot_in, spot_of}
use Rattle.k_num.specs.declared.memory.NoMemory.{NoMemory}
use Rattle.k_types_meaning.specs.declared.tree.expression.TExpr.{TExpr}
use Rattle.k_types_meaning.specs.declared.tree.statement.Spot.{Spot}
use Rattle.k_types_meaning.specs.declared.tree.statement.TPart.{TPart}
use Rattle.k_types_meaning.specs.declared.tree.statement.TPart.TheOpen.{TStmt-F}
use Rattle.k_types_meaning.specs.declared.tree.statement.TStmt.{TStmt, fold_out-TStmt, map-TStmt, out-TStmt, out-roll-TStmt, roll-TStmt}
use Rattle.k_types_meaning.specs.declared.tree.unit.TVariable.{TVariable}
use Rattle.k_lower_extents.specs.declared.extent.Extent.{Extent}
use Rattle.k_lower_extents.specs.declared.extent.NumberedExtent.{NumberedExtent}
use Rattle.k_lower_extents.specs.ExpressionSums.{summed}
use Rattle.k_lower_extents.specs.StatementSums.{PartSummed, Summed, if_else, numbered, option_itself, option_within, own_step, summed_part, summed_part_step, summed_step, summed_stmt, within_step, within_stmt}

-- the form of a statement
pub form_is : (s x : TStmt) (z : TStmt-F TPart TStmt) → s ≡ x → roll-TStmt z ≡ x → out-TStmt s ≡ z
form_is s x z is rolls = ap out-TStmt (is ∙ sym rolls) ∙ out-roll-TStmt z

-- a call answers this extent too
pub answered : (r : Result Extent NoMemory) (x y : Extent) → IfOk r (λ z. z ≡ x) → x ≡ y → IfOk r (λ z. z ≡ y)
answered r x y is same = IfOk-weaker r (λ z. z ≡ x) (λ z. z ≡ y) (λ z z_is. z_is ∙ same) is

-- what is so anyway is so behind a call
pub anyway : {P : Type 0} (r : Result Extent NoMemory) → P → OnOk r P
anyway (Ok x) p = p
anyway (Err e) p = tt

-- what was listed of a form was listed of what has that form
listed_of : {F : Type 0} (within : F → List NumberedExtent) (x z : F) (before among : List NumberedExtent) (r : Result Extent NoMemory)
    → x ≡ z → OnOk r (among ≡ before ++ within z) → OnOk r (among ≡ before ++ within x)
listed_of within x z before among r is found = on_ok_weaker r (λ all. all ∙ (λ i. before ++ within (sym is i))) found

module _ (vs : List TVariable) (counted : List Bool) where
  -- a statement, by how its parts are summed up
  abbrev pub seen : TStmt-F TPart TStmt → TStmt-F PartSummed Summed
  seen = map-TStmt TPart TStmt PartSummed Summed (summed_part vs counted) (summed_stmt vs counted)

  spot_kept : (z : TStmt-F TPart TStmt) → spot_in (seen z) ≡ spot_in z
  spot_kept (TStmt-F.Expr spot e) = refl
  spot_kept (TStmt-F.Empty spot) = refl
  spot_kept (TStmt-F.Block spot parts) = refl
  spot_kept (TStmt-F.If spot test a b) = refl
  spot_kept (TStmt-F.While spot n test body) = refl
  spot_kept (TStmt-F.DoWhile spot n body test) = refl
  spot_kept (TStmt-F.For spot n start test step body) = refl
  spot_kept (TStmt-F.Switch spot kind on parts) = refl
  spot_kept (TStmt-F.Break spot) = refl
  spot_kept (TStmt-F.Continue spot) = refl
  spot_kept (TStmt-F.Return spot value) = refl
  spot_kept (TStmt-F.Declare spot list) = refl

  summed_is : (s : TStmt) → summed_stmt vs counted s ≡ summed_step vs counted (seen (out-TStmt s))
  summed_is = fold_out-TStmt PartSummed Summed summed_part_step (summed_step vs counted)

  itself_is : (s : TStmt) → (summed_stmt vs counted s).itself ≡ own_step vs counted (seen (out-TStmt s))
  itself_is s = ap (λ (z : Summed). z.itself) (summed_is s)

  -- its own extent stands behind those of its parts
  own_last : (s : TStmt) → (summed_stmt vs counted s).extents ≡ within_stmt vs counted s ++ numbered (spot_of s) (summed_stmt vs counted s).itself ∷ []
  own_last s =
      ap (λ (z : Summed). z.extents) (summed_is s)
      ∙ (λ i. within_stmt vs counted s ++ numbered (spot_kept (out-TStmt s) i) (sym (itself_is s) i) ∷ [])

  -- the extent of a statement is listed behind those of its parts
  pub listed_last : (s : TStmt) (spot : Spot) (x : Extent) (before among after : List NumberedExtent) (r : Result Extent NoMemory)
      → spot ≡ spot_of s → x ≡ (summed_stmt vs counted s).itself → among ≡ before ++ within_stmt vs counted s
      → IfOk r (λ y. y ≡ x) → OnOk r (after ≡ among ++ numbered spot x ∷ [])
      → record {
        extent : IfOk r (λ y. y ≡ (summed_stmt vs counted s).itself);
        found : OnOk r (after ≡ before ++ (summed_stmt vs counted s).extents);
      }
  listed_last s spot x before among after r spot_is x_is among_is extent found = record {
    extent = IfOk-weaker r (λ y. y ≡ x) (λ y. y ≡ (summed_stmt vs counted s).itself) (λ y is. is ∙ x_is) extent;
    found = on_ok_weaker r
        (λ is.
        is ∙ ((λ i. among_is i ++ numbered (spot_is i) (x_is i) ∷ [])
        ∙ (append_assoc before (within_stmt vs counted s) (numbered (spot_of s) (summed_stmt vs counted s).itself ∷ [])
        ∙ ap (λ (xs : List NumberedExtent). before ++ xs) (sym (own_last s)))))
        found;
  }

  -- the extents of the parts of a statement were listed, by its form
  pub within_row : (s : TStmt) (z : TStmt-F TPart TStmt) (before among : List NumberedExtent) (r : Result Extent NoMemory)
      → out-TStmt s ≡ z → IfOk r (λ y. y ≡ own_step vs counted (seen z)) → OnOk r (among ≡ before ++ within_step (seen z))
      → record {
        extent : IfOk r (λ y. y ≡ (summed_stmt vs counted s).itself);
        found : OnOk r (among ≡ before ++ within_stmt vs counted s);
      }
  within_row s z before among r is extent found = record {
    extent = answered r (own_step vs counted (seen z)) (summed_stmt vs counted s).itself extent
        (sym (itself_is s ∙ ap (λ (x : TStmt-F TPart TStmt). own_step vs counted (seen x)) is));
    found = listed_of (λ (x : TStmt-F TPart TStmt). within_step (seen x)) (out-TStmt s) z before among r is found;
  }

  -- an `if`, of which the second arm may be left out
  pub if_itself : (spot : Spot) (test : TExpr) (a : TStmt) (b : Option TStmt) → own_step vs counted (seen (TStmt-F.If spot test a b))
      ≡ if_else (summed vs test).used (summed_stmt vs counted a).itself (option_itself (option_map (summed_stmt vs counted) b))
  if_itself spot test a None = refl
  if_itself spot test a (Some b) = refl

  pub if_within : (spot : Spot) (test : TExpr) (a : TStmt) (b : Option TStmt) → within_step (seen (TStmt-F.If spot test a b))
      ≡ (summed_stmt vs counted a).extents ++ option_within (option_map (summed_stmt vs counted) b)
  if_within spot test a None = refl
  if_within spot test a (Some b) = refl

-- a list behind nothing
pub nothing_more : (xs : List NumberedExtent) → xs ≡ xs ++ []
nothing_more xs = sym (append-nil xs)
