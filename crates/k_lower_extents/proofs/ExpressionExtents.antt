-- The extent of each expression is that which the code adds up.
use Rattle.std.proofs.Common.{List, [], ◌∷◌, map, sym, subst}
use Rattle.k_types_meaning.specs.declared.tree.expression.TExpr.{TExpr, fold-roll-TExpr, ind-TExpr, map-TExpr, roll-TExpr}
use Rattle.k_types_meaning.specs.declared.tree.expression.TExpr.TheOpen.{TExpr-F}
use Rattle.k_types_meaning.specs.declared.tree.unit.TVariable.{TVariable}
use Rattle.k_evaluation.specs.States.{Program}
use Rattle.k_lower_code.specs.Expressions.{lower_step, lowered}
use Rattle.k_lower_code.specs.Lowered.{Lowered}
use Rattle.k_lower_extents.specs.declared.expression.ExpressionExtent.{ExpressionExtent}
use Rattle.k_lower_extents.specs.ExpressionSums.{summed, summed_step}
use Rattle.k_lower_extents.specs.Sized.{IsExtent, HasExtent}
use Rattle.k_lower_extents.proofs.ExpressionRows.{AreExtents, number_row, string_row, object_row, variable_row, index_row, deref_row, address_row, plus_row, unary_row, convert_row, cast_row, binary_row, compare_row, distance_row, forward_row, back_row, onto_row, both_row, either_row, cond_row, comma_row, getchar_row, putchar_row, puts_row, printf_row, call_row, assign_row, assign_by_row, pre_row, post_row}

module _ (program : Program) (vs : List TVariable) where
  abbrev made : TExpr → Lowered
  made = lowered program vs

  abbrev sums : TExpr → ExpressionExtent
  sums = summed vs

  abbrev Right : TExpr → Type 0
  Right e = IsExtent (made e) (sums e)

  all_right : {B : Type 0} (items : List B) (expr : B → TExpr) → ((b : B) → Right (expr b)) → AreExtents (map made (map expr items)) (map sums (map expr items))
  all_right [] expr each = tt
  all_right (b ∷ items) expr each = (each b, all_right items expr each)

  abbrev Layer : TExpr-F TExpr → Type 0
  Layer z = IsExtent (lower_step program vs (map-TExpr TExpr Lowered made z)) (summed_step vs (map-TExpr TExpr ExpressionExtent sums z))

  by : (y : TExpr-F ((e : TExpr) × Right e)) → Layer (map-TExpr _ TExpr (λ (e : (e : TExpr) × Right e). e.0) y)
  by (TExpr-F.Number node z) = number_row program node z
  by (TExpr-F.Str node n bytes) = string_row program node n bytes
  by (TExpr-F.Object node n) = object_row program node n
  by (TExpr-F.Variable node n) = variable_row program vs node n
  by (TExpr-F.Index node a b) = index_row program node (made a.0) (made b.0) (sums a.0) (sums b.0) a.1 b.1
  by (TExpr-F.Call node f args) = call_row program node f _ _ (all_right args (λ e. e.0) (λ e. e.1))
  by (TExpr-F.Getchar node) = getchar_row program node
  by (TExpr-F.Putchar node a) = putchar_row program node (made a.0) (sums a.0) a.1
  by (TExpr-F.Puts node a) = puts_row program node (made a.0)
  by (TExpr-F.Printf node format args) = printf_row program node format _ _ (all_right args (λ e. e.0) (λ e. e.1))
  by (TExpr-F.Post node change a) = post_row program node change (made a.0) (sums a.0) a.1
  by (TExpr-F.Pre node change a) = pre_row program node change (made a.0) (sums a.0) a.1
  by (TExpr-F.Address node a) = address_row program node (made a.0) (sums a.0) a.1
  by (TExpr-F.Deref node a) = deref_row program node (made a.0) (sums a.0) a.1
  by (TExpr-F.Plus node a) = plus_row program node (made a.0) (sums a.0) a.1
  by (TExpr-F.Unary node op kind a) = unary_row program node op kind (made a.0) (sums a.0) a.1
  by (TExpr-F.Convert node a) = convert_row program node (made a.0) (sums a.0) a.1
  by (TExpr-F.Cast node a) = cast_row program node (made a.0) (sums a.0) a.1
  by (TExpr-F.Binary node op kind a b) = binary_row program node op kind (made a.0) (made b.0) (sums a.0) (sums b.0) a.1 b.1
  by (TExpr-F.Both node a b) = both_row program node (made a.0) (made b.0) (sums a.0) (sums b.0) a.1 b.1
  by (TExpr-F.Either node a b) = either_row program node (made a.0) (made b.0) (sums a.0) (sums b.0) a.1 b.1
  by (TExpr-F.Forward node a b) = forward_row program node (made a.0) (made b.0) (sums a.0) (sums b.0) a.1 b.1
  by (TExpr-F.Onto node a b) = onto_row program node (made a.0) (made b.0) (sums a.0) (sums b.0) a.1 b.1
  by (TExpr-F.Back node a b) = back_row program node (made a.0) (made b.0) (sums a.0) (sums b.0) a.1 b.1
  by (TExpr-F.PtrCompare node op a b) = compare_row program node op (made a.0) (made b.0) (sums a.0) (sums b.0) a.1 b.1
  by (TExpr-F.PtrDistance node a b) = distance_row program node (made a.0) (made b.0) (sums a.0) (sums b.0) a.1 b.1
  by (TExpr-F.Cond node a b c) = cond_row program node (made a.0) (made b.0) (made c.0) (sums a.0) (sums b.0) (sums c.0) a.1 b.1 c.1
  by (TExpr-F.Assign node a b) = assign_row program node (made a.0) (made b.0) (sums a.0) (sums b.0) a.1 b.1
  by (TExpr-F.AssignBy node change a b) = assign_by_row program node change (made a.0) (made b.0) (sums a.0) (sums b.0) a.1 b.1
  by (TExpr-F.Comma node a b) = comma_row program node (made a.0) (made b.0) (sums a.0) (sums b.0) a.1 b.1

  -- AN EXPRESSION
  pub summed_right : (e : TExpr) → IsExtent (lowered program vs e) (summed vs e)
  summed_right =
      ind-TExpr Right
      (λ x y is.
      subst (λ (l : Lowered). IsExtent l (sums (roll-TExpr x))) (sym (fold-roll-TExpr Lowered (lower_step program vs) x))
      (subst (λ (s : ExpressionExtent). IsExtent (lower_step program vs (map-TExpr TExpr Lowered made x)) s) (sym (fold-roll-TExpr ExpressionExtent (summed_step vs) x))
      (subst Layer is (by y))))

-- the extent that the code adds up
pub summed_has : (vs : List TVariable) (e : TExpr) → HasExtent vs e (summed vs e)
summed_has vs e program = summed_right program vs e
