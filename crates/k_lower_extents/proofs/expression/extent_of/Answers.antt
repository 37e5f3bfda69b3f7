use Rattle.std.proofs.Common.{◌≡◌, sym, subst}
use Rattle.std.proofs.lemmas.Result.{IfOk-weaker}
use Rattle.k_lower_extents.specs.declared.expression.ExpressionExtent.{ExpressionExtent}
use Rattle.k_lower_extents.specs.ExpressionSums.{summed}
use Rattle.k_lower_extents.specs.Sized.{HasExtent}
use Rattle.k_lower_extents.proofs.ExpressionExtents.{summed_has}
use Rattle.k_lower_extents.proofs.expression.extent_of.Goals as goal

pub returns : goal.returns
returns c =
    IfOk-weaker c.extent.result (λ (x : ExpressionExtent). x ≡ summed c.args.variables.now c.args.e.now) (HasExtent c.args.variables.now c.args.e.now)
    (λ x is. subst (HasExtent c.args.variables.now c.args.e.now) (sym is) (summed_has c.args.variables.now c.args.e.now)) c.extent.ensures
