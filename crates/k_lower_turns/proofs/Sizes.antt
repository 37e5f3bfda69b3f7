-- The sizes of tests and of steps that may be left out.
use Rattle.std.proofs.Common.{◌≡◌, ◌+◌, false, Option, Some, sym, ap, ◌∙◌, arith}
use Rattle.k_types_meaning.specs.declared.tree.expression.TExpr.{TExpr}
use Rattle.k_lower_code.specs.Declarations.{means, temporary}
use Rattle.k_lower_code.specs.Loops.{step_or_none, test_or_one}
use Rattle.k_lower_code.specs.Stretches.{Inside}
use Rattle.k_lower_extents.specs.Sized.{HasExtent}
use Rattle.k_lower_extents.specs.declared.expression.ExpressionExtent.{ExpressionExtent}

module _ (w : Inside) (choice : Option TExpr) (e got : TExpr) (x : ExpressionExtent) (is : choice ≡ Some e) (same : got ≡ e) (has : HasExtent w.vars got x) where
  -- a test of which the extent was found
  pub test_has : x.used ≡ (test_or_one w choice).size
  test_has =
      sym ((has w.program).used (temporary w)) ∙ (ap (λ (y : TExpr). (test_or_one w (Some y)).size) same ∙ ap (λ (o : Option TExpr). (test_or_one w o).size) (sym is))

  -- a step of which the extent was found
  pub step_has : x.unused ≡ (step_or_none w choice).size
  step_has =
      (let one : ((means w got).value false (temporary w)).size ≡ x.unused = (has w.program).unused (temporary w) in
      (let whole : x.unused ≡ ((means w got).value false (temporary w)).size + 0 = omega (arith, one) in
      whole ∙ (ap (λ (y : TExpr). (step_or_none w (Some y)).size) same ∙ ap (λ (o : Option TExpr). (step_or_none w o).size) (sym is))))
