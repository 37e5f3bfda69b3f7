use Rattle.std.proofs.Common.{ap, ◌∙◌}
use Rattle.std.specs.Prelude.{drop}
use Rattle.k_math.specs.declared.tables.TheConstants.{FACTORIALS}
use Rattle.k_math.specs.Pairs.{negated_of, product_of}
use Rattle.k_math.specs.Series.{alternate_of}
use Rattle.k_math.specs.Circle.{sine_of}
use Rattle.k_math.proofs.circle.sine.Goals as goal

pub returns : goal.returns
unfolding sine_of
returns c =
    c.product-2.ensures
    ∙ ap (λ p. product_of p c.args.a) (c.alternate_behind.ensures ∙ ap (λ z. alternate_of z (drop 1 FACTORIALS)) (c.negated.ensures ∙ ap negated_of c.product.ensures))
