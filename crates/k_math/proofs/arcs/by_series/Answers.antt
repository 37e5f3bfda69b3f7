use Rattle.std.proofs.Common.{ap, ◌∙◌}
use Rattle.k_math.specs.declared.tables.TheConstants.{ODD_NUMBERS}
use Rattle.k_math.specs.Pairs.{negated_of, product_of}
use Rattle.k_math.specs.Series.{series_of}
use Rattle.k_math.specs.Arcs.{atan_series}
use Rattle.k_math.proofs.arcs.by_series.Goals as goal

pub returns : goal.returns
unfolding atan_series
returns c =
    c.product-2.ensures
    ∙ ap (λ p. product_of p c.args.t) (c.series.ensures ∙ ap (λ z. series_of z ODD_NUMBERS) (c.negated.ensures ∙ ap negated_of c.product.ensures))
