use Rattle.std.proofs.Common.{ap, ◌∙◌}
use Rattle.std.specs.Prelude.{drop}
use Rattle.k_math.specs.declared.tables.TheConstants.{ODD_NUMBERS}
use Rattle.k_math.specs.Pairs.{product_of}
use Rattle.k_math.specs.Series.{series_of}
use Rattle.k_math.specs.Logarithm.{twice_artanh}
use Rattle.k_math.proofs.logarithm.artanh_twice.Goals as goal

pub returns : goal.returns
unfolding twice_artanh
returns c =
    let s = c.args.s in
    c.product-3.ensures
    ∙ ap (λ q. product_of q c.from_double.result) (c.product-2.ensures ∙ ap (λ p. product_of p s) (c.series_behind-p.ensures ∙ ap (λ z. series_of z (drop 1 ODD_NUMBERS)) c.product.ensures))
    ∙ ap (λ t. product_of (product_of (series_of (product_of s s) (drop 1 ODD_NUMBERS)) s) t) c.from_double.ensures
