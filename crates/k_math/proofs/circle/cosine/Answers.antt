use Rattle.std.proofs.Common.{ap, ◌∙◌}
use Rattle.k_math.specs.declared.tables.TheConstants.{FACTORIALS}
use Rattle.k_math.specs.Pairs.{negated_of}
use Rattle.k_math.specs.Series.{alternate_of}
use Rattle.k_math.specs.Circle.{cosine_of}
use Rattle.k_math.proofs.circle.cosine.Goals as goal

pub returns : goal.returns
unfolding cosine_of
returns c = c.alternate.ensures ∙ ap (λ z. alternate_of z FACTORIALS) (c.negated.ensures ∙ ap negated_of c.product.ensures)
