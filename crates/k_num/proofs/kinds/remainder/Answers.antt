use Rattle.std.proofs.Common.{◌%◌, ◌^◌, ap, ◌∙◌}
use Rattle.k_num.specs.Kind.{width}
use Rattle.k_num.proofs.Remainders.{low_bits_of}
use Rattle.k_num.proofs.kinds.remainder.Goals as goal

pub returns-clause-value : goal.returns-clause-value
returns-clause-value c =
    c.low_bits.ensures ∙ ap (λ bits. bits % 2 ^ width c.args.kind) c.cast_unsigned.ensures ∙ low_bits_of c.args.kind c.args.v c.ranges.v
