use Rattle.std.proofs.Common.{length}
use Rattle.k_parse_expressions.proofs.expression.close.+value.Given as goal

abbrev pub decreases-value : goal.decreases-value
decreases-value l = length l.opens
