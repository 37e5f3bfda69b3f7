use Rattle.std.proofs.Common.{subst}
use Rattle.k_types_meaning.specs.Operands.{cast_rule, cast_to}
use Rattle.k_types_rules.specs.Views.{Agrees, typed}
use Rattle.k_types_expressions.proofs.named_type.cast_rule.Goals as goal

pub returns : goal.returns
unfolding cast_rule
returns c = λ t. subst (λ to. Agrees c.cast_to_named.result t (cast_to c.args.place to (typed c.args.of t))) c.named_type.ensures (c.cast_to_named.ensures t)
