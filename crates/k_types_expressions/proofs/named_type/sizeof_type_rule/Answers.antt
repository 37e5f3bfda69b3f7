use Rattle.std.proofs.Common.{[], subst}
use Rattle.k_types_meaning.specs.Operands.{size_named, sizeof_type_rule}
use Rattle.k_types_rules.specs.Views.{Agrees}
use Rattle.k_types_expressions.proofs.named_type.sizeof_type_rule.Goals as goal

pub returns : goal.returns
unfolding sizeof_type_rule
returns c = subst (λ of. Agrees c.sizeof_named.result [] (size_named c.args.place of)) c.named_type.ensures c.sizeof_named.ensures
