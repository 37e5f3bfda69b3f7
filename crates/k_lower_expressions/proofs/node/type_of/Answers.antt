use Rattle.std.proofs.Common.{◌∙◌, sym, ap}
use Rattle.k_types_meaning.specs.Conversions.{node_of}
use Rattle.k_types_meaning.specs.declared.tree.expression.Node.{Node}
use Rattle.k_lower_expressions.proofs.Nodes.{node_is}
use Rattle.k_lower_expressions.proofs.node.type_of.Goals as goal

pub returns : goal.returns
returns c =
    λ program vs. ap (λ (n : Node). n.of) (c.node_of.ensures ∙ (ap node_of c.get.ensures ∙ sym (node_is program vs c.args.e.now)))
