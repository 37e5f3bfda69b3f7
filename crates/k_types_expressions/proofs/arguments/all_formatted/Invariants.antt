use Rattle.std.proofs.Common.{◌≡◌, length}
use Rattle.k_types_meaning.specs.CallRules.{all_formatted}
use Rattle.k_types_expressions.specs.Arguments.{bare, trees_before_option}
use Rattle.k_types_expressions.proofs.arguments.all_formatted.Given as goal

abbrev pub invariant-loop-kind : goal.invariant-loop-kind
invariant-loop-kind l =
    trees_before_option l.trees (all_formatted l.rest (bare l.waiting.items)) ≡ all_formatted l.kinds (bare l.fn.args.items)

abbrev pub decreases-loop-kind : goal.decreases-loop-kind
decreases-loop-kind l = length l.rest
