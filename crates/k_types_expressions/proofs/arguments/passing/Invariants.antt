use Rattle.std.proofs.Common.{◌≡◌, drop}
use Rattle.k_types_meaning.specs.CallRules.{passing}
use Rattle.k_types_expressions.specs.Arguments.{bare, passed_made, made_before}
use Rattle.k_types_expressions.proofs.arguments.passing.Given as goal

abbrev pub invariant-loop-param : goal.invariant-loop-param
invariant-loop-param l =
    made_before l.trees (passed_made l.place (passing (drop l.param-index l.params) (bare l.waiting.items)))
    ≡ passed_made l.place (passing l.params (bare l.fn.args.items))
