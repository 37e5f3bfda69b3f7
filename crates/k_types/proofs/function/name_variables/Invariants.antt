use Rattle.std.proofs.Common.{◌≡◌, drop}
use Rattle.k_types.specs.Functions.{variables_named}
use Rattle.k_types.proofs.function.name_variables.Given as goal

abbrev pub invariant-loop-param : goal.invariant-loop-param
invariant-loop-param l =
    variables_named l.number (drop l.param-index l.params) l.rest l.names ≡ variables_named 0 l.params l.fn.variables l.fn.names
