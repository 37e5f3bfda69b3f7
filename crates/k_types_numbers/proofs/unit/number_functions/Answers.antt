use Rattle.std.proofs.Common.{◌<◌, ◌≤◌, length, arith}
use Rattle.k_types_numbers.proofs.UnitForms.{functions_done, functions_more}
use Rattle.k_types_numbers.proofs.unit.number_functions.Goals as goal

pub loop-function-preserved : goal.loop-function-preserved
loop-function-preserved c =
    let within : c.loop-function.function-index < length c.loop-function.functions = omega arith in
    functions_more _ _ _ _ _ _ _ _ within c.loop-function.invariant c.in_ok-number_function.ensures

pub returns : goal.returns
returns c =
    let ended : length c.loop-function.functions ≤ c.loop-function.function-index = omega arith in
    functions_done _ _ _ _ _ ended c.loop-function.invariant
