-- The code of each function of a source without faults is small.
use Rattle.std.proofs.Common.{◌+◌, ◌*◌, ◌≤◌, length, refl, arith}
use Rattle.std.proofs.Math.Nat.{max-le}
use Rattle.k_lower_code.specs.Functions.{function, function_code, registers_of}
use Rattle.k_lower_code.specs.Statements.{lowered}
use Rattle.k_lower_fits.specs.Costs as costs
use Rattle.k_lower_fits.specs.Costs.{stmt_cost}
use Rattle.k_lower_fits.specs.Fits.{limits_of}
use Rattle.k_lower_fits.specs.Laws.{FunctionFits, IsSmall}
use Rattle.k_lower_fits.proofs.Sources.{functions_are_small, functions_fit}
use Rattle.k_lower_sizes.specs.Laws.{FunctionsStaySmall, TakeTheirCost}
use Rattle.k_lower_sizes.proofs.ExpressionSizes.{expression_small}
use Rattle.k_lower_sizes.specs.Named.{objects_of}
use Rattle.k_lower_sizes.proofs.FunctionObjects.{function_names}
use Rattle.k_lower_sizes.proofs.FunctionRegisters.{function_needs}
use Rattle.k_lower_sizes.proofs.StatementSizes.{function_few, statement_few}

pub stay_small : FunctionsStaySmall
stay_small unit program number f h none is =
    let fits : FunctionFits program.unit f = functions_fit unit program.unit number f h none is in
    let small : IsSmall f = functions_are_small unit program.unit number f h none is in
    let most : costs.registers_of f ≤ 2 * f.nodes = small.registers in
    let variables : f.params ≤ costs.registers_of f = (let given : f.params ≤ length f.variables = fits.params in omega (arith, given)) in
    let few : (function program number f).size ≤ costs.instructions_of f = function_few program number f in
    let many : costs.instructions_of f ≤ 512 * f.nodes = small.instructions in
    record {
      registers = λ first.
          let need : registers_of (function_code program number f first) ≤ costs.registers_of f = function_needs program number f (limits_of program.unit f) refl fits.params fits.body first in
          max-le {a = f.params} {b = registers_of (function_code program number f first)} {k = 2 * f.nodes} (omega (arith, variables, most)) (omega (arith, need, most));
      instructions = omega (arith, few, many);
      objects = λ first.
          let named : objects_of (function_code program number f first) ≤ (function program number f).size = function_names program number f first in
          omega (arith, named, few, many);
    }

-- each expression and each statement takes its cost
pub take_their_cost : TakeTheirCost
take_their_cost = record {
  values = λ program vs e used r. (expression_small program vs e).value used r;
  places = λ program vs e r. (expression_small program vs e).place r;
  statements = λ w s. (let few : (lowered w s).size + 7 ≤ (stmt_cost s).instructions = statement_few w s in (let goal : (lowered w s).size ≤ (stmt_cost s).instructions = omega (arith, few) in goal));
}
