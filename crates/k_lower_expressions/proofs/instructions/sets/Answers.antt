use Rattle.std.proofs.Common.{false}
use Rattle.k_code.specs.declared.instruction.Arg.TheVariants.{Reg}
use Rattle.k_lower_expressions.proofs.Emitted.{ends}
use Rattle.k_lower_expressions.proofs.instructions.sets.Goals as goal

pub returns : goal.returns
returns c =
    ends {A = Unit {0}} (λ done. Reg c.args.to false) _ tt _ _ c.in_ok-does.ensures
