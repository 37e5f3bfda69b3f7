use Rattle.k_lower_flows.proofs.Programs.{code_does_as_its_program}
use Rattle.k_lower_flows.proofs.laws.code_does_as_its_program.Goals as goal

pub returns : goal.returns
returns c = code_does_as_its_program
