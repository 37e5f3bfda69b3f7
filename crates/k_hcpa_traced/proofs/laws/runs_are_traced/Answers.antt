use Rattle.k_hcpa_traced.proofs.Running.{configurations_are_traced, worlds_are_bounded}
use Rattle.k_hcpa_traced.proofs.laws.runs_are_traced.Goals as goal

pub returns : goal.returns
returns c = record { configurations = configurations_are_traced; worlds = worlds_are_bounded }
