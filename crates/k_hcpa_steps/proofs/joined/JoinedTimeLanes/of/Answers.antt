use Rattle.std.proofs.Common.{arith}
use Rattle.k_hcpa_steps.proofs.joined.JoinedTimeLanes.of.Goals as goal

pub returns : goal.returns
returns g c = λ k low. c.joined_of.ensures k (omega (arith, low))
