use Rattle.k_hcpa_store.specs.Kept.{window}
use Rattle.k_hcpa_store.proofs.registers.read.Goals as goal

pub returns-in-Number-clause-read : goal.returns-in-Number-clause-read
returns-in-Number-clause-read c = rw c.in-Number.is (c.constant.ensures.read (window c.args.registers.now c.args.first))
