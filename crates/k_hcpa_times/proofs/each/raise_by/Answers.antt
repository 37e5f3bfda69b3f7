use Rattle.k_hcpa_times.proofs.Lists.{raised_back}
use Rattle.k_hcpa_times.proofs.each.raise_by.Goals as goal

pub returns-clause-raised : goal.returns-clause-raised
returns-clause-raised g c = raised_back c.args.location c.raise.new.times c.as_mut_slice.result.now c.args.times.now (g.S.Shadow.content c.args.shadow.now).levels c.as_mut_slice.ensures.times c.raise.auto.times c.requires.each c.raise.ensures.raised
