use Rattle.std.proofs.Common.{refl}
use Rattle.k_advise_plan.proofs.Planned.{saved_of_lowest}
use Rattle.k_advise_plan.proofs.recast.recast.Goals as goal

pub returns : goal.returns
returns c = record {
  parent = refl;
  work = refl;
  kind = c.kind_of.ensures;
  saves = saved_of_lowest c.args.context.now.work c.args.saves c.ratio.result.0 c.ratio.result.1 c.requires.bound c.requires.less c.ratio.ensures;
}
