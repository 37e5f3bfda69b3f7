use Rattle.std.proofs.Common.{sym}
use Rattle.k_selfpar.proofs.Adding.{region_is}
use Rattle.k_selfpar.proofs.item.item_of.Goals as goal

pub returns : goal.returns
returns c = λ i. record {
  region = sym (region_is c.args.dict.now c.entry.ensures.interned.earlier c.args.entry c.entry.result.now c.entry.ensures.value) i;
  run = record { entry = c.args.entry; count = c.args.count };
}
