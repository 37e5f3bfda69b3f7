use Rattle.std.proofs.Common.{refl}
use Rattle.k_sum.specs.declared.sum.Sum.{Sum}
use Rattle.k_sum_order.proofs.Steps.{bounds_stay}
use Rattle.k_sum_order.proofs.ordering.in_order.Goals as goal

pub returns-clause-bounds : goal.returns-clause-bounds
returns-clause-bounds c =
    let ordered : Sum = record {
      runs = c.args.sum.runs;
      exits = c.args.sum.exits;
      ops = c.args.sum.ops;
      work = c.args.sum.work;
      regions = c.args.sum.regions;
      dict = c.in_ok-dict.dict;
      roots = c.in_ok-dict.roots;
    } in
    let parts = c.in_ok-dict.ensures.parts in
    bounds_stay c.args.sum ordered parts.0 c.requires parts.3 parts.1 parts.2 refl refl refl refl
