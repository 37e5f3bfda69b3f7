use Rattle.k_sum_merge.proofs.Finished.{can_save, of_main}
use Rattle.k_sum_merge.proofs.Kept.{kept, merged_have_bounds}
use Rattle.k_sum_merge.proofs.finishing.order.Goals as goal

pub in_order-requires : goal.in_order-requires
in_order-requires c = merged_have_bounds c.args.sum c.requires.merged

pub returns-in-Ok : goal.returns-in-Ok
returns-in-Ok c =
    let has = kept c.args.sum c.requires.merged in (
      of_main c.args.sum has c.requires.one,
      c.requires.within,
      c.in-Ok.ensures.ordered,
      can_save c.args.sum c.in-Ok.ordered has c.in-Ok.ensures.ordered c.in-Ok.ensures.bounds c.requires.one c.requires.within c.in-Ok.ensures.interned,
    )
