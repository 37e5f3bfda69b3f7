use Rattle.std.proofs.Common.{ap, ◌∙◌}
use Rattle.k_selfpar.specs.Items.{occurring}
use Rattle.k_sum_rows.proofs.Counted.{items_of_runs}
use Rattle.k_sum_rows.proofs.run_rows.items_of_runs.Goals as goal

pub returns : goal.returns
returns c =
    items_of_runs c.args.dict.now c.args.roots.now c.in_ok-counts.counts.items c.in_ok-items.items.items _ c.in_ok-counts.ensures
    (c.in_ok-items.ensures ∙ ap (occurring c.args.dict.now 0) c.as_slice.ensures.value) c.in_ok-sort_by_region.ensures.permutation
    c.in_ok-sort_by_region.ensures.sorted
