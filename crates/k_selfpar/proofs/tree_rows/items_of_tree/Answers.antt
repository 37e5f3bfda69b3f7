use Rattle.std.proofs.Common.{ap, ◌∙◌}
use Rattle.k_selfpar.specs.Items.{occurring}
use Rattle.k_selfpar.proofs.ItemLists.{items_of_tree}
use Rattle.k_selfpar.proofs.tree_rows.items_of_tree.Goals as goal

pub returns : goal.returns
returns c =
    items_of_tree c.args.dict.now c.args.root c.in_ok-counts.counts.items c.in_ok-items.items.items _ c.requires.root c.in_ok-counts.ensures
    (c.in_ok-items.ensures ∙ ap (occurring c.args.dict.now 0) c.as_slice.ensures.value) c.in_ok-sort_by_region.ensures.permutation
    c.in_ok-sort_by_region.ensures.sorted
