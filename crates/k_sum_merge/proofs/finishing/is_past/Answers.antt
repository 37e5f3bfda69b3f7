use Rattle.std.proofs.Common.{◌≡◌, List, length, sym, ◌∙◌, subst}
use Rattle.k_dict_entries.specs.Entries.{NameBelow, NameEarlier, laid, trees_of}
use Rattle.k_dict_entries.specs.Trees.{size}
use Rattle.k_dict_entries.specs.declared.entry.Entry.{Entry}
use Rattle.k_dict_entries.specs.declared.entry.Run.{Run}
use Rattle.k_dict_saved.specs.Extents.{capped}
use Rattle.k_sum.specs.Laws.{forest_of}
use Rattle.k_sum_merge.proofs.Kept.{entries_earlier, roots_below}
use Rattle.k_sum_merge.proofs.Sized.{past_is}
use Rattle.k_sum_merge.proofs.finishing.is_past.Goals as goal

pub count_instances-requires-clause-earlier : goal.count_instances-requires-clause-earlier
count_instances-requires-clause-earlier c =
    let P : List Entry → Type 0 = NameEarlier in subst P (sym c.entries.ensures.value) (entries_earlier c.args.sum.now c.requires)

pub count_instances-requires-clause-below : goal.count_instances-requires-clause-below
count_instances-requires-clause-below c =
    let P : List Entry → Type 0 = λ d. NameBelow (length d) c.args.sum.now.roots in
    let Q : List Run → Type 0 = NameBelow (length c.entries.result.now) in
    subst Q (sym c.as_slice.ensures) (subst P (sym c.entries.ensures.value) (roots_below c.args.sum.now c.requires))

pub returns : goal.returns
returns c =
    let count : c.in_ok-instances.instances ≡ capped (size (forest_of c.args.sum.now)) =
    c.in_ok-instances.ensures ∙ (λ i. capped (size (laid (trees_of (c.entries.ensures.value i)) (c.as_slice.ensures i)))) in
    past_is c.args.sum.now c.in_ok-instances.instances count c.are_many.result c.are_many.ensures
