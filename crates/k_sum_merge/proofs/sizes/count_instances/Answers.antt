use Rattle.std.proofs.Common.{◌≡◌, List, length, sym, ap, ◌∙◌, subst}
use Rattle.k_dict_entries.specs.Entries.{NameBelow}
use Rattle.k_dict_saved.specs.Extents.{capped}
use Rattle.k_sum_merge.specs.Sizes.{instances_in}
use Rattle.k_sum_merge.proofs.Sized.{capped_laid}
use Rattle.k_sum_merge.proofs.sizes.count_instances.Goals as goal

pub instances_of-requires : goal.instances_of-requires
instances_of-requires c =
    let count : length c.as_slice.result.now ≡ length c.args.entries.now = ap length c.as_slice.ensures.value ∙ c.in_ok-sizes.ensures.count in
    subst (λ n. NameBelow n c.args.roots.now) (sym count) c.requires.below

pub returns : goal.returns
returns c =
    c.instances_of.ensures ∙ ap (λ (l : List _). capped (instances_in l c.args.roots.now)) c.as_slice.ensures.value
    ∙ capped_laid c.args.entries.now (length c.args.entries.now) c.in_ok-sizes.sizes.items c.in_ok-sizes.ensures c.args.roots.now c.requires.below
