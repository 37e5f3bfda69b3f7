use Rattle.std.proofs.Common.{List, length, sym, subst, ◌↔◌, IsTrue}
use Rattle.k_dict_entries.specs.Entries.{NameBelow}
use Rattle.k_dict_entries.specs.declared.entry.Entry.{Entry}
use Rattle.k_dict_entries.specs.declared.entry.Run.{Run}
use Rattle.k_sum_merge.proofs.Kept.{roots_below}
use Rattle.k_sum_merge.proofs.finishing.is_of_one.Goals as goal
use Rattle.k_sum_saved.specs.SumLines.{AreOfOneRegion}

pub are_of_one_region-requires : goal.are_of_one_region-requires
are_of_one_region-requires c =
    let P : List Entry → Type 0 = λ d. NameBelow (length d) c.args.sum.now.roots in
    let Q : List Run → Type 0 = NameBelow (length c.entries.result.now) in
    subst Q (sym c.as_slice.ensures) (subst P (sym c.entries.ensures.value) (roots_below c.args.sum.now c.requires))

pub returns : goal.returns
returns c =
    let P : List Entry → Type 0 = λ d. IsTrue c.are_of_one_region.result ↔ AreOfOneRegion d c.args.sum.now.roots in
    let Q : List Run → Type 0 = λ l. IsTrue c.are_of_one_region.result ↔ AreOfOneRegion c.entries.result.now l in
    subst P c.entries.ensures.value (subst Q c.as_slice.ensures c.are_of_one_region.ensures)
