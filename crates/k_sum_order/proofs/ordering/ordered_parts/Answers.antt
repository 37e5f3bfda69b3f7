use Rattle.std.proofs.Common.{◌≡◌, ℕ, List, length, sym, ap, ◌∙◌, subst}
use Rattle.k_dict_entries.specs.Entries.{NameBelow}
use Rattle.k_dict_entries.specs.declared.entry.Run.{Run}
use Rattle.k_dict_entries.proofs.EntryTrees.{below_bound}
use Rattle.k_sum_order.proofs.ordering.ordered_parts.Goals as goal

pub order_roots-requires-clause-below : goal.order_roots-requires-clause-below
order_roots-requires-clause-below c =
    let count : length c.as_slice.result.now ≡ length c.args.sum.now.dict =
    ap length c.as_slice.ensures.value ∙ c.in_ok-dict.ensures.ordered.count ∙ ap length c.entries.ensures.value in
    let P : List Run → Type 0 = NameBelow (length c.as_slice.result.now) in
    let Q : ℕ → Type 0 = λ n. NameBelow n c.args.sum.now.roots in
    subst P (sym c.as_slice-2.ensures) (subst Q (sym count) (below_bound 0 (length c.args.sum.now.dict) c.args.sum.now.roots c.requires.roots))
