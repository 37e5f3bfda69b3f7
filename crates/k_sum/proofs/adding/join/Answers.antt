use Rattle.std.proofs.Common.{ℕ, List, length, sym, ap, ◌∙◌, subst}
use Rattle.k_dict_entries.specs.Entries.{NameBelow}
use Rattle.k_dict_entries.specs.declared.entry.Run.{Run}
use Rattle.k_dict_entries.proofs.EntryTrees.{below_bound}
use Rattle.k_sum.proofs.adding.join.Goals as goal

pub join_roots-requires-clause-below : goal.join_roots-requires-clause-below
join_roots-requires-clause-below c =
    let P : ℕ → Type 0 = λ n. NameBelow n c.args.other.now.roots in
    let Q : List Run → Type 0 = NameBelow (length c.as_slice-2.result.now) in
    subst Q (sym c.as_slice-3.ensures)
    (subst P (sym (ap length c.as_slice-2.ensures ∙ c.in_ok-numbers.ensures.joins.2 ∙ ap length c.entries.ensures.value))
    (below_bound 0 (length c.args.other.now.dict) c.args.other.now.roots c.requires.more.roots))
