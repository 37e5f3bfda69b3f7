use Rattle.std.proofs.Common.{◌≡◌, ℕ, ◌+◌, ◌∷◌, ◌++◌, [], List, length, sym, ap, ◌∙◌, subst, arith}
use Rattle.k_dict_entries.specs.Entries.{NameBelow}
use Rattle.k_dict_entries.specs.Rules.{entry_of}
use Rattle.k_dict_entries.specs.declared.entry.Entry.{Entry}
use Rattle.k_dict_entries.specs.declared.entry.Run.{Run}
use Rattle.k_dict_saved.specs.Extents.{capped}
use Rattle.k_sum_merge.specs.Sizes.{instances_in}
use Rattle.k_sum_merge.proofs.Sized.{next_below, no_sizes, sizes_more}
use Rattle.k_sum_merge.proofs.sizes.sizes_of.Goals as goal
use Rattle.k_sum_order.proofs.Steps.{item_is}

pub instances_of-below-requires : goal.instances_of-below-requires
instances_of-below-requires c =
    let n : ℕ = c.loop-entry.entry-index in
    let is = item_is c.args.entries.now n c.entry-item.result c.loop-entry-test.true c.entry-item.is in
    let runs : c.as_slice-in-loop-entry.result.now ≡ (entry_of c.args.entries.now n).runs =
    c.as_slice-in-loop-entry.ensures ∙ sym (ap (λ (e : Entry). e.runs) is) in
    let count : length c.as_slice.result.now ≡ n = ap length c.as_slice.ensures.value ∙ c.loop-entry.invariant.count in
    let P : List Run → Type 0 = NameBelow (length c.as_slice.result.now) in
    let Q : ℕ → Type 0 = λ k. NameBelow k (entry_of c.args.entries.now n).runs in
    subst P (sym runs) (subst Q (sym count) (next_below c.args.entries.now c.requires n c.loop-entry.sizes.items c.loop-entry.invariant c.loop-entry-test.true))

pub loop-entry-init : goal.loop-entry-init
loop-entry-init c = no_sizes c.args.entries.now c.new-sizes.result.items c.new-sizes.ensures.items

pub loop-entry-preserved : goal.loop-entry-preserved
loop-entry-preserved c =
    let n : ℕ = c.loop-entry.entry-index in
    let is = item_is c.args.entries.now n c.entry-item.result c.loop-entry-test.true c.entry-item.is in
    let runs : c.as_slice-in-loop-entry.result.now ≡ (entry_of c.args.entries.now n).runs =
    c.as_slice-in-loop-entry.ensures ∙ sym (ap (λ (e : Entry). e.runs) is) in
    let below : c.instances_of-below.result ≡ capped (instances_in c.loop-entry.sizes.items (entry_of c.args.entries.now n).runs) =
    c.instances_of-below.ensures ∙ (λ i. capped (instances_in (c.as_slice.ensures.value i) (runs i))) in
    let one : c.saturating_add.result ≡ capped (c.instances_of-below.result + 1) = omega (arith, c.saturating_add.ensures) in
    sizes_more c.args.entries.now c.requires n c.loop-entry.sizes.items c.loop-entry.invariant c.loop-entry-test.true c.push.new.self.items
    (c.in_ok-push.ensures.items ∙ ap (λ (k : ℕ). c.loop-entry.sizes.items ++ k ∷ []) (one ∙ ap (λ (k : ℕ). capped (k + 1)) below))
