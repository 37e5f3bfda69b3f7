use Rattle.std.proofs.Common.{◌≡◌, ℕ, ◌∷◌, ◌++◌, [], List, length, sym, ap, ◌∙◌, subst}
use Rattle.k_dict_entries.specs.Entries.{NameBelow}
use Rattle.k_dict_entries.specs.Rules.{entry_of}
use Rattle.k_dict_entries.specs.declared.entry.Entry.{Entry}
use Rattle.k_dict_entries.specs.declared.entry.Run.{Run}
use Rattle.k_sum_order.specs.Placing.{level_over}
use Rattle.k_sum_order.proofs.LevelOrder.{level_below, leveling_more}
use Rattle.k_sum_order.proofs.Steps.{item_is}
use Rattle.k_sum_order.proofs.levels.levels_of.Goals as goal

pub level_over-level-requires-clause-below : goal.level_over-level-requires-clause-below
level_over-level-requires-clause-below c =
    let n : ℕ = c.loop-entry.entry-index in
    let is = item_is c.args.entries.now n c.entry-item.result c.loop-entry-test.true c.entry-item.is in
    let runs : c.as_slice-in-loop-entry.result.now ≡ (entry_of c.args.entries.now n).runs =
    c.as_slice-in-loop-entry.ensures ∙ sym (ap (λ (e : Entry). e.runs) is) in
    let count : length c.as_slice.result.now ≡ n = ap length c.as_slice.ensures.value ∙ c.loop-entry.invariant.count_is in
    let P : List Run → Type 0 = NameBelow (length c.as_slice.result.now) in
    let Q : ℕ → Type 0 = λ k. NameBelow k (entry_of c.args.entries.now n).runs in
    subst P (sym runs) (subst Q (sym count)
    (level_below c.args.entries.now c.loop-entry.levels.items n c.loop-entry.invariant c.requires.earlier c.loop-entry-test.true))

pub loop-entry-preserved : goal.loop-entry-preserved
loop-entry-preserved c =
    let n : ℕ = c.loop-entry.entry-index in
    let is = item_is c.args.entries.now n c.entry-item.result c.loop-entry-test.true c.entry-item.is in
    let runs : c.as_slice-in-loop-entry.result.now ≡ (entry_of c.args.entries.now n).runs =
    c.as_slice-in-loop-entry.ensures ∙ sym (ap (λ (e : Entry). e.runs) is) in
    let level : c.level_over-level.result ≡ level_over c.loop-entry.levels.items (entry_of c.args.entries.now n).runs =
    c.level_over-level.ensures ∙ ap (λ (l : List ℕ). level_over l c.as_slice-in-loop-entry.result.now) c.as_slice.ensures.value
    ∙ ap (level_over c.loop-entry.levels.items) runs in
    leveling_more c.args.entries.now c.loop-entry.levels.items n c.loop-entry.invariant c.requires.earlier c.loop-entry-test.true c.push.new.self.items
    (c.in_ok-push.ensures.items ∙ ap (λ (k : ℕ). c.loop-entry.levels.items ++ k ∷ []) level)
