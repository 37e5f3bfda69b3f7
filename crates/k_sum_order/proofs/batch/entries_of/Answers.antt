use Rattle.std.proofs.Common.{◌≡◌, ℕ, ◌+◌, Global, List, Vec, refl, sym, ap, ◌∙◌, subst, arith}
use Rattle.k_dict_saved.specs.Migration.{renumbered_entry}
use Rattle.k_dict_entries.specs.declared.entry.Entry.{Entry}
use Rattle.k_sum_order.specs.Order.{key_of}
use Rattle.k_sum_order.specs.Placing.{AreRanked, entry_with}
use Rattle.k_sum_order.specs.declared.batch.Ranked.{Ranked}
use Rattle.k_sum_order.proofs.Steps.{item_below, item_few, item_is, ranked_more, ranked_skip}
use Rattle.k_sum_order.proofs.batch.entries_of.Goals as goal
use Rattle.k_sum_order.proofs.batch.entries_of.Goals.{then-levels-number+in_ok-key+in_ok-push, else-levels-number}

pub key-requires-clause-below : goal.key-requires-clause-below
key-requires-clause-below c =
    item_below c.args.entries.now c.loop-number.number c.index-entries-number.result (omega arith) c.index-entries-number.is c.requires.earlier _ c.requires.numbers

pub key-requires-clause-few : goal.key-requires-clause-few
key-requires-clause-few c =
    item_few c.args.entries.now c.loop-number.number c.index-entries-number.result (omega arith) c.index-entries-number.is c.requires.few

pub overflow_cast-number : goal.overflow_cast-number
overflow_cast-number c = omega (arith, c.requires.short)

pub loop-number-preserved : goal.loop-number-preserved
loop-number-preserved c = elim c.if-levels-number.branch [
  | then-levels-number+in_ok-key+in_ok-push w ↦ (let n : ℕ = c.loop-number.number in
      let key : w.in_ok-key.key.items ≡ key_of (entry_with c.args.entries.now c.args.numbers.now n) =
      w.in_ok-key.ensures
      ∙ sym (ap (λ (e : Entry). key_of (renumbered_entry c.args.numbers.now e)) (item_is c.args.entries.now n w.index-entries-number.result (omega arith) w.index-entries-number.is)) in
      ranked_more c.args.entries.now c.args.levels.now c.args.numbers.now c.args.level n c.loop-number.batch.items c.loop-number.invariant
      (record { key = w.in_ok-key.key; number = n }) c.if-levels-number.batch.items refl w.if-levels-number.true key
      (ap (λ (v : Vec Ranked Global). v.items) w.batch-is ∙ w.in_ok-push.ensures.items))
  | else-levels-number w ↦ (let P : List Ranked → Type 0 =
      AreRanked c.args.entries.now c.args.levels.now c.args.numbers.now c.args.level (c.loop-number.number + 1) in
      subst P (sym (ap (λ (v : Vec Ranked Global). v.items) w.batch-is))
      (ranked_skip c.args.entries.now c.args.levels.now c.args.numbers.now c.args.level c.loop-number.number c.loop-number.batch.items c.loop-number.invariant
      w.if-levels-number.false))
]
