use Rattle.std.proofs.Common.{◌<◌, All, List, length, ap, ◌∙◌, subst, sym}
use Rattle.std.proofs.lemmas.Result.{on_ok_weaker}
use Rattle.k_sum_order.specs.Placing.{Ordering, placed_all}
use Rattle.k_sum_order.specs.declared.batch.Ranked.{Ranked}
use Rattle.k_sum_order.proofs.Batches.{numbers_of, ranked_sorted}
use Rattle.k_sum_order.proofs.placing.order_level.Goals as goal

pub place_all-requires-clause-within : goal.place_all-requires-clause-within
place_all-requires-clause-within c =
    let are = ranked_sorted c.args.entries.now c.args.levels.now c.args.numbers.now c.args.level (length c.args.entries.now) c.in-Ok.batch.items c.sort.new.batch.items c.in-Ok.ensures
    c.in_default-sort.ensures.permutation in
    let P : List Ranked → Type 0 = All (λ (r : Ranked). r.number < length c.args.entries.now) in
    subst P (sym c.as_slice.ensures.value) (λ k d less. (are.each k d less).0)

pub returns-clause-orders : goal.returns-clause-orders
returns-clause-orders c =
    let are = ranked_sorted c.args.entries.now c.args.levels.now c.args.numbers.now c.args.level (length c.args.entries.now) c.in-Ok.batch.items c.sort.new.batch.items c.in-Ok.ensures
    c.in_default-sort.ensures.permutation in
    let old : Ordering = record { dict = c.args.table.now; numbers = c.args.numbers.now } in
    on_ok_weaker c.place_all.result
    (λ whole. (c.sort.new.batch.items, are, c.in_default-sort.ensures.sorted, whole ∙ ap (λ (l : List Ranked). placed_all c.args.entries.now old (numbers_of l)) c.as_slice.ensures.value))
    c.place_all.ensures.placed
