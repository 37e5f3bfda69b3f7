use Rattle.std.proofs.Common.{◌≡◌, ◌<◌, ◌∷◌, All, List, length, sym, ap, ◌∙◌, subst}
use Rattle.std.proofs.lemmas.List.Elements.{All-tail}
use Rattle.k_sum_order.specs.Placing.{Ordering, placed_all}
use Rattle.k_sum_order.specs.declared.batch.Ranked.{Ranked}
use Rattle.k_sum_order.proofs.Batches.{numbers_of}
use Rattle.k_sum_order.proofs.placing.place_all.Goals as goal

pub loop-ranked-preserved : goal.loop-ranked-preserved
loop-ranked-preserved c =
    let before : Ordering = record { dict = c.loop-ranked.table; numbers = c.loop-ranked.numbers } in
    let rest : c.loop-ranked.rest.now ≡ c.in-Some.ranked.now ∷ c.in-Some.later.now = c.in-Some.ensures.cases.0 in
    let P : List Ranked → Type 0 = All (λ (r : Ranked). r.number < length c.args.entries.now) in
    record {
      whole = ap (λ (o : Ordering). placed_all c.args.entries.now o (numbers_of c.in-Some.later.now)) c.in_ok-place.ensures.placed
          ∙ sym (ap (λ (l : List Ranked). placed_all c.args.entries.now before (numbers_of l)) rest) ∙ c.loop-ranked.invariant.whole;
      count = c.place.auto.numbers ∙ c.loop-ranked.invariant.count;
      within = All-tail (λ (r : Ranked). r.number < length c.args.entries.now) c.in-Some.ranked.now c.in-Some.later.now (subst P rest c.loop-ranked.invariant.within);
      distinct = c.in_ok-place.ensures.distinct;
    }
