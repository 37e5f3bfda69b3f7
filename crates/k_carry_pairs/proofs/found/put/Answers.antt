use Rattle.std.proofs.Common.{sym, subst, ap, List, ◌∙◌}
use Rattle.k_carry_pairs.specs.declared.found.Found.{Found}
use Rattle.k_carry_pairs.specs.Carried.{AreSorted}
use Rattle.k_carry_pairs.specs.Gathered.{found_before, stands_at}
use Rattle.k_carry_pairs.proofs.Order.{put_sorted}
use Rattle.k_carry_pairs.proofs.Putting.{IsPut, put_in}
use Rattle.k_carry_pairs.proofs.found.put.Goals as goal

pub returns-then-stands_at-clause-put : goal.returns-then-stands_at-clause-put
returns-then-stands_at-clause-put c =
    let is : IsPut c.args.new c.args.found.now.items c.place_for-at.result =
    put_in c.args.new c.args.found.now.items c.deref.result.now c.place_for-at.result c.deref.ensures.value c.place_for-at.ensures.bound c.place_for-at.ensures.point in
    sym (is.there (ap (λ (xs : List Found). stands_at xs c.place_for-at.result c.args.new) (sym c.deref-2.ensures.value) ∙ sym c.stands_at.ensures ∙ c.if-stands_at.true))

pub returns-clause-put : goal.returns-clause-put
returns-clause-put c =
    let is : IsPut c.args.new c.args.found.now.items c.place_for-at.result =
    put_in c.args.new c.args.found.now.items c.deref.result.now c.place_for-at.result c.deref.ensures.value c.place_for-at.ensures.bound c.place_for-at.ensures.point in
    c.in_ok-insert.ensures.items
    ∙ is.new (ap (λ (xs : List Found). stands_at xs c.place_for-at.result c.args.new) (sym c.deref-2.ensures.value) ∙ sym c.stands_at.ensures ∙ c.if-stands_at.false)

pub returns-clause-sorted : goal.returns-clause-sorted
returns-clause-sorted c =
    let is : IsPut c.args.new c.args.found.now.items c.place_for-at.result =
    put_in c.args.new c.args.found.now.items c.deref.result.now c.place_for-at.result c.deref.ensures.value c.place_for-at.ensures.bound c.place_for-at.ensures.point in
    subst (λ (xs : List Found). AreSorted found_before xs)
    (sym (c.in_ok-insert.ensures.items
    ∙ is.new (ap (λ (xs : List Found). stands_at xs c.place_for-at.result c.args.new) (sym c.deref-2.ensures.value) ∙ sym c.stands_at.ensures ∙ c.if-stands_at.false)))
    (put_sorted c.args.new c.args.found.now.items c.requires)
