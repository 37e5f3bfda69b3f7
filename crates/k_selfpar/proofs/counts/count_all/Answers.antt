use Rattle.std.proofs.Common.{◌≡◌, ℕ, ◌+◌, ◌-◌, refl, sym, ap, ◌∙◌, subst, arith, List, get_or}
use Rattle.k_dict_entries.specs.Entries.{AreRuns}
use Rattle.k_dict_entries.specs.declared.entry.Entry.{Entry}
use Rattle.k_selfpar.specs.Counts.{CanCount, with_children}
use Rattle.k_selfpar.specs.Sums.{all_of, one}
use Rattle.k_selfpar.proofs.Counting.{Counted, all_counted, can_count_more, more_counted, root_counted}
use Rattle.k_selfpar.proofs.Giving.{sums_add}
use Rattle.k_selfpar.proofs.counts.count_all.Goals as goal

pub loop-number-init : goal.loop-number-init
loop-number-init c = root_counted c.args.dict.now c.args.root c.args.counts.now _ c.requires.zero refl

pub count_children-requires : goal.count_children-requires
count_children-requires c =
    let entries : List Entry = c.args.dict.now in
    let n : ℕ = c.loop-number.number - 1 in
    let counts : List ℕ = c.loop-number.counts in
    let e : Entry = c.entry.result.now in
    let on : c.loop-number.number ≡ n + 1 = omega (arith, c.loop-number-test.true) in
    let P : ℕ → Type 0 = λ k. Counted entries c.args.root k counts in
    let runs : AreRuns 0 n e.runs = c.entry.ensures.interned.earlier n e c.entry.ensures.value in
    subst (λ r. CanCount (get_or counts n 0) counts r) (sym c.as_slice.ensures)
    (can_count_more entries c.args.root n counts e (all_of one entries) (subst P on c.loop-number.invariant) c.entry.ensures.value runs
    (sums_add one entries c.entry.ensures.interned.earlier) (λ m. omega arith) c.requires.few)

pub loop-number-preserved : goal.loop-number-preserved
loop-number-preserved c =
    let entries : List Entry = c.args.dict.now in
    let n : ℕ = c.loop-number.number - 1 in
    let counts : List ℕ = c.loop-number.counts in
    let e : Entry = c.entry.result.now in
    let on : c.loop-number.number ≡ n + 1 = omega (arith, c.loop-number-test.true) in
    let P : ℕ → Type 0 = λ k. Counted entries c.args.root k counts in
    let runs : AreRuns 0 n e.runs = c.entry.ensures.interned.earlier n e c.entry.ensures.value in
    more_counted entries c.args.root n counts c.count_children.new.counts e (subst P on c.loop-number.invariant) c.entry.ensures.value runs
    (c.count_children.ensures ∙ ap (with_children (get_or counts n 0) counts) c.as_slice.ensures)

pub returns : goal.returns
returns c =
    let none : c.loop-number.number ≡ 0 = omega (arith, c.loop-number-test.false) in
    let P : ℕ → Type 0 = λ k. Counted c.args.dict.now c.args.root k c.loop-number.counts in
    all_counted c.args.dict.now c.args.root c.loop-number.counts (subst P none c.loop-number.invariant)
