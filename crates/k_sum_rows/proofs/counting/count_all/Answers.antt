use Rattle.std.proofs.Common.{◌≡◌, ℕ, ◌+◌, ◌-◌, ◌∙◌, sym, ap, subst, arith, List, get_or}
use Rattle.k_dict_entries.specs.declared.entry.Entry.{Entry}
use Rattle.k_selfpar.specs.Counts.{CanCount, with_children}
use Rattle.k_sum_rows.proofs.Counted.{Done, all_done, can_count_children, can_count_roots, more_done, roots_done}
use Rattle.k_sum_rows.proofs.counting.count_all.Goals as goal

pub count_children-requires : goal.count_children-requires
count_children-requires c = can_count_roots c.args.dict.now c.args.roots.now c.requires.roots c.requires.interned.earlier c.requires.few c.args.counts.now c.requires.zero

pub loop-number-init : goal.loop-number-init
loop-number-init c =
    let P : ℕ → Type 0 = λ n. Done c.args.dict.now c.args.roots.now n c.count_children.new.counts in
    subst P (sym c.len-number.ensures.count) (roots_done c.args.dict.now c.args.roots.now c.requires.roots c.args.counts.now c.count_children.new.counts c.requires.zero c.count_children.ensures)

pub returns : goal.returns
returns c =
    let none : c.loop-number.number ≡ 0 = omega (arith, c.loop-number-test.false) in
    let P : ℕ → Type 0 = λ n. Done c.args.dict.now c.args.roots.now n c.loop-number.counts in
    all_done c.args.dict.now c.args.roots.now c.requires.roots c.requires.interned.earlier c.requires.few c.loop-number.counts (subst P none c.loop-number.invariant)

pub count_children-requires-in-loop-number : goal.count_children-requires-in-loop-number
count_children-requires-in-loop-number c =
    let entries : List Entry = c.args.dict.now in
    let n : ℕ = c.loop-number.number - 1 in
    let counts : List ℕ = c.loop-number.counts in
    let on : c.loop-number.number ≡ n + 1 = omega (arith, c.loop-number-test.true) in
    let P : ℕ → Type 0 = λ k. Done entries c.args.roots.now k counts in
    subst (λ r. CanCount (get_or counts n 0) counts r) (sym c.as_slice.ensures)
    (can_count_children entries c.args.roots.now c.requires.roots c.requires.interned.earlier c.requires.few n counts (subst P on c.loop-number.invariant) c.entry.result.now c.entry.ensures.value)

pub loop-number-preserved : goal.loop-number-preserved
loop-number-preserved c =
    let entries : List Entry = c.args.dict.now in
    let n : ℕ = c.loop-number.number - 1 in
    let counts : List ℕ = c.loop-number.counts in
    let on : c.loop-number.number ≡ n + 1 = omega (arith, c.loop-number-test.true) in
    let P : ℕ → Type 0 = λ k. Done entries c.args.roots.now k counts in
    more_done entries c.args.roots.now c.requires.roots c.requires.interned.earlier c.requires.few n counts (subst P on c.loop-number.invariant) c.entry.result.now c.entry.ensures.value
    c.count_children-in-loop-number.new.counts (c.count_children-in-loop-number.ensures ∙ ap (with_children (get_or counts n 0) counts) c.as_slice.ensures)
