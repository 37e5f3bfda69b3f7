use Rattle.std.proofs.Common.{false, rules, arith, sym, refl}
use Rattle.std.proofs.lemmas.Cmp.{ranked}
use Rattle.std.proofs.lemmas.List.Sorted.{answers_always}
use Rattle.k_mem.specs.declared.extent.Extent.{Extent}
use Rattle.k_mem.proofs.Extents.{fill_at, comparisons_rise, found_at, found_in_gap}
use Rattle.k_mem.proofs.extent.extent_searched.Goals as goal

-- what the goals read past the end
abbrev blank : Extent
blank = record { number = 0; first = 0; length = 0; writable = false }

-- the search ended at the number's extent
pub returns-in-Ok-clause-extent : goal.returns-in-Ok-clause-extent
returns-in-Ok-clause-extent c =
    let at = c.in-Ok.ensures.position (λ e. e.number) (answers_always _ _ _ (λ f a r g called. search rules)) in
    let same = ranked _ c.args.number _ (sym (at blank)) in
    rw (found_at c.args.extents.now 0 c.requires.1.0 c.args.number c.in-Ok.at blank c.requires.1.1.ascend c.in-Ok.ensures.bound same) refl

pub returns-in-Ok-clause-small : goal.returns-in-Ok-clause-small
returns-in-Ok-clause-small c =
    let kept = c.requires.1.1 in
    let inside = fill_at c.args.extents.now 0 c.requires.0 c.in-Ok.at blank kept.fill c.in-Ok.ensures.bound in
    omega (arith, inside.1, kept.few_elements)

-- the search ended in a gap
pub returns-in-Err-clause-extent : goal.returns-in-Err-clause-extent
returns-in-Err-clause-extent c =
    let gap = c.in-Err.ensures.position (λ e. e.number) (answers_always _ _ _ (λ f a r g called. search rules)) in
    let rise = comparisons_rise c.args.extents.now 0 c.requires.1.0 c.args.number c.requires.1.1.ascend in
    rw (found_in_gap c.args.extents.now c.args.number _ (gap rise)) refl
