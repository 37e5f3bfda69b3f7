use Rattle.std.proofs.Common.{arith, false}
use Rattle.k_mem.specs.declared.extent.Extent.{Extent}
use Rattle.k_mem.proofs.Extents.{fill_at, found_at}
use Rattle.k_mem.proofs.extent.extent_in_place.Goals as goal

-- what the goals read past the end
abbrev blank : Extent
blank = record { number = 0; first = 0; length = 0; writable = false }

-- the extent in that place has the number
pub returns-then-extents-place-clause-extent : goal.returns-then-extents-place-clause-extent
returns-then-extents-place-clause-extent c =
    found_at c.args.extents.now 0 c.requires.1.0 c.args.number c.args.number blank c.requires.1.1.ascend c.if-place-extents.true c.if-extents-place.true

pub returns-then-extents-place-clause-small : goal.returns-then-extents-place-clause-small
returns-then-extents-place-clause-small c =
    let kept = c.requires.1.1 in
    let inside = fill_at c.args.extents.now 0 c.requires.0 c.args.number blank kept.fill c.if-place-extents.true in
    omega (arith, inside.1, kept.few_elements)
