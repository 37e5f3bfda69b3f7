use Rattle.k_types_meaning.specs.declared.tree.declaration.TItem.{TItem}
use Rattle.k_types_meaning.specs.Bare.{bare_item}
use Rattle.k_types_meaning.specs.Numbered.{item_numbers}
use Rattle.k_types_numbers.proofs.CountingLaws.{SoFar}
use Rattle.k_types_numbers.proofs.declaration.number_items.Given as goal

abbrev pub invariant-loop-item : goal.invariant-loop-item
invariant-loop-item l = SoFar TItem bare_item item_numbers l.initial.items l.items l.item-index l.initial.counts l.counts
