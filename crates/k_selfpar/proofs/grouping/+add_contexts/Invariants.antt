use Rattle.std.proofs.Common.{length}
use Rattle.k_dict_entries.specs.Trees.{height}
use Rattle.k_selfpar.specs.Grouping.{standing}
use Rattle.k_selfpar.proofs.Grouped.{Listing}
use Rattle.k_selfpar.proofs.grouping.+add_contexts.Given as goal

abbrev pub decreases-add_contexts : goal.decreases-add_contexts
decreases-add_contexts l = height (standing l.dict.now l.items.now)

abbrev pub invariant-loop-first : goal.invariant-loop-first
invariant-loop-first l = Listing l.regions l.dict l.parent l.items l.rest l.fn.contexts l.contexts

abbrev pub decreases-loop-first : goal.decreases-loop-first
decreases-loop-first l = length l.rest
