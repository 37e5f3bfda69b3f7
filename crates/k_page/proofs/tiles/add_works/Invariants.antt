use Rattle.std.proofs.Common.{◌≡◌, drop}
use Rattle.k_page.specs.Tiles.{works_from}
use Rattle.k_page.proofs.tiles.add_works.Given as goal

abbrev pub invariant-loop-context : goal.invariant-loop-context
invariant-loop-context l = works_from l.sums (drop l.context-index l.contexts) ≡ works_from l.fn.sums l.contexts
