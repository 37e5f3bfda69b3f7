use Rattle.std.proofs.Common.{◌≡◌, drop}
use Rattle.k_page.specs.Tiles.{tiles, tiles_from}
use Rattle.k_page.proofs.tiles.tiles_of.Given as goal

abbrev pub invariant-loop-context : goal.invariant-loop-context
invariant-loop-context l = tiles_from l.sums.items l.tiles l.start (drop l.context-index l.contexts) ≡ tiles l.contexts
