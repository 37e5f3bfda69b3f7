use Rattle.std.proofs.Common.{◌≡◌, drop}
use Rattle.k_page.specs.Tiles.{levels_from}
use Rattle.k_page.proofs.tiles.levels.Given as goal

abbrev pub invariant-loop-tile : goal.invariant-loop-tile
invariant-loop-tile l = levels_from l.most (drop l.tile-index l.tiles) ≡ levels_from 0 l.tiles
