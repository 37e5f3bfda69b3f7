use Rattle.std.proofs.Common.{◌≡◌, ◌++◌, drop}
use Rattle.std.specs.List.{flat_map}
use Rattle.k_page.specs.Picture.{tile_box}
use Rattle.k_page.proofs.picture.push_boxes.Given as goal

abbrev pub invariant-loop-tile : goal.invariant-loop-tile
invariant-loop-tile l =
    l.text.items ++ flat_map (tile_box l.regions l.picks l.whole) (drop l.tile-index l.tiles)
    ≡ l.fn.text.items ++ flat_map (tile_box l.regions l.picks l.whole) l.fn.tiles
