-- Believed with the theorem on the top call.
-- Where contexts stand in the picture: each begins behind the work that the contexts before it have themselves. So a context has its own work first, and behind
-- it those in it, one beside the other.
use Rattle.std.specs.Prelude.{ℕ, zero, suc, ◌+◌, ◌-◌, List, [], ◌∷◌, ◌++◌, length, drop, max, get_or, replicate, slice_get, Option, Some, None}
use Rattle.k_selfpar.specs.declared.context.Context.{Context}
use Rattle.k_page.specs.declared.tiles.Tile.{Tile}

-- a number more at a place of a list, where the list has this place
abbrev pub added : ℕ → ℕ → List ℕ → List ℕ
added place number [] = []
added zero number (x ∷ xs) = (x + number) ∷ xs
added (suc place) number (x ∷ xs) = x ∷ added place number xs

-- to these sums each context adds its work at its parent's place
abbrev pub works_from : List ℕ → List Context → List ℕ
works_from sums [] = sums
works_from sums (c ∷ contexts) = works_from (added c.parent c.work sums) contexts

-- for each context the work of those directly in it; the first is in none
abbrev pub inner_works : List Context → List ℕ
inner_works contexts = works_from (replicate (length contexts) 0) (drop 1 contexts)

-- one level below a tile, where there is one
abbrev pub below : Option Tile → ℕ
below None = 0
below (Some tile) = tile.level + 1

-- how many contexts are around one with this parent
abbrev pub level_in : List Tile → ℕ → ℕ
level_in tiles parent = below (slice_get tiles parent)

-- the work that context number n has itself
abbrev pub own_work : List ℕ → ℕ → ℕ → ℕ
own_work sums n work = work - get_or sums n 0

-- the tile of a context behind these
abbrev pub with_tile : List Tile → ℕ → Context → List Tile
with_tile tiles start c = tiles ++ record { number = length tiles; context = c; start = start; level = level_in tiles c.parent } ∷ []

-- where the tile behind it begins
abbrev pub next_start : List Tile → List ℕ → ℕ → Context → ℕ
next_start tiles sums start c = start + own_work sums (length tiles) c.work

-- the tiles of contexts behind these
abbrev pub tiles_from : List ℕ → List Tile → ℕ → List Context → List Tile
tiles_from sums tiles start [] = tiles
tiles_from sums tiles start (c ∷ contexts) = tiles_from sums (with_tile tiles start c) (next_start tiles sums start c) contexts

-- THE TILES of contexts
abbrev pub tiles : List Context → List Tile
tiles contexts = tiles_from (inner_works contexts) [] 0 contexts

-- how many levels tiles have, where others have so many
abbrev pub levels_from : ℕ → List Tile → ℕ
levels_from most [] = most
levels_from most (tile ∷ tiles) = levels_from (max most (tile.level + 1)) tiles
