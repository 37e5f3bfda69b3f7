-- Believed with the theorem on the top call.
-- The picture of the contexts: a box for each, under that of the context around it, as wide as its share of the work.
use Rattle.std.specs.Prelude.{ℕ, ◌+◌, ◌-◌, ◌*◌, ◌==◌, Bool, if◌then◌else◌, List, [], ◌++◌, slice_get, codes}
use Rattle.std.specs.List.{flat_map, list_any}
use Rattle.std.specs.Fmt.{decimal}
use Rattle.k_optab.specs.declared.region.Region.{Region}
use Rattle.k_plan.specs.declared.advice.Pick.{Pick}
use Rattle.k_selfpar.specs.declared.context.Context.{Context}
use Rattle.k_text.specs.Texts.{place_text, written}
use Rattle.k_page.specs.Amounts.{scaled, shade, shade_of, sums, width}
use Rattle.k_page.specs.Cells.{name}
use Rattle.k_page.specs.Markup.{bare, element, texted, valued, with_one}
use Rattle.k_page.specs.Prose.{words}
use Rattle.k_page.specs.Tiles.{levels_from}
use Rattle.k_page.specs.declared.markup.Attribute.TheVariants as attribute
use Rattle.k_page.specs.declared.markup.Tag.{Tag}
use Rattle.k_page.specs.declared.markup.Tag.TheVariants as tag
use Rattle.k_page.specs.declared.prose.Prose.{Prose}
use Rattle.k_page.specs.declared.prose.Prose.TheVariants as prose
use Rattle.k_page.specs.declared.tiles.Tile.{Tile}

-- a context of this number is picked
abbrev pub is_picked : List Pick → ℕ → Bool
is_picked picks number = list_any (λ (pick : Pick). pick.context == number) picks

-- what is written behind what is picked
abbrev pub mark_word : Bool → List ℕ
mark_word picked = if picked then codes " picked" else []

-- where a box ends, in the units of work
abbrev pub end_of : Tile → ℕ
end_of tile = tile.start + tile.context.work

-- THE WIDTH of a box that begins here, in the units of the picture: up to where its work ends
abbrev pub width_from : Tile → ℕ → ℕ → ℕ
width_from tile whole left = scaled (end_of tile) whole width - left

-- how many units of the picture levels take
abbrev pub height_of : ℕ → ℕ
height_of levels = levels * 20

-- what a box is of, with its numbers
unfoldable pub label : Context → Region → Bool → List ℕ
label context region picked =
    name region ++ codes " " ++ place_text region.place ++ sums context.instances context.work context.path context.sp ++ mark_word picked

-- what tells of a box where it is pointed at
unfoldable pub title : Context → Region → Bool → List ℕ
title context region picked = bare tag.Title (label context region picked)

-- the shade of a box, and whether it is outlined
unfoldable pub look : Context → Bool → List ℕ
look context picked = valued attribute.Class (shade context.sp ++ mark_word picked)

-- the shape of a box: its shade, and whether it is outlined
unfoldable pub shape : Context → Bool → List ℕ
shape context picked =
    element tag.Shape (look context picked ++ valued attribute.Width (codes "100%") ++ valued attribute.Height (codes "100%")) []

-- what stands in a box
unfoldable pub caption : Context → Region → Bool → List ℕ
caption context region picked =
    element tag.Label (valued attribute.Left (codes "4") ++ valued attribute.Top (codes "15")) (label context region picked)

-- where a box stands, and how large it is
unfoldable pub frame : ℕ → ℕ → ℕ → List ℕ
frame left top wide =
    valued attribute.Left (decimal left) ++ valued attribute.Top (decimal top) ++ valued attribute.Width (decimal wide) ++ valued attribute.Height (codes "20")

-- what a box has in it
unfoldable pub content : Context → Region → Bool → List ℕ
content context region picked = title context region picked ++ shape context picked ++ caption context region picked

-- a box of this place and width
unfoldable pub box_of : Tile → Region → Bool → ℕ → ℕ → List ℕ
box_of tile region picked left wide = element tag.Picture (frame left (height_of tile.level) wide) (content tile.context region picked)

-- A BOX of this region; nothing where it would be narrower than a unit
unfoldable pub box_in : ℕ → Bool → Tile → Region → List ℕ
box_in whole picked tile region =
    if width_from tile whole (scaled tile.start whole width) == 0 then []
    else box_of tile region picked (scaled tile.start whole width) (width_from tile whole (scaled tile.start whole width))

-- the box of a tile, whose context names a region of the list
unfoldable pub tile_box : List Region → List Pick → ℕ → Tile → List ℕ
tile_box regions picks whole tile = written (box_in whole (is_picked picks tile.number) tile) (slice_get regions tile.context.region)

-- a text of the page under a name of its own
unfoldable pub named_prose : Tag → List ℕ → Prose → List ℕ
named_prose t own p = with_one t attribute.Name own (words p)

-- the title of the picture
abbrev pub picture_title : List ℕ
picture_title = named_prose tag.Title (codes "picture-title") prose.PictureTitle

-- what the picture is, for who can't see it
abbrev pub picture_text : List ℕ
picture_text = named_prose tag.Description (codes "picture-text") prose.PictureText

-- the front of the picture: what names it, and its size
unfoldable pub picture_front : ℕ → List ℕ
picture_front height =
    valued attribute.Role (codes "img") ++ valued attribute.LabelledBy (codes "picture-title picture-text")
    ++ valued attribute.View (codes "0 0 1200 " ++ decimal height)

-- THE PICTURE
unfoldable pub picture : List Region → List Pick → ℕ → List Tile → List ℕ
picture regions picks whole tiles =
    element tag.Picture (picture_front (height_of (levels_from 0 tiles))) (picture_title ++ picture_text ++ flat_map (tile_box regions picks whole) tiles)

-- the shade of so many whole times, and what it stands for
unfoldable pub shade_cell : ℕ → Prose → List ℕ
shade_cell n p = with_one tag.Cell attribute.Class (shade_of n) (words p)

-- the shades in a line
unfoldable pub shades : List ℕ
shades =
    shade_cell 1 prose.BelowTwo ++ shade_cell 2 prose.BelowFive ++ shade_cell 5 prose.BelowTwentyFive ++ shade_cell 25 prose.BelowHundred
    ++ shade_cell 100 prose.HundredAndMore

-- the same as a line of a table
unfoldable pub shade_row : List ℕ
shade_row = bare tag.Row shades

-- what the shades of the picture stand for
unfoldable pub legend : List ℕ
legend = bare tag.Table (texted tag.Caption (words prose.ShadesCaption) ++ shade_row)
