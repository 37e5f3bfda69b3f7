-- For contracts between crates: nobody has to believe it.
-- Stretches of code at their sites, as pieces.
use Rattle.std.specs.Prelude.{ℕ, ◌+◌, List}
use Rattle.k_num.specs.declared.place.Place.{Place}
use Rattle.k_types_meaning.specs.declared.tree.declaration.TItem.{TItem}
use Rattle.k_code.specs.declared.instruction.Do.TheVariants.{Fill}
use Rattle.k_evaluation.specs.Declarations.{values_from}
use Rattle.k_lower_code.specs.Declarations.{stores_items}
use Rattle.k_lower_code.specs.Pieces.{Piece, ◌>>>◌, does}
use Rattle.k_lower_code.specs.Stretches.{Inside, Site, Stretch}
use Rattle.k_lower_statements.specs.declared.site.Site as declared_site

-- a site, as lowering has it
abbrev pub site_of : declared_site.Site → Site
site_of s = record { objects = s.objects; breaks = s.breaks; continues = s.continues }

-- a stretch at a site
abbrev pub at_site : Site → Stretch → Piece (Unit {0})
at_site site s = record { size = s.size; code = λ first. s.code site first; gives = tt }

-- the same, which gives the number of objects that are live behind it
abbrev pub objects_at : Site → Stretch → Piece ℕ
objects_at site s = record { size = s.size; code = λ first. s.code site first; gives = site.objects + s.opens }

-- an array begins by its strings, and then by a store for each other item
abbrev pub fills : Inside → Place → ℕ → List TItem → Piece (Unit {0})
fills w place object items = does w.program place (Fill object (values_from items)) >>> λ filled. stores_items w object items
