-- Believed with a public law.
-- The rows of a profile as records of CSV: a record is a list of fields, and a field a list of bytes.
use Rattle.std.specs.Prelude.{ℕ, List, [], ◌∷◌, map, Option, Some, None, slice_get, codes}
use Rattle.std.specs.Fmt.{decimal}
use Rattle.k_optab.specs.declared.region.Region.{Region}
use Rattle.k_selfpar.specs.declared.row.Row.{Row}
use Rattle.k_text.specs.Texts.{kind_text}

-- the names of the fields
abbrev pub names_record : List (List ℕ)
names_record =
    codes "region" ∷ codes "kind" ∷ codes "function" ∷ codes "line" ∷ codes "column" ∷ codes "instances" ∷ codes "work" ∷ codes "path"
    ∷ codes "sp_num" ∷ codes "sp_den" ∷ []

-- the fields of a row of this region
unfoldable pub fields_of_row : Row → Region → List (List ℕ)
fields_of_row row region =
    decimal row.region ∷ kind_text region.kind ∷ region.func ∷ decimal region.place.line ∷ decimal region.place.column
    ∷ decimal row.instances ∷ decimal row.work ∷ decimal row.path ∷ decimal row.sp.0 ∷ decimal row.sp.1 ∷ []

-- those of a row of the region at its number, if one is there
abbrev pub fields_where : Row → Option Region → List (List ℕ)
fields_where row None = []
fields_where row (Some region) = fields_of_row row region

-- the record of a row, which names a region of the list
abbrev pub row_record : List Region → Row → List (List ℕ)
row_record regions row = fields_where row (slice_get regions row.region)

-- THE RECORDS of the table
abbrev pub table_records : List Region → List Row → List (List (List ℕ))
table_records regions rows = names_record ∷ map (row_record regions) rows
