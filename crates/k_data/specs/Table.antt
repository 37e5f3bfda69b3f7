-- Believed with the theorem on the top call.
-- The rows of a profile as CSV (RFC 4180): a line of names, and a line for each row, each ended by CR and LF. Names of functions are names of C, so that
-- no field has to be quoted.
use Rattle.std.specs.Prelude.{ℕ, List, ◌++◌, slice_get, codes}
use Rattle.std.specs.List.{flat_map}
use Rattle.std.specs.Fmt.{decimal}
use Rattle.k_optab.specs.declared.region.Region.{Region}
use Rattle.k_selfpar.specs.declared.row.Row.{Row}
use Rattle.k_text.specs.Texts.{kind_text, written}

-- the names of the fields
abbrev pub names_line : List ℕ
names_line = codes "region,kind,function,line,column,instances,work,path,sp_num,sp_den\r\n"

-- the fields of a region
abbrev pub region_fields : Region → List ℕ
region_fields region =
    codes "," ++ kind_text region.kind ++ codes "," ++ region.func ++ codes "," ++ decimal region.place.line ++ codes "," ++ decimal region.place.column

-- the numbers of a row
abbrev pub number_fields : Row → List ℕ
number_fields row =
    codes "," ++ decimal row.instances ++ codes "," ++ decimal row.work ++ codes "," ++ decimal row.path
    ++ codes "," ++ decimal row.sp.0 ++ codes "," ++ decimal row.sp.1 ++ codes "\r\n"

-- the line of a row of this region
abbrev pub row_fields : Row → Region → List ℕ
row_fields row region = decimal row.region ++ region_fields region ++ number_fields row

-- the line of a row, which names a region of the list
abbrev pub row_line : List Region → Row → List ℕ
row_line regions row = written (row_fields row) (slice_get regions row.region)

-- THE TABLE of the rows
abbrev pub rows_csv : List Region → List Row → List ℕ
rows_csv regions rows = names_line ++ flat_map (row_line regions) rows
