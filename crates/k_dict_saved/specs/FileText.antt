-- Believed with the theorem on the top call.
-- The text of a file.
use Rattle.std.specs.Prelude.{ℕ, List, ◌++◌, length, codes}
use Rattle.std.specs.List.{flat_map}
use Rattle.std.specs.Fmt.{decimal}
use Rattle.k_optab.specs.declared.region.Region.{Region}
use Rattle.k_dict_entries.specs.declared.entry.Entry.{Entry}
use Rattle.k_text.specs.Texts.{head_text, named_line, region_text, run_text}
use Rattle.k_dict_saved.specs.Formats.{first_line}
use Rattle.k_dict_saved.specs.declared.file.File.{File}

-- the line of a region
abbrev pub region_line : Region → List ℕ
region_line r = region_text r ++ codes "\n"

-- the numbers of an entry: region, work and path
abbrev pub numbers_text : Entry → List ℕ
numbers_text e = decimal e.region ++ codes " " ++ decimal e.work ++ codes " " ++ decimal e.path

-- the line of an entry: its numbers and its runs
abbrev pub entry_line : Entry → List ℕ
entry_line e = numbers_text e ++ flat_map run_text e.runs ++ codes "\n"

-- the lines of the regions behind their count
abbrev pub regions_text : List Region → List ℕ
regions_text regions = named_line (codes "regions ") (decimal (length regions)) ++ flat_map region_line regions

-- the lines of the entries behind their count
abbrev pub entries_text : List Entry → List ℕ
entries_text entries = named_line (codes "entries ") (decimal (length entries)) ++ flat_map entry_line entries

-- the text of a file
abbrev pub file_text : File → List ℕ
file_text file = head_text (first_line file.format) file.exit file.ops ++ regions_text file.regions ++ entries_text file.entries ++ codes "end\n"
