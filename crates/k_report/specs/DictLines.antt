-- Believed with the theorem on the top call.
-- The lines of a dictionary in a report.
use Rattle.std.specs.Prelude.{ℕ, ◌+◌, List, [], ◌∷◌, ◌++◌, Option, Some, None, length, codes}
use Rattle.std.specs.List.{flat_map}
use Rattle.std.specs.Fmt.{decimal}
use Rattle.k_dict_entries.specs.declared.entry.Entry.{Entry}
use Rattle.k_text.specs.Texts.{named_line, run_text}

-- the line of entry k
abbrev pub entry_line : ℕ → Entry → List ℕ
entry_line k entry =
    decimal k ++ codes " region " ++ decimal entry.region ++ codes " work " ++ decimal entry.work ++ codes " path " ++ decimal entry.path
    ++ codes " runs" ++ flat_map run_text entry.runs ++ codes "\n"

-- the lines of entries that are numbered from k on
abbrev pub entry_lines : ℕ → List Entry → List ℕ
entry_lines k [] = []
entry_lines k (entry ∷ entries) = entry_line k entry ++ entry_lines (k + 1) entries

-- how many entries there are, and their lines; nothing where no dictionary is asked for
abbrev pub dict_text : Option (List Entry) → List ℕ
dict_text None = []
dict_text (Some entries) = named_line (codes "dict ") (decimal (length entries)) ++ entry_lines 0 entries
