-- Believed with a public law.
-- The text of a sum file.
use Rattle.std.specs.Prelude.{ℕ, List, ◌++◌, length, codes}
use Rattle.std.specs.List.{flat_map}
use Rattle.std.specs.Fmt.{decimal, signed_decimal}
use Rattle.k_dict_entries.specs.declared.entry.Run.{Run}
use Rattle.k_text.specs.Texts.{named_line, run_text}
use Rattle.k_dict_saved.specs.FileText.{entries_text, regions_text}
use Rattle.k_sum.specs.declared.exits.Exit.{Exit}
use Rattle.k_sum.specs.declared.sum.Sum.{Sum}

-- a first text, and behind it the line of how many runs there were
abbrev pub runs_text : List ℕ → ℕ → List ℕ
runs_text first runs = first ++ named_line (codes "runs ") (decimal runs)

-- the line of an exit value
abbrev pub exit_line : Exit → List ℕ
exit_line x = signed_decimal x.value ++ named_line (codes " ") (decimal x.runs)

-- the lines of the exit values behind their count
abbrev pub exits_text : List Exit → List ℕ
exits_text exits = named_line (codes "exits ") (decimal (length exits)) ++ flat_map exit_line exits

-- the line of the roots
abbrev pub roots_text : List Run → List ℕ
roots_text roots = codes "roots" ++ flat_map run_text roots ++ codes "\n"

-- the text of a sum file
abbrev pub sum_text : Sum → List ℕ
sum_text sum =
    runs_text (codes "kremlin sum 1\n") sum.runs ++ exits_text sum.exits ++ named_line (codes "ops ") (decimal sum.ops)
    ++ regions_text sum.regions ++ entries_text sum.dict ++ roots_text sum.roots ++ codes "end\n"
