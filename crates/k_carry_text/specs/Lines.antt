-- Believed with the theorem on the top call.
-- How carried pairs are written.
use Rattle.std.specs.Prelude.{ℕ, List, ◌++◌, codes, length, slice_get}
use Rattle.std.specs.Fmt.{decimal}
use Rattle.std.specs.List.{flat_map}
use Rattle.k_optab.specs.declared.region.Region.{Region}
use Rattle.k_carry_pairs.specs.declared.pairs.LoopPairs.{LoopPairs}
use Rattle.k_carry_pairs.specs.declared.pairs.Pair.{Pair}
use Rattle.k_text.specs.Texts.{named_line, place_text, region_text, written}

-- the line of a pair: where the value was made, and where it was used
abbrev pub pair_line : Pair → List ℕ
pair_line pair = place_text pair.from ++ codes " -> " ++ place_text pair.to ++ codes "\n"

-- the line of a loop, with the number of its pairs
abbrev pub count_line : ℕ → Region → List ℕ
count_line count region = region_text region ++ named_line (codes " pairs ") (decimal count)

-- the lines of a loop and of its pairs
abbrev pub loop_lines : List Region → LoopPairs → List ℕ
loop_lines regions told = written (count_line (length told.pairs)) (slice_get regions told.region) ++ flat_map pair_line told.pairs

-- THE TEXT
abbrev pub carried_text : List Region → List LoopPairs → List ℕ
carried_text regions loops = codes "== carried ==\n" ++ flat_map (loop_lines regions) loops
