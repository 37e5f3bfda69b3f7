-- Believed with the theorem on the top call, where storage is asked for.
-- How storage pairs are written.
use Rattle.std.specs.Prelude.{ℕ, List, ◌++◌, codes, length, slice_get}
use Rattle.std.specs.List.{flat_map}
use Rattle.k_optab.specs.declared.region.Region.{Region}
use Rattle.k_text.specs.Texts.{place_text, written}
use Rattle.k_carry_text.specs.Lines.{count_line}
use Rattle.k_carry_storage_pairs.specs.declared.pairs.LoopStorage.{LoopStorage}
use Rattle.k_carry_storage_pairs.specs.declared.pairs.Shared.{Shared}
use Rattle.k_carry_storage_pairs.specs.declared.pairs.Sharing.{Sharing}
use Rattle.k_carry_storage_pairs.specs.declared.pairs.Sharing.TheVariants.{Anti, Output}

-- the word of a kind
abbrev pub kind_text : Sharing → List ℕ
kind_text Anti = codes "anti "
kind_text Output = codes "output "

-- the line of a storage pair: where an element was loaded or stored to first, and where it was stored to later
abbrev pub shared_line : Shared → List ℕ
shared_line s = kind_text s.kind ++ place_text s.from ++ codes " -> " ++ place_text s.to ++ codes "\n"

-- the line of a loop with the number of its storage pairs, and theirs
abbrev pub loop_lines : List Region → LoopStorage → List ℕ
loop_lines regions told = written (count_line (length told.pairs)) (slice_get regions told.region) ++ flat_map shared_line told.pairs

-- THE TEXT
abbrev pub storage_text : List Region → List LoopStorage → List ℕ
storage_text regions loops = codes "== storage ==\n" ++ flat_map (loop_lines regions) loops
