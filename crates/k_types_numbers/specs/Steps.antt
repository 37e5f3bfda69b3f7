-- For contracts between crates: nobody has to believe it.
-- What one node, string or loop more makes of the counts.
use Rattle.std.specs.Prelude.{ℕ, ◌+◌, List, [], ◌∷◌, ◌++◌}
use Rattle.k_num.specs.declared.place.Place.{Place}
use Rattle.k_types_numbers.specs.declared.counts.Counts.{Counts}

-- nothing is counted
abbrev pub nothing_counted : Counts
nothing_counted = record { nodes = 0; strings = 0; loops = 0; texts = [] }

-- one node more
abbrev pub node_counted : Counts → Counts
node_counted s = record s { nodes = s.nodes + 1 }

-- one loop more
abbrev pub loop_counted : Counts → Counts
loop_counted s = record s { loops = s.loops + 1 }

-- one string more, which is listed
abbrev pub string_counted : Place → List ℕ → Counts → Counts
string_counted p bytes s = record s { strings = s.strings + 1; texts = s.texts ++ record { place = p; bytes = bytes } ∷ [] }
