use Rattle.std.proofs.Common.{◌≡◌, ◌++◌, drop}
use Rattle.std.specs.List.{flat_map}
use Rattle.k_pragma.specs.Insertions.{note_of}
use Rattle.k_pragma.proofs.notes.notes_of.Given as goal

abbrev pub invariant-loop-row : goal.invariant-loop-row
invariant-loop-row l =
    l.notes.items ++ flat_map (note_of l.lines l.tokens l.regions l.pragmas) (drop l.row-index l.rows)
    ≡ flat_map (note_of l.lines l.tokens l.regions l.pragmas) l.rows
