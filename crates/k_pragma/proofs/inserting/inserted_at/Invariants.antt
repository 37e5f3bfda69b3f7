use Rattle.std.proofs.Common.{◌≡◌, ◌++◌, drop}
use Rattle.std.specs.List.{flat_map}
use Rattle.k_pragma.specs.Insertions.{inserted_by}
use Rattle.k_pragma.proofs.inserting.inserted_at.Given as goal

abbrev pub invariant-loop-note : goal.invariant-loop-note
invariant-loop-note l =
    l.text.items ++ flat_map (inserted_by l.place l.source) (drop l.note-index l.notes) ≡ flat_map (inserted_by l.place l.source) l.notes
