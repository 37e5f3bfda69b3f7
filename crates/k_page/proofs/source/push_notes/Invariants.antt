use Rattle.std.proofs.Common.{◌≡◌, ◌++◌, drop}
use Rattle.std.specs.List.{flat_map}
use Rattle.k_page.specs.Source.{note_of}
use Rattle.k_page.proofs.source.push_notes.Given as goal

abbrev pub invariant-loop-row : goal.invariant-loop-row
invariant-loop-row l = l.text.items ++ flat_map (note_of l.regions l.contexts l.picks l.whole) (drop l.row-index l.rows)
    ≡ l.fn.text.items ++ flat_map (note_of l.regions l.contexts l.picks l.whole) l.fn.rows
