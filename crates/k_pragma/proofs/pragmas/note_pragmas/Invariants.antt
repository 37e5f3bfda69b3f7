use Rattle.std.proofs.Common.{◌≡◌, ◌++◌, drop}
use Rattle.k_pragma.specs.Marked.{pragmas_of_text}
use Rattle.k_pragma.proofs.pragmas.note_pragmas.Given as goal

abbrev pub invariant-loop-at : goal.invariant-loop-at
invariant-loop-at l =
    l.pragmas.items
    ++ pragmas_of_text l.among l.counted l.bare l.names l.number l.variables l.text.occurs.items l.text.setters.items (drop l.at-index l.at-items)
    ≡ l.fn.pragmas.items
    ++ pragmas_of_text l.among l.counted l.bare l.names l.number l.variables l.text.occurs.items l.text.setters.items l.text.loops.items
