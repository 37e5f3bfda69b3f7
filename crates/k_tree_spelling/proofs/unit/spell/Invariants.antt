use Rattle.std.proofs.Common.{◌≡◌, ◌++◌, map, drop}
use Rattle.k_tree.specs.Spelling.{in_row, spell_item}
use Rattle.k_tree_spelling.proofs.unit.spell.Given as goal

abbrev pub invariant-loop-item : goal.invariant-loop-item
invariant-loop-item l =
    l.printer.tokens ++ in_row (map spell_item (drop l.item-index l.item-items)) ≡ in_row (map spell_item l.unit.items)
