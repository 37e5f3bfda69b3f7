use Rattle.std.proofs.Common.{◌≡◌, ◌++◌, map, drop}
use Rattle.k_tree.specs.Spelling.{spell_init, behind_commas, with_commas}
use Rattle.k_tree_spelling.proofs.printer.Printer.+initialisers.Given as goal

abbrev pub invariant-inits-loop-item : goal.invariant-inits-loop-item
invariant-inits-loop-item l =
    l.self.tokens ++ behind_commas (map spell_init (drop l.item-index l.rest))
    ≡ l.fn.self.tokens ++ with_commas (map spell_init l.items)
