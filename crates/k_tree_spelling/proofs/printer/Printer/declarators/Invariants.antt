use Rattle.std.proofs.Common.{◌≡◌, ◌++◌, map, drop}
use Rattle.k_tree.specs.Spelling.{spell_declarator, behind_commas, with_commas}
use Rattle.k_tree_spelling.proofs.printer.Printer.declarators.Given as goal

abbrev pub invariant-loop-declarator : goal.invariant-loop-declarator
invariant-loop-declarator l =
    l.self.tokens ++ behind_commas (map spell_declarator (drop l.declarator-index l.rest))
    ≡ l.fn.self.tokens ++ with_commas (map spell_declarator l.list)
