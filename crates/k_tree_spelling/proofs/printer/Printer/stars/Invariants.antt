use Rattle.std.proofs.Common.{◌≡◌, ◌++◌, drop}
use Rattle.k_tree.specs.Spelling.{spell_stars}
use Rattle.k_tree_spelling.proofs.printer.Printer.stars.Given as goal

abbrev pub invariant-loop-constant : goal.invariant-loop-constant
invariant-loop-constant l =
    l.self.tokens ++ spell_stars (drop l.constant-index l.constant-items) ≡ l.fn.self.tokens ++ spell_stars l.stars
