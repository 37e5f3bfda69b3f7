use Rattle.std.proofs.Common.{◌≡◌, ◌++◌, drop}
use Rattle.k_tree.specs.Spelling.{spell_specs}
use Rattle.k_tree_spelling.proofs.printer.Printer.specs.Given as goal

abbrev pub invariant-loop-word : goal.invariant-loop-word
invariant-loop-word l = l.self.tokens ++ spell_specs (drop l.word-index l.word-items) ≡ l.fn.self.tokens ++ spell_specs l.specs
