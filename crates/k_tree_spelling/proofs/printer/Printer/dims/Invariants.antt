use Rattle.std.proofs.Common.{◌≡◌, ◌++◌, drop}
use Rattle.k_tree.specs.Spelling.{spell_dims}
use Rattle.k_tree_spelling.proofs.printer.Printer.dims.Given as goal

abbrev pub invariant-loop-size : goal.invariant-loop-size
invariant-loop-size l = l.self.tokens ++ spell_dims (drop l.size-index l.size-items) ≡ l.fn.self.tokens ++ spell_dims l.dims
