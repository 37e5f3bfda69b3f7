use Rattle.std.proofs.Common.{◌≡◌, ◌++◌, map, drop}
use Rattle.k_tree.specs.Spelling.{spell_param, behind_commas, with_commas}
use Rattle.k_tree_spelling.proofs.printer.Printer.param_list.Given as goal

abbrev pub invariant-loop-param : goal.invariant-loop-param
invariant-loop-param l =
    l.self.tokens ++ behind_commas (map spell_param (drop l.param-index l.rest))
    ≡ l.fn.self.tokens ++ with_commas (map spell_param l.list)
