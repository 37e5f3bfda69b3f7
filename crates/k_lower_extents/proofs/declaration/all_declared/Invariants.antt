use Rattle.std.proofs.Common.{◌≡◌, drop}
use Rattle.k_lower_extents.specs.StatementSums.{all_declared, behind}
use Rattle.k_lower_extents.proofs.declaration.all_declared.Given as goal

abbrev pub invariant-loop-declarator : goal.invariant-loop-declarator
invariant-loop-declarator l =
    behind l.all (all_declared l.variables (drop l.declarator-index l.declarator-items)) ≡ all_declared l.variables l.list
