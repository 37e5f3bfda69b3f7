use Rattle.std.proofs.Common.{◌≡◌, ◌++◌, drop}
use Rattle.k_pragma_written.specs.Names.{declared}
use Rattle.k_pragma_written.proofs.names.push_declared.Given as goal

abbrev pub invariant-loop-declarator : goal.invariant-loop-declarator
invariant-loop-declarator l = l.names ++ declared (drop l.declarator-index l.declarator-items) ≡ l.fn.names ++ declared l.list
