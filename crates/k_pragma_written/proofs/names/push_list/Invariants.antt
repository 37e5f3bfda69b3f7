use Rattle.std.proofs.Common.{◌≡◌, ◌++◌, drop}
use Rattle.k_pragma_written.specs.Names.{param_names}
use Rattle.k_pragma_written.proofs.names.push_list.Given as goal

abbrev pub invariant-loop-param : goal.invariant-loop-param
invariant-loop-param l = l.names ++ param_names (drop l.param-index l.param-items) ≡ l.fn.names ++ param_names l.list
