use Rattle.std.proofs.Common.{◌≡◌, ◌++◌, drop}
use Rattle.std.specs.List.{flat_map}
use Rattle.k_sum.specs.SumText.{exit_line, exits_text}
use Rattle.k_sum.proofs.writing.push_exits.Given as goal

abbrev pub invariant-loop-exit : goal.invariant-loop-exit
invariant-loop-exit l = l.text.items ++ flat_map exit_line (drop l.exit-index l.exits) ≡ l.fn.text.items ++ exits_text l.fn.exits
