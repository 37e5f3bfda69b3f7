use Rattle.std.proofs.Common.{◌≡◌, ◌++◌, drop}
use Rattle.k_report.specs.DictLines.{entry_lines}
use Rattle.k_report.proofs.dict_lines.push_entries.Given as goal

abbrev pub invariant-loop-number : goal.invariant-loop-number
invariant-loop-number l = l.text.items ++ entry_lines l.number (drop l.number l.dict) ≡ l.fn.text.items ++ entry_lines 0 l.dict
