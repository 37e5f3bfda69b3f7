use Rattle.std.proofs.Common.{◌≡◌, ◌++◌, drop}
use Rattle.std.specs.List.{flat_map}
use Rattle.k_carry_storage_text.specs.Lines.{shared_line}
use Rattle.k_carry_storage_text.proofs.lines.push_pairs.Given as goal

abbrev pub invariant-loop-shared : goal.invariant-loop-shared
invariant-loop-shared l = l.text.items ++ flat_map shared_line (drop l.shared-index l.pairs) ≡ l.fn.text.items ++ flat_map shared_line l.fn.pairs
