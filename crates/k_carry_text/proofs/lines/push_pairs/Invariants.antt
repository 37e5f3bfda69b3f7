use Rattle.std.proofs.Common.{◌≡◌, ◌++◌, drop}
use Rattle.std.specs.List.{flat_map}
use Rattle.k_carry_text.specs.Lines.{pair_line}
use Rattle.k_carry_text.proofs.lines.push_pairs.Given as goal

abbrev pub invariant-loop-pair : goal.invariant-loop-pair
invariant-loop-pair l = l.text.items ++ flat_map pair_line (drop l.pair-index l.pairs) ≡ l.fn.text.items ++ flat_map pair_line l.fn.pairs
