use Rattle.std.proofs.Common.{◌≡◌, ◌++◌, drop}
use Rattle.std.specs.List.{flat_map}
use Rattle.k_carry_storage_text.specs.Lines.{loop_lines}
use Rattle.k_carry_storage_text.proofs.lines.push_loops.Given as goal

abbrev pub invariant-loop-told : goal.invariant-loop-told
invariant-loop-told l = l.text.items ++ flat_map (loop_lines l.regions) (drop l.told-index l.loops) ≡ l.fn.text.items ++ flat_map (loop_lines l.regions) l.fn.loops
