use Rattle.std.proofs.Common.{◌≡◌, ◌*◌, ◌<◌, ◌^◌, ◌++◌}
use Rattle.k_gen.specs.Draw.{state}
use Rattle.k_gen.specs.Text.{head, loop_lines}
use Rattle.k_gen.proofs.text.generate.Given as goal

abbrev pub invariant-loop-k : goal.invariant-loop-k
invariant-loop-k l = (l.state ≡ state l.fn.number (2 * l.k)) × (l.state < 2 ^ 31) × (l.text.items ≡ head ++ loop_lines l.fn.number l.k)
