use Rattle.std.proofs.Common.{◌+◌, ◌-◌}
use Rattle.std.specs.Prelude.{vec_len}
use Rattle.k_carry.specs.Sources.{RowTold, Setting}
use Rattle.k_carry.proofs.row.Row.set.Given as goal

-- what is kept is right
abbrev pub invariant-loop-self : goal.invariant-loop-self
invariant-loop-self l = (s : Setting) → RowTold s l.initial.self → RowTold s l.self

abbrev pub decreases-loop-self : goal.decreases-loop-self
decreases-loop-self l = l.fn.at + 1 - vec_len l.self.items
