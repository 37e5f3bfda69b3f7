use Rattle.std.proofs.Common.{◌≡◌, ◌+◌, ◌-◌}
use Rattle.std.specs.Prelude.{vec_len}
use Rattle.k_mem.specs.declared.pointer.Pointer.{Pointer}
use Rattle.k_carry_storage.specs.Tables.{kept_at}
use Rattle.k_carry_storage.proofs.table.Table.reserve.Given as goal

-- what is kept is what was kept
abbrev pub invariant-loop-self : goal.invariant-loop-self
invariant-loop-self l = (element : Pointer) → kept_at l.self element ≡ kept_at l.initial.self element

abbrev pub decreases-loop-self : goal.decreases-loop-self
decreases-loop-self l = l.fn.at + 1 - vec_len l.self.rows
