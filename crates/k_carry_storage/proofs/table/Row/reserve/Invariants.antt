use Rattle.std.proofs.Common.{◌≡◌, ◌+◌, ◌-◌, ℕ}
use Rattle.std.specs.Prelude.{vec_len}
use Rattle.k_carry_storage.specs.Tables.{kept_in}
use Rattle.k_carry_storage.proofs.table.Row.reserve.Given as goal

-- what is kept is what was kept
abbrev pub invariant-loop-alloc : goal.invariant-loop-alloc
invariant-loop-alloc l = (k : ℕ) → kept_in l.self k ≡ kept_in l.initial.self k

abbrev pub decreases-loop-alloc : goal.decreases-loop-alloc
decreases-loop-alloc l = l.fn.at + 1 - vec_len l.self.elements
