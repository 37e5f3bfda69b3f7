use Rattle.std.proofs.Common.{ℕ, ◌≡◌, ◌<◌, get_or, Some, None, pos}
use Rattle.k_mem.proofs.cells.set_cells.Given as goal

-- the cells so far have the values, or 0
abbrev pub invariant-loop-at : goal.invariant-loop-at
invariant-loop-at l = (k : ℕ) → k < l.at → get_or l.cells k None ≡ Some (get_or l.values k (pos 0))
