use Rattle.k_carry.specs.Running.{left_to_go}
use Rattle.k_carry_storage.specs.Running.{IsKept, setting_of}
use Rattle.k_carry_storage.proofs.running.run.Given as goal

-- the run goes on, and what is kept is that of it
abbrev pub invariant-loop-end : goal.invariant-loop-end
invariant-loop-end l = IsKept (setting_of l.fn.program) l.store l.noted.gathering l.noted.loads l.noted.stores

abbrev pub decreases-loop-end : goal.decreases-loop-end
decreases-loop-end l = left_to_go l.store
