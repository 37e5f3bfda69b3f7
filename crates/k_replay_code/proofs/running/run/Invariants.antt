use Rattle.k_replay_code.specs.Running.{Stands, left_to_go, setting_of}
use Rattle.k_replay_code.proofs.running.run.Given as goal

-- the run goes on, and what it made so far is recorded
abbrev pub invariant-loop-end : goal.invariant-loop-end
invariant-loop-end l = Stands (setting_of l.fn.program) l.store l.tape.recorder

abbrev pub decreases-loop-end : goal.decreases-loop-end
decreases-loop-end l = left_to_go l.store
