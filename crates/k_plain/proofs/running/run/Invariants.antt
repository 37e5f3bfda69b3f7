use Rattle.k_plain.specs.Running.{Stands, left_to_go}
use Rattle.k_plain.proofs.running.run.Given as goal

-- the run goes on behind the events that are listed
abbrev pub invariant-loop-end : goal.invariant-loop-end
invariant-loop-end l = Stands l.fn.setting l.store l.log.events

abbrev pub decreases-loop-end : goal.decreases-loop-end
decreases-loop-end l = left_to_go l.store
