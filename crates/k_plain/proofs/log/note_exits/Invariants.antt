use Rattle.std.proofs.Common.{◌≡◌, ◌++◌, replicate}
use Rattle.k_optab.specs.declared.event.Event.TheVariants.{Exit}
use Rattle.k_plain.proofs.log.note_exits.Given as goal

-- those so far with the rest are all
abbrev pub invariant-loop-rest : goal.invariant-loop-rest
invariant-loop-rest l = l.log.events ++ replicate l.rest Exit ≡ l.fn.log.events ++ replicate l.fn.count Exit

abbrev pub decreases-loop-rest : goal.decreases-loop-rest
decreases-loop-rest l = l.rest
