use Rattle.std.proofs.Common.{length}
use Rattle.k_carry_storage_pairs.specs.declared.pairs.LoopStorage.{LoopStorage}
use Rattle.k_advise_verdicts.specs.Told.{number_of_storage}
use Rattle.k_advise_verdicts.proofs.Walking.{Reached}
use Rattle.k_advise_verdicts.proofs.walk.shared_from.Given as goal

abbrev pub invariant-loop-first : goal.invariant-loop-first
invariant-loop-first l = Reached LoopStorage number_of_storage l.region l.fn.loops l.rest

abbrev pub decreases-loop-first : goal.decreases-loop-first
decreases-loop-first l = length l.rest
