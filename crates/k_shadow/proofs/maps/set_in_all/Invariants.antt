use Rattle.std.proofs.Common.{get_or}
use Rattle.k_shadow.specs.Content.{with_time}
use Rattle.k_shadow.proofs.Changed.{Changed}
use Rattle.k_shadow.proofs.maps.set_in_all.Given as goal

-- the maps so far were changed
abbrev pub invariant-loop-level : goal.invariant-loop-level
invariant-loop-level l = Changed (λ level m. with_time l.loc (get_or l.times level 0) m) l.level l.initial.maps l.maps
