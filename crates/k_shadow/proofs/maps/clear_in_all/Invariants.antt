use Rattle.k_shadow.specs.Content.{without}
use Rattle.k_shadow.proofs.Changed.{Changed}
use Rattle.k_shadow.proofs.maps.clear_in_all.Given as goal

-- the maps so far were changed
abbrev pub invariant-loop-level : goal.invariant-loop-level
invariant-loop-level l = Changed (λ level m. without l.first l.count m) l.level l.initial.maps l.maps
