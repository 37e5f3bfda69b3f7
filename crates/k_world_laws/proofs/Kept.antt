-- The objects that are kept where others die, and the origins of their elements.
use Rattle.std.proofs.Common.{◌≡◌, ◌≤◌, List, take, sum_by, ◌∙◌, ap, subst, arith}
use Rattle.std.proofs.lemmas.List.{take-take, take_all}
use Rattle.std.proofs.lemmas.List.Sums.{sum_by-take-le}
use Rattle.k_mem.specs.Memory.{Object, live_elements}
use Rattle.k_mem.proofs.Numbers.{size}
use Rattle.k_world_laws.specs.Laws.{KeepingFewer, KeepingAll}

pub keeping_fewer : KeepingFewer
keeping_fewer w a b le =
    let live : take b (take a w.memory.live) ≡ take b w.memory.live = take-take b a w.memory.live le in
    let few : sum_by size (take b w.memory.live) ≤ sum_by size (take a w.memory.live) =
    subst (λ (objects : List Object). sum_by size objects ≤ sum_by size (take a w.memory.live)) live (sum_by-take-le size (take a w.memory.live) b) in
    let origins : take (sum_by size (take b (take a w.memory.live))) (take (sum_by size (take a w.memory.live)) w.origins)
    ≡ take (sum_by size (take b w.memory.live)) w.origins =
    ap (λ (objects : List Object). take (sum_by size objects) (take (sum_by size (take a w.memory.live)) w.origins)) live
    ∙ take-take (sum_by size (take b w.memory.live)) (sum_by size (take a w.memory.live)) w.origins few in
    λ i. record w { memory = record w.memory { live = live i }; origins = origins i }

pub keeping_all : KeepingAll
keeping_all w keep has enough =
    let live : take keep w.memory.live ≡ w.memory.live = take_all keep w.memory.live enough in
    let origins : take (sum_by size (take keep w.memory.live)) w.origins ≡ w.origins =
    ap (λ (objects : List Object). take (sum_by size objects) w.origins) live
    ∙ take_all (live_elements w.memory) w.origins (omega (arith, has)) in
    λ i. record w { memory = record w.memory { live = live i }; origins = origins i }
