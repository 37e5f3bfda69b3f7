use Rattle.std.proofs.Common.{◌≤◌, ◌∙◌, List, Option, ℕ, length, arith, ap}
use Rattle.std.proofs.lemmas.List.{length-take-le}
use Rattle.k_mem.specs.Memory.{Memory, live_elements}
use Rattle.k_world.proofs.Elements.{live_popped}
use Rattle.k_world.proofs.run_state.RunState.pop_objects.Goals as goal

-- what is left of the origins are those of the elements that are left
pub invariant_of-self : goal.invariant_of-self
invariant_of-self c =
    let kept = ap (λ (m : Memory). live_elements m) c.pop_objects.ensures.kept in
    let few : c.live_elements.result ≤ length c.self.inside.origins.items =
    omega (arith, c.live_elements.ensures.count, kept, live_popped c.self.inside.objects c.args.keep, c.self.invariant) in
    ap (λ (origins : List (Option ℕ)). length origins) c.truncate.ensures.items
    ∙ length-take-le c.live_elements.result c.self.inside.origins.items few ∙ c.live_elements.ensures.count
