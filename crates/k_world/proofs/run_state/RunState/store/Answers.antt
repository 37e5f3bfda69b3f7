use Rattle.std.proofs.Common.{◌≡◌, ◌∙◌, length, vec_len, arith, rules, sym}
use Rattle.k_world.proofs.Elements.{stored_within}
use Rattle.k_world.proofs.Origins.{length_lent}
use Rattle.k_world.proofs.run_state.RunState.store.Goals as goal

-- the element that was stored has an origin
pub set_origin-requires : goal.set_origin-requires
set_origin-requires c =
    let live = stored_within c.self.inside.objects _ c.in-Some.at _ _ c.store.ensures.laid_out c.in-Ok.ensures.ok (sym c.in-Ok.ensures.element) in
    rw c.deref_mut.ensures.value (omega (arith, c.self.invariant, live.0))

-- as many elements have as many origins
pub invariant_of-self : goal.invariant_of-self
invariant_of-self c =
    let entries : vec_len c.self.inside.origins ≡ length c.self.inside.origins.items = search rules in
    let live = stored_within c.self.inside.objects _ c.in-Some.at _ _ c.store.ensures.laid_out c.in-Ok.ensures.ok (sym c.in-Ok.ensures.element) in
    length_lent c.self.inside.origins.items c.set_origin.new.origins (vec_len c.self.inside.origins) (omega (arith, entries))
    ∙ entries ∙ c.self.invariant ∙ sym live.1
