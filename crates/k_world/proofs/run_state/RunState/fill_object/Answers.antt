use Rattle.std.proofs.Common.{◌≡◌, ◌∙◌, length, vec_len, arith, rules, sym, ap}
use Rattle.k_mem.specs.Memory.{Memory, live_elements}
use Rattle.k_world.proofs.Elements.{elements_within, live_filled}
use Rattle.k_world.proofs.Origins.{length_lent}
use Rattle.k_world.proofs.run_state.RunState.fill_object.Goals as goal

-- an object's elements have their origins
pub clear_origins-requires : goal.clear_origins-requires
clear_origins-requires c =
    let ends = elements_within c.self.inside.objects c.args.object c.in_ok-first.field-0 c.in_ok-count.field-0 c.first_element.ensures.laid_out (sym c.in_ok-first.ensures.element) (sym c.in_ok-count.ensures.count) in
    rw c.deref_mut.ensures.value (omega (arith, c.self.invariant, ends))

-- where nothing was set nothing has changed
pub invariant_of-self : goal.invariant_of-self
invariant_of-self c = rw c.in_err-fill_items.ensures.err c.self.invariant

-- as many elements have as many origins
pub invariant_of-self-2 : goal.invariant_of-self-2
invariant_of-self-2 c =
    let entries : vec_len c.self.inside.origins ≡ length c.self.inside.origins.items = search rules in
    length_lent c.self.inside.origins.items c.clear_origins.new.origins (vec_len c.self.inside.origins) (omega (arith, entries))
    ∙ entries ∙ c.self.invariant ∙ sym (ap (λ (m : Memory). live_elements m) c.in_ok-fill_items.ensures.ok ∙ live_filled c.self.inside.objects c.args.object c.args.items.now)
