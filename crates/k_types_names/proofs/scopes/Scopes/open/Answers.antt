use Rattle.std.proofs.Common.{◌≡◌, ◌≤◌, arith, length, reverse, rules, vec_len}
use Rattle.std.proofs.lemmas.List.{length-reverse}
use Rattle.k_types_names.specs.Slots.{opened}
use Rattle.k_types_names.proofs.Kept.{opened_within}
use Rattle.k_types_names.proofs.scopes.Scopes.open.Goals as goal

pub overflow_add-self : goal.overflow_add-self
overflow_add-self c =
    let depth : c.self.inside.depth ≡ opened (reverse c.self.inside.slots.items) = c.self.invariant.counted in
    let within : opened (reverse c.self.inside.slots.items) ≤ length (reverse c.self.inside.slots.items) = opened_within (reverse c.self.inside.slots.items) in
    let count : length (reverse c.self.inside.slots.items) ≡ length c.self.inside.slots.items = length-reverse c.self.inside.slots.items in
    let len : vec_len c.self.inside.slots ≡ length c.self.inside.slots.items = search rules in
    let small = c.self.inside.slots.small in
    omega arith
