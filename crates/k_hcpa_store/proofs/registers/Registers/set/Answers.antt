use Rattle.std.proofs.Common.{List, Option, ◌+◌, ◌∙◌, ap}
use Rattle.std.specs.Prelude.{slice_set}
use Rattle.k_world.specs.declared.value.Held.{Held}
use Rattle.k_hcpa_store.specs.Slots.{held_of}
use Rattle.k_hcpa_store.proofs.Keeping.{held_set}
use Rattle.k_hcpa_store.proofs.registers.Registers.set.Goals as goal

pub returns : goal.returns
returns c =
    held_set c.self.inside.list.items (c.args.first + c.args.r) c.args.register
    ∙ ap (λ (xs : List (Option Held)). slice_set xs (c.args.first + c.args.r) (held_of c.args.register)) c.self.view_is
