use Rattle.std.proofs.Common.{refl, List, map, ◌∙◌, ap}
use Rattle.k_hcpa_store.specs.declared.register.Register.{Register}
use Rattle.k_hcpa_store.specs.declared.register.Slot.TheVariants.{Unset}
use Rattle.k_hcpa_store.specs.Slots.{held_of}
use Rattle.k_hcpa_store.proofs.Keeping.{held_resized}
use Rattle.k_hcpa_store.proofs.registers.Registers.unset.Goals as goal

pub returns : goal.returns
returns c =
    ap (λ (xs : List Register). map held_of xs) c.in_ok-resize.ensures.items
    ∙ held_resized c.args.count _ c.new-list.result.items (record { slot = Unset; source = 0 }) c.new-list.ensures.items c.new-list.ensures.len refl
