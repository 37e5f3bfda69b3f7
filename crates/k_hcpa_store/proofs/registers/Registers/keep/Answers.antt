use Rattle.std.proofs.Common.{List, map, take, ◌∙◌, ap, sym}
use Rattle.std.proofs.lemmas.List.{take-map}
use Rattle.k_hcpa_store.specs.declared.register.Register.{Register}
use Rattle.k_hcpa_store.specs.Slots.{held_of}
use Rattle.k_hcpa_store.proofs.registers.Registers.keep.Goals as goal

pub returns : goal.returns
returns c =
    ap (λ (xs : List Register). map held_of xs) c.truncate.ensures.items ∙ sym (take-map held_of c.args.count c.self.inside.list.items) ∙ ap (take c.args.count) c.self.view_is
