use Rattle.std.proofs.Common.{◌+◌, ◌∙◌}
use Rattle.k_hcpa_store.specs.Kept.{Kept, configuration_of}
use Rattle.k_hcpa_store.proofs.Operating.{pc_within}
use Rattle.k_hcpa_store.proofs.Moving.{region_entered}
use Rattle.k_hcpa_store.proofs.state.State.enter.Goals as goal

pub next-next-requires : goal.next-next-requires
next-next-requires c = pc_within c.args.self.now c.args.instr.now c.requires.sound c.requires.next

pub returns : goal.returns
unfolding configuration_of
returns c =
    let s : Kept = c.args.self.now in
    region_entered s c.args.instr.now c.requires.sound c.requires.next c.set_regions.new.self
    (c.set_regions.ensures ∙ (λ i. record s { pc = c.next-next.ensures i; call = record s.call { regions = (c.self.view_is i).call.regions + 1 } })) c.requires.few
