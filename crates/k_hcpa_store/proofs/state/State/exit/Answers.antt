use Rattle.std.proofs.Common.{◌+◌, ◌-◌, ◌∙◌}
use Rattle.k_hcpa_store.specs.Kept.{Kept}
use Rattle.k_hcpa_store.proofs.Operating.{pc_within}
use Rattle.k_hcpa_store.proofs.Moving.{region_left}
use Rattle.k_hcpa_store.proofs.state.State.exit.Goals as goal

pub next-next-requires : goal.next-next-requires
next-next-requires c = pc_within c.args.self.now c.args.instr.now c.requires.sound c.requires.next

pub returns : goal.returns
returns c =
    let s : Kept = c.args.self.now in
    region_left s c.args.instr.now c.requires.sound c.requires.next c.set_regions.new.self
    (c.set_regions.ensures ∙ (λ i. record s { pc = c.next-next.ensures i; call = record s.call { regions = c.saturating_sub-regions.ensures i } })
    ∙ (λ i. record s { pc = s.pc + 1; call = record s.call { regions = (c.self.view_is i).call.regions - 1 } })) c.requires.exit
