use Rattle.std.proofs.Common.{subst}
use Rattle.k_hcpa_store.specs.Parts.{IsWithin}
use Rattle.k_hcpa_store.proofs.Operating.{within, pc_within, first_within}
use Rattle.k_hcpa_store.proofs.Making.{given_operates, given_sound, given_tells, tested_operates, tested_sound, tested_tells}
use Rattle.k_hcpa_store.proofs.state.State.operate.Goals as goal

pub at_once-requires : goal.at_once-requires
at_once-requires c = first_within c.args.self.now c.args.instr.now c.requires.sound c.requires.next

pub give_at_once-requires-clause-left : goal.give_at_once-requires-clause-left
give_at_once-requires-clause-left c = c.in-Gives.ensures.1.left

pub give_at_once-requires-clause-within : goal.give_at_once-requires-clause-within
give_at_once-requires-clause-within c =
    subst (λ r. IsWithin c.args.self.now.call.first r c.args.self.now.registers) c.in-Gives.ensures.1.sets (within c.args.self.now c.args.instr.now c.requires.sound c.requires.next)

pub give_at_once-requires-clause-next : goal.give_at_once-requires-clause-next
give_at_once-requires-clause-next c = pc_within c.args.self.now c.args.instr.now c.requires.sound c.requires.next

pub lead_at_once-requires-clause-left : goal.lead_at_once-requires-clause-left
lead_at_once-requires-clause-left c = c.in-Tests.ensures.left

pub lead_at_once-requires-clause-within : goal.lead_at_once-requires-clause-within
lead_at_once-requires-clause-within c =
    subst (λ r. IsWithin c.args.self.now.call.first r c.args.self.now.registers) c.in-Tests.ensures.sets (within c.args.self.now c.args.instr.now c.requires.sound c.requires.next)

pub returns-in-Gives-clause-operates : goal.returns-in-Gives-clause-operates
returns-in-Gives-clause-operates c =
    given_operates c.args.self.now c.args.instr.now c.requires.sound c.requires.next c.give_at_once.result c.give_at_once.new.self c.in-Gives.value c.in-Gives.to c.in-Gives.ensures.1
    c.give_at_once.ensures.counts c.give_at_once.ensures.given

pub returns-in-Gives-clause-made : goal.returns-in-Gives-clause-made
returns-in-Gives-clause-made c =
    given_tells c.args.self.now c.args.instr.now c.requires.sound c.requires.next c.give_at_once.result c.give_at_once.new.self c.in-Gives.value c.in-Gives.to c.in-Gives.ensures.1
    c.give_at_once.ensures.counts c.give_at_once.ensures.given

pub returns-in-Gives-clause-sound : goal.returns-in-Gives-clause-sound
returns-in-Gives-clause-sound c =
    given_sound c.args.self.now c.args.instr.now c.requires.sound c.requires.next c.give_at_once.result c.give_at_once.new.self c.in-Gives.value c.in-Gives.to c.in-Gives.ensures.1
    c.give_at_once.ensures.counts c.give_at_once.ensures.given

pub returns-in-Tests-clause-operates : goal.returns-in-Tests-clause-operates
returns-in-Tests-clause-operates c =
    tested_operates c.args.self.now c.args.instr.now c.requires.sound c.requires.next c.lead_at_once.result c.lead_at_once.new.self c.in-Tests.holds c.in-Tests.pc c.in-Tests.to c.in-Tests.ensures
    c.lead_at_once.ensures.counts c.lead_at_once.ensures.given

pub returns-in-Tests-clause-made : goal.returns-in-Tests-clause-made
returns-in-Tests-clause-made c =
    tested_tells c.args.self.now c.args.instr.now c.requires.sound c.requires.next c.lead_at_once.result c.lead_at_once.new.self c.in-Tests.holds c.in-Tests.pc c.in-Tests.to c.in-Tests.ensures
    c.lead_at_once.ensures.counts c.lead_at_once.ensures.given

pub returns-in-Tests-clause-sound : goal.returns-in-Tests-clause-sound
returns-in-Tests-clause-sound c =
    tested_sound c.args.self.now c.args.instr.now c.requires.sound c.requires.next c.lead_at_once.result c.lead_at_once.new.self c.in-Tests.holds c.in-Tests.pc c.in-Tests.to c.in-Tests.ensures
    c.lead_at_once.ensures.counts c.lead_at_once.ensures.given
