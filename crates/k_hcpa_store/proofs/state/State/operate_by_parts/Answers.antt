use Rattle.k_world.specs.Answers.{act_of}
use Rattle.k_hcpa_store.specs.Parts.{listed}
use Rattle.k_hcpa_store.proofs.Operating.{within, pc_within, first_within, makes_err, makes_ok, operates_ok, sound_ok, operates_err, sound_err}
use Rattle.k_hcpa_store.proofs.state.State.operate_by_parts.Goals as goal

pub perform-requires : goal.perform-requires
perform-requires c = first_within c.args.self.now c.args.instr.now c.requires.sound c.requires.next

pub give-requires-clause-within : goal.give-requires-clause-within
give-requires-clause-within c = rw c.in-Ok.ensures.kept (within c.args.self.now c.args.instr.now c.requires.sound c.requires.next)

pub give-requires-clause-next : goal.give-requires-clause-next
give-requires-clause-next c = rw c.in-Ok.ensures.kept (pc_within c.args.self.now c.args.instr.now c.requires.sound c.requires.next)

pub returns-in-Ok-clause-operates : goal.returns-in-Ok-clause-operates
returns-in-Ok-clause-operates c =
    operates_ok c.args.self.now c.args.instr.now c.requires.sound c.requires.next (act_of c.in-Some.act) (listed c.operands_in.result) c.perform.new.self
    c.in-Some.ensures c.operands_in.ensures c.in-Ok.ensures.kept c.in-Ok.done c.give.new.self c.in-Ok.ensures.made c.in-Ok.ensures.element c.give.ensures

pub returns-in-Ok-clause-sound : goal.returns-in-Ok-clause-sound
returns-in-Ok-clause-sound c =
    sound_ok c.args.self.now c.args.instr.now c.requires.sound c.requires.next (act_of c.in-Some.act) (listed c.operands_in.result) c.perform.new.self
    c.in-Some.ensures c.operands_in.ensures c.in-Ok.ensures.kept c.in-Ok.done c.give.new.self c.in-Ok.ensures.made c.give.ensures

pub returns-in-Err-clause-operates : goal.returns-in-Err-clause-operates
returns-in-Err-clause-operates c =
    operates_err c.args.self.now c.args.instr.now c.requires.sound c.requires.next (act_of c.in-Some.act) (listed c.operands_in.result) c.perform.new.self
    c.in-Some.ensures c.operands_in.ensures c.in-Err.ensures.kept c.in-Err.stop c.in-Err.ensures.made

pub returns-in-Err-clause-sound : goal.returns-in-Err-clause-sound
returns-in-Err-clause-sound c =
    sound_err c.args.self.now c.args.instr.now c.requires.sound c.requires.next (act_of c.in-Some.act) (listed c.operands_in.result) c.perform.new.self
    c.in-Some.ensures c.operands_in.ensures c.in-Err.ensures.kept c.in-Err.stop c.in-Err.ensures.made

pub returns-in-Ok-clause-made : goal.returns-in-Ok-clause-made
returns-in-Ok-clause-made c =
    makes_ok c.args.self.now c.args.instr.now c.requires.sound c.requires.next (act_of c.in-Some.act) (listed c.operands_in.result) c.perform.new.self
    c.in-Some.ensures c.operands_in.ensures c.in-Ok.ensures.kept c.in-Ok.done c.give.new.self c.in-Ok.ensures.made c.give.ensures

pub returns-in-Err-clause-made : goal.returns-in-Err-clause-made
returns-in-Err-clause-made c =
    makes_err c.args.self.now c.args.instr.now c.requires.sound c.requires.next (act_of c.in-Some.act) (listed c.operands_in.result) c.perform.new.self
    c.in-Some.ensures c.operands_in.ensures c.in-Err.ensures.kept c.in-Err.stop c.in-Err.ensures.made
