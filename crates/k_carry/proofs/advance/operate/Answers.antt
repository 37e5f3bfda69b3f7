use Rattle.std.proofs.Common.{Err, sym, subst}
use Rattle.k_world.specs.declared.answer.Stop.{Stop}
use Rattle.k_carry.specs.declared.advance.Happened.{Happened}
use Rattle.k_carry.specs.Steps.{Advances}
use Rattle.k_hcpa_store.specs.Leads.{Operates, goes_by}
use Rattle.k_carry.proofs.Advancing.{ended, operated, the_some}
use Rattle.k_carry.proofs.advance.operate.Goals as goal

pub returns-in-Ok : goal.returns-in-Ok
returns-in-Ok c =
    let o = the_some (goes_by c.args.instr.now.act) c.requires.kind in
    operated c.args.store.now c.operate.new.self c.args.instr.now o.0.0 c.told_by.result c.in-Ok.done.hidden c.in-Ok.done.control
    c.told_by.ensures.hidden c.told_by.ensures.control (c.in-Ok.ensures o.0 o.1).0

pub returns-in-Err-Ended : goal.returns-in-Err-Ended
returns-in-Err-Ended c =
    let o = the_some (goes_by c.args.instr.now.act) c.requires.kind in
    subst (λ (h : Happened). Advances c.args.store.now c.args.instr.now h c.operate.new.self) (sym c.nothing.ensures)
    (ended c.args.store.now c.operate.new.self c.args.instr.now c.in-Err-Ended.end
    (subst (λ (s : Stop). Operates c.args.store.now c.args.instr.now o.0 (Err s) c.operate.new.self) c.in-Err-Ended.field-0-is (c.in-Err-Ended.ensures o.0 o.1)))
