use Rattle.std.proofs.Common.{Err, sym, subst, List}
use Rattle.k_world.specs.declared.answer.Stop.{Stop}
use Rattle.k_carry.specs.declared.advance.Happened.{Happened}
use Rattle.k_carry.specs.Steps.{Advances}
use Rattle.k_optab.specs.declared.class.Class.TheVariants as class
use Rattle.k_optab.specs.declared.event.Event.{Event}
use Rattle.k_hcpa_store.specs.Leads.{GoesAlone, GoesOn}
use Rattle.k_carry.proofs.Advancing.{ended}
use Rattle.k_carry.proofs.advance.go_alone.Goals as goal

pub returns-in-Ok : goal.returns-in-Ok
returns-in-Ok c =
    subst (λ (h : Happened). Advances c.args.store.now c.args.instr.now h c.alone.new.self) (sym c.nothing.ensures)
    (class.Move, subst (λ (more : List Event). GoesOn c.args.store.now more c.alone.new.self) c.requires.kind.1 c.in-Ok.ensures.0)

pub returns-in-Err-Ended : goal.returns-in-Err-Ended
returns-in-Err-Ended c =
    subst (λ (h : Happened). Advances c.args.store.now c.args.instr.now h c.alone.new.self) (sym c.nothing-in-Err-Ended.ensures)
    (ended c.args.store.now c.alone.new.self c.args.instr.now c.in-Err-Ended.end
    (subst (λ (s : Stop). GoesAlone c.args.store.now c.args.instr.now.act (Err s) c.alone.new.self) c.in-Err-Ended.field-0-is c.in-Err-Ended.ensures))
