use Rattle.std.proofs.Common.{refl, subst, Ok}
use Rattle.k_replay.specs.declared.answer.Deal.TheVariants.{Given, Idle}
use Rattle.k_replay.specs.Calls.{Fires, Takes}
use Rattle.k_replay.specs.Orders.{Fired, Took}
use Rattle.k_replay.specs.Plays.{Play}
use Rattle.k_replay.proofs.Advancing.{none_held}
use Rattle.k_replay.proofs.rounds.act.Goals as goal

pub returns-in_ok-count_fired-in-Ok-clause-acts : goal.returns-in_ok-count_fired-in-Ok-clause-acts
returns-in_ok-count_fired-in-Ok-clause-acts c =
    let fires : Fires c.args.core.now c.args.worker (Ok c.in-Ok._k) c.fire.new.self = c.in-Ok.ensures.fires in
    record {
      call = Fired c.args.worker (Ok c.in-Ok._k);
      due = (refl, fires.0);
      does = (c.requires.within, fires);
      tallies = c.in_ok-count_fired-in-Ok.ensures.tallied c.in-Ok._k;
    }

pub returns-in_ok-count_idle-in-Idle-clause-acts : goal.returns-in_ok-count_idle-in-Idle-clause-acts
returns-in_ok-count_idle-in-Idle-clause-acts c =
    let none = none_held c.args.core.now c.fire.new.self c.args.worker c.in-Err-NoneHeld.field-0 c.in-Err-NoneHeld.field-0-is c.in-Err-NoneHeld.ensures.fires in
    let takes : Takes c.fire.new.self c.args.worker Idle c.take.new.self = c.in-Idle.ensures.takes in
    record {
      call = Took c.args.worker Idle;
      due = (refl, none.0);
      does = (c.requires.within, subst (λ (p : Play). Takes p c.args.worker Idle c.take.new.self) none.1 takes);
      tallies = c.in_ok-count_idle-in-Idle.ensures.tallied;
    }

pub returns-in-Given-clause-acts : goal.returns-in-Given-clause-acts
returns-in-Given-clause-acts c =
    let none = none_held c.args.core.now c.fire.new.self c.args.worker c.in-Err-NoneHeld.field-0 c.in-Err-NoneHeld.field-0-is c.in-Err-NoneHeld.ensures.fires in
    let takes : Takes c.fire.new.self c.args.worker (Given c.in-Given._k) c.take.new.self = c.in-Given.ensures.takes in
    record {
      call = Took c.args.worker (Given c.in-Given._k);
      due = (refl, none.0);
      does = (c.requires.within, subst (λ (p : Play). Takes p c.args.worker (Given c.in-Given._k) c.take.new.self) none.1 takes);
      tallies = refl;
    }
